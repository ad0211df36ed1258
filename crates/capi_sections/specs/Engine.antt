-- What the calls to the engine return, packed into one number, and the lent buffer afterwards.
use Rattle.std.specs.Prelude.{ℕ, cond, List, length, ltb}
use Rattle.std.specs.Prelude.{Ok, Err}
use Rattle.section.specs.Refusal.{Verdict}
use Rattle.section.specs.Fresh.{fresh_section}
use Rattle.rules.specs.Indications.{indications}
use Rattle.rules.specs.Judge.{judge}
use Rattle.text.specs.Text.{written}
use Rattle.layout.specs.Layout.{settings_of}
use Rattle.packed.specs.Packed.{packed_indications, packed_verdict}
use Rattle.packed.specs.Settings.{lent_settings_well_formed}
use Rattle.image.specs.Image.{image_length, image_of, image_well_formed, section_of}

-- ## The fresh section

-- 6 for bytes that are no settings, as for a state with settings out of range; then 5: "buffer is too short"
unfoldable pub fresh_answer : List ℕ → ℕ → ℕ
fresh_answer settings room = cond (lent_settings_well_formed settings) (cond (ltb room image_length) 5 0) 6

-- the fresh section's image at the buffer's front; a refused call leaves it untouched
unfoldable pub fresh_image : List ℕ → List ℕ → List ℕ
fresh_image settings buffer =
    cond (lent_settings_well_formed settings)
    (cond (ltb (length buffer) image_length) buffer (written buffer 0 (image_of (fresh_section (settings_of settings)))))
    buffer

-- ## A step judged

-- bytes that are no section's image give 6
unfoldable pub judge_answer : List ℕ → List ℕ → ℕ
judge_answer image step = cond (image_well_formed image) (packed_verdict (judge (section_of image) step).verdict) 6

-- the old bytes or the new: "written back only when accepted"
unfoldable pub written_back : Verdict → List ℕ → List ℕ → List ℕ
written_back (Ok said) old new = new
written_back (Err k) old new = old

unfoldable pub judge_image : List ℕ → List ℕ → List ℕ
judge_image image step =
    cond (image_well_formed image) (written_back (judge (section_of image) step).verdict image (image_of (judge (section_of image) step).section)) image

-- ## What a post shows

-- bytes that are no section's image give 0
unfoldable pub shown_of : List ℕ → ℕ → ℕ → ℕ
shown_of image track post = cond (image_well_formed image) (packed_indications (indications (section_of image) track post)) 0
