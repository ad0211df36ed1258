-- What the call to the preview returns, packed into one number, and the lent buffer afterwards.
use Rattle.std.specs.Prelude.{ℕ, ◌*◌, cond, ◌&&◌, List, [], ◌∷◌, ◌++◌, leb, ltb, length, get_or}
use Rattle.section.specs.declared.Indications.{Indications}
use Rattle.section.specs.declared.Section.{Section}
use Rattle.section.specs.Numbers.{most_posts}
use Rattle.section.specs.Range.{in_range}
use Rattle.rules.specs.Indications.{dark}
use Rattle.text.specs.Text.{written, first_texts}
use Rattle.packed.specs.Packed.{packed_verdict}
use Rattle.image.specs.Image.{image_well_formed, section_of}
use Rattle.engine.specs.Preview.{preview}

-- 48 and 96
abbrev pub track_lamps_length : ℕ
track_lamps_length = 3 * most_posts

abbrev pub lamps_length : ℕ
lamps_length = 2 * track_lamps_length

-- three bytes a post: CIRCULATION, TRONÇON, permission
unfoldable pub lamp_bytes : Indications → List ℕ
lamp_bytes l = l.circulation ∷ l.troncon ∷ l.permission ∷ []

-- posts 0 to 15 of a track
unfoldable pub track_lamps : List Indications → List ℕ
track_lamps shown = first_texts (λ p. lamp_bytes (get_or shown p dark)) most_posts

-- track A, then track B
unfoldable pub lamps : List Indications → List Indications → List ℕ
lamps a b = track_lamps a ++ track_lamps b

-- 6 for bytes that are no section's image and for a state out of range; then 5: "buffer is too short"; else the answer of judging
unfoldable pub preview_answer : List ℕ → List ℕ → ℕ → ℕ
preview_answer image step room =
    cond (image_well_formed image)
    (cond (in_range (section_of image)) (cond (ltb room lamps_length) 5 (packed_verdict (preview (section_of image) step).verdict)) 6)
    6

-- "Every indication of a state that gives 6 .. is 0"
unfoldable pub lamps_after : Section → List ℕ → List ℕ
lamps_after s step = lamps (preview s step).a (preview s step).b

-- written for an image in a buffer that is long enough; else the buffer stays as it was, and so does what stands behind the lamps
unfoldable pub preview_lamps : List ℕ → List ℕ → List ℕ → List ℕ
preview_lamps image step buffer =
    cond (image_well_formed image && leb lamps_length (length buffer)) (written buffer 0 (lamps_after (section_of image) step)) buffer
