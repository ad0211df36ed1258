-- The answers of the calls over a section's image, each by the branch that led to it: what a branch has tested decides the definition's `cond`.
use Prim.Native.Nat.{ℕ}
use mathlib.Core.Bool.{Bool, true, false, cond}
use mathlib.Core.List.{List}
use mathlib.Core.Path.{◌≡◌, refl, ◌∙◌}
use lib.ListN.{length}
use lib.Dec.{ltb}
use Rattle.std.specs.Prelude.{Ok, Err}
use Rattle.std.specs.Result.{is_ok}
use Rattle.section.specs.declared.Answer.{Answer}
use Rattle.section.specs.declared.Indications.{Indications}
use Rattle.section.specs.declared.Section.{Section}
use Rattle.section.specs.declared.Settings.{Settings}
use Rattle.section.specs.Fresh.{fresh_section}
use Rattle.section.specs.Refusal.{Verdict}
use Rattle.rules.specs.Indications.{indications}
use Rattle.rules.specs.Judge.{judge}
use Rattle.text.specs.Text.{written}
use Rattle.layout.specs.Layout.{settings_of}
use Rattle.packed.specs.Packed.{packed_indications, packed_verdict}
use Rattle.packed.specs.Settings.{lent_settings_well_formed}
use Rattle.image.specs.Image.{image_length, image_of, image_well_formed, section_of}
use Rattle.image.proofs.Laws.{well_formed_length, whole_written}
use Rattle.capi_sections.specs.Engine.{fresh_answer, fresh_image, judge_answer, written_back, judge_image, shown_of}

-- ## The fresh section

module _ (settings buffer : List ℕ) where
  -- the answer, and the buffer afterwards
  abbrev Fresh : ℕ → List ℕ → Type 0
  Fresh r after = (r ≡ fresh_answer settings (length buffer)) × (after ≡ fresh_image settings buffer)

  pub no_settings_lem : lent_settings_well_formed settings ≡ false → Fresh 6 buffer
  unfolding fresh_answer fresh_image
  no_settings_lem e = (rw e, rw e)

  module _ (e : lent_settings_well_formed settings ≡ true) where
    pub too_short : ltb (length buffer) image_length ≡ true → Fresh 5 buffer
    unfolding fresh_answer fresh_image
    too_short h = (rw (e, h), rw (e, h))

    pub put :
        ltb (length buffer) image_length ≡ false → {given : Settings} {s : Section} {after : List ℕ} → given ≡ settings_of settings →
        s ≡ fresh_section given → after ≡ written buffer 0 (image_of s) → Fresh 0 after
    unfolding fresh_answer fresh_image
    put h eg es ew = (rw (e, h), rw (e, h, ← eg, ← es) ew)

-- ## A step judged

module _ (image step : List ℕ) where
  pub no_image_answer : image_well_formed image ≡ false → 6 ≡ judge_answer image step
  unfolding judge_answer
  no_image_answer e = rw e

  pub no_image_left : image_well_formed image ≡ false → image ≡ judge_image image step
  unfolding judge_image
  no_image_left e = rw e

  module _ (e : image_well_formed image ≡ true) {s : Section} {a : Answer} (es : s ≡ section_of image) (ea : a ≡ judge s step) where
    judged : a ≡ judge (section_of image) step
    judged = rw es at ea

    pub answered : {n : ℕ} → n ≡ packed_verdict a.verdict → n ≡ judge_answer image step
    unfolding judge_answer
    answered en = rw (e, ← judged) en

    by_verdict : (v : Verdict) → a.verdict ≡ v → {b : Bool} → b ≡ is_ok v → (after : List ℕ)
        → after ≡ cond b (written image 0 (image_of a.section)) image → after ≡ judge_image image step
    unfolding judge_image written_back
    by_verdict (Ok said) v eb after put = rw (e, ← judged, v) (put ∙ (rw eb (whole_written image a.section (well_formed_length image e))))
    by_verdict (Err refusal) v eb after put = rw (e, ← judged, v) (put ∙ (rw eb refl))

    pub written_back_lem : {b : Bool} → b ≡ is_ok a.verdict → b ≡ true → {after : List ℕ} → after ≡ written image 0 (image_of a.section)
        → after ≡ judge_image image step
    written_back_lem eb t {after} put = by_verdict a.verdict refl eb after (rw t put)

    pub left_lem : {b : Bool} → b ≡ is_ok a.verdict → b ≡ false → image ≡ judge_image image step
    left_lem eb f = by_verdict a.verdict refl eb image (rw f refl)

-- ## What a post shows

pub nothing_shown : (image : List ℕ) (track post : ℕ) → image_well_formed image ≡ false → 0 ≡ shown_of image track post
unfolding shown_of
nothing_shown image track post e = rw e

pub shown :
    (image : List ℕ) (track post : ℕ) → image_well_formed image ≡ true → {s : Section} {i : Indications} {n : ℕ} → s ≡ section_of image →
    i ≡ indications s track post → n ≡ packed_indications i → n ≡ shown_of image track post
unfolding shown_of
shown image track post e es ei en = rw (e, ← es, ← ei) en
