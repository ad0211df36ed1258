-- The answers of the call, each by the branch that led to it: what a branch has tested decides the definition's `cond`. A right image is as long as
-- what is written, so the whole of it is written back.
use Prim.Native.Nat.{ℕ}
use mathlib.Core.Bool.{Bool, true, false, cond}
use mathlib.Core.List.{List}
use mathlib.Core.Path.{◌≡◌, refl, sym, ◌∙◌, ap}
use lib.ListN.{length}
use Rattle.std.specs.Prelude.{Ok, Err}
use Rattle.std.specs.Result.{is_ok}
use Rattle.section.specs.Refusal.{Outcome}
use Rattle.section.specs.declared.Section.{Section}
use Rattle.section.specs.Outcome.{if_done}
use Rattle.text.specs.Text.{written}
use Rattle.image.specs.Image.{image_of, image_well_formed, section_of}
use Rattle.image.proofs.Laws.{well_formed_length, whole_written}
use Rattle.run.specs.declared.RunAnswer.{RunAnswer}
use Rattle.run.specs.Run.{outcome_of, run_of, answers_after}
use Rattle.capi_run.specs.Run.{run_outcome, run_image, run_answers}

module _ (image steps buffer : List ℕ) where
  -- bytes that are no image
  module _ {r : Bool} (er : r ≡ image_well_formed image) (not_one : r ≡ false) where
    pub no_image_left : image ≡ run_image image steps (length buffer)
    unfolding run_outcome run_image if_done
    no_image_left = rw (sym er ∙ not_one)

    pub no_answers : buffer ≡ run_answers image steps buffer
    unfolding run_answers
    no_answers = rw (sym er ∙ not_one)

  module _
      {r : Bool} (er : r ≡ image_well_formed image) (well : r ≡ true) {s : Section} {a : RunAnswer} (es : s ≡ section_of image)
      (ea : a ≡ run_of s steps (length buffer)) where
    e : image_well_formed image ≡ true
    e = sym er ∙ well

    pub outcome_told : a.outcome ≡ run_outcome image steps (length buffer)
    unfolding run_of run_outcome
    outcome_told = rw e (ap (λ (x : RunAnswer). x.outcome) ea ∙ ap (λ (x : Section). outcome_of x steps (length buffer)) es)

    section_is : a.section ≡ (run_of (section_of image) steps (length buffer)).section
    section_is = ap (λ (x : RunAnswer). x.section) ea ∙ ap (λ (x : Section). (run_of x steps (length buffer)).section) es

    pub answers_are : {answers : List ℕ} → answers ≡ answers_after s steps buffer → answers ≡ run_answers image steps buffer
    unfolding run_answers
    answers_are eb = rw e (eb ∙ ap (λ (x : Section). answers_after x steps buffer) es)

    by_outcome : (o : Outcome) → a.outcome ≡ o → {b : Bool} → b ≡ is_ok o → (after : List ℕ)
        → after ≡ cond b (written image 0 (image_of a.section)) image → after ≡ run_image image steps (length buffer)
    unfolding run_image if_done
    by_outcome (Ok count) o eb after put =
        rw (← outcome_told, o) (put ∙ (rw eb (whole_written image a.section (well_formed_length image e) ∙ ap image_of section_is)))
    by_outcome (Err refusal) o eb after put = rw (← outcome_told, o) (put ∙ (rw eb refl))

    -- a call that is done writes the image back, a refused one leaves it
    pub written_back : {b : Bool} → b ≡ is_ok a.outcome → b ≡ true → {after : List ℕ} → after ≡ written image 0 (image_of a.section)
        → after ≡ run_image image steps (length buffer)
    written_back eb t {after} put = by_outcome a.outcome refl eb after (rw t put)

    pub left : {b : Bool} → b ≡ is_ok a.outcome → b ≡ false → image ≡ run_image image steps (length buffer)
    left eb f = by_outcome a.outcome refl eb image (rw f refl)
