-- What the call that runs steps is answered, and the lent image and buffer afterwards.
use Rattle.std.specs.Prelude.{ℕ, cond, List}
use Rattle.std.specs.Prelude.{Err}
use Rattle.section.specs.declared.CallRefusal.TheVariants.{StateOutOfRange}
use Rattle.section.specs.Refusal.{Outcome}
use Rattle.section.specs.Outcome.{if_done}
use Rattle.image.specs.Image.{image_of, image_well_formed, section_of}
use Rattle.run.specs.Run.{outcome_of, run_of, answers_after}

-- bytes that are no section's image give 6
unfoldable pub run_outcome : List ℕ → List ℕ → ℕ → Outcome
run_outcome image steps room = cond (image_well_formed image) (outcome_of (section_of image) steps room) (Err StateOutOfRange)

-- "written back only when the call is not refused"
unfoldable pub run_image : List ℕ → List ℕ → ℕ → List ℕ
run_image image steps room = if_done (run_outcome image steps room) (image_of (run_of (section_of image) steps room).section) image

unfoldable pub run_answers : List ℕ → List ℕ → List ℕ → List ℕ
run_answers image steps buffer = cond (image_well_formed image) (answers_after (section_of image) steps buffer) buffer
