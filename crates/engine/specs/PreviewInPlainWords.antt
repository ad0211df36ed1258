-- A step tried first, in plain words: what a tester reads off the three statements of Preview.antt, each drawn from them alone
-- (`preview_in_plain_words`, proofs/PreviewInPlainWords.antt).
use Rattle.std.specs.Prelude.{ℕ, List, map, ◌≡◌, get_or}
use Rattle.section.specs.declared.Section.{Section}
use Rattle.rules.specs.Indications.{dark, indications}
use Rattle.rules.specs.Judge.{judge}
use Rattle.engine.specs.Preview.{preview, Request, Tried, steps_taken, answers_to, section_after_day}

pub record PreviewInPlainWords : Type 0 where
  -- A step that is tried and then taken gets the answer that it was told.
  pub told_then_given : (s : Section) (bytes : List ℕ) → (judge (preview s bytes).section bytes).verdict ≡ (preview s bytes).verdict
  -- And every post of both tracks then shows what the preview showed.
  pub shown_then_seen :
      (s : Section) (bytes : List ℕ) (p : ℕ)
      → (indications (judge (preview s bytes).section bytes).section 0 p ≡ get_or (preview s bytes).a p dark)
      × (indications (judge (preview s bytes).section bytes).section 1 p ≡ get_or (preview s bytes).b p dark)
  -- However many steps are tried, the section is as it was.
  pub trying_changes_nothing : (s : Section) (tried : List (List ℕ)) → section_after_day s (map Tried tried) ≡ s
  -- Days that take the same steps have the same answers and the same end, whatever was tried between.
  pub only_what_is_taken_counts :
      (s : Section) (one other : List Request) → steps_taken one ≡ steps_taken other
      → (answers_to s one ≡ answers_to s other) × (section_after_day s one ≡ section_after_day s other)
