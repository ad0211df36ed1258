-- The outcomes of a call with the section and the buffer afterwards, each by the tests that lead to it, and what a call that is done has passed.
use Prim.Native.Nat.{ℕ, ◌*◌, ◌≤◌}
use mathlib.Core.Bool.{true, false, not, ◌||◌}
use mathlib.Core.List.{List}
use mathlib.Core.Path.{◌≡◌, sym, ap}
use native.Mathlib.Omega.{arith}
use borrow.Author.Tests.{le-ltb, ltb-false, not-false}
use lib.Dec.{ltb}
use lib.ListN.{length}
use Rattle.std.specs.Prelude.{Ok}
use Rattle.section.specs.Refusal.{call_figure}
use Rattle.section.specs.declared.CallRefusal.TheVariants.{MalformedStep, NoRoom, StateOutOfRange}
use Rattle.section.specs.declared.Section.{Section}
use Rattle.section.specs.Numbers.{step_length}
use Rattle.section.specs.Outcome.{if_done}
use Rattle.section.specs.Range.{in_range}
use Rattle.section.proofs.Outcomes.{other_refusal, step_refusal, no_refusal, past_refusal, same_done}
use Rattle.layout.specs.Layout.{most_steps, step_count}
use Rattle.file_tests.specs.Tests.{well_at, first_malformed, some_malformed}
use Rattle.file_tests.proofs.Laws.{neither, all_pass, all_whole}
use Rattle.notes.specs.Note.{answer_length}
use Rattle.text.specs.Text.{written}
use Rattle.judging_in_place.specs.Offered.{section_before, AllWellFormed}
use Rattle.judging_in_place.specs.Entries.{answers, entries_of}
use Rattle.run.specs.Run.{too_much, outcome_of, IndexOfTheFirst, run_of, answers_after}

-- ## What a call that is done has passed

pub record IsDone (s : Section) (steps : List ℕ) (room count : ℕ) : Type 0 where
  pub range : in_range s ≡ true
  pub steps_well : some_malformed s.settings.posts steps ≡ false
  pub few : count ≤ most_steps
  pub fits : answer_length * count ≤ room
  pub counted : step_count steps ≡ count

pub is_done : (s : Section) (steps : List ℕ) (room count : ℕ) → outcome_of s steps room ≡ Ok count → IsDone s steps room count
unfolding outcome_of too_much
is_done s steps room count e =
    let n = step_count steps in
    let a = past_refusal (not (in_range s)) StateOutOfRange count _ e in
    let b = past_refusal (some_malformed s.settings.posts steps) (MalformedStep (first_malformed s.settings.posts steps)) count _ a.1 in
    let d = past_refusal (ltb most_steps n || ltb room (answer_length * n)) NoRoom count (Ok n) b.1 in
    let counted = same_done n count d.1 in
    let enough = neither (ltb most_steps n) (ltb room (answer_length * n)) d.0 in
    record {
      range = not-false _ a.0;
      steps_well = b.0;
      few = omega (arith, ltb-false most_steps n enough.0, counted);
      fits = omega (arith, ltb-false room (answer_length * n) enough.1, counted);
      counted = counted;
    }

-- and the other way
pub done : (s : Section) (steps : List ℕ) (room count : ℕ) → IsDone s steps room count → outcome_of s steps room ≡ Ok count
unfolding outcome_of too_much
done s steps room count d =
    let few : step_count steps ≤ most_steps = omega (arith, d.few, d.counted) in
    let fits : answer_length * step_count steps ≤ room = omega (arith, d.fits, d.counted) in
    rw (d.range, d.steps_well, le-ltb _ _ few, le-ltb _ _ fits) (ap Ok d.counted)

-- ## What the walk over its steps may ask, and what it leaves

module _ (s : Section) (steps : List ℕ) (room : ℕ) {count : ℕ} (e : Ok count ≡ outcome_of s steps room) where
  passed : IsDone s steps room count
  passed = is_done s steps room count (sym e)

  pub section_in_range : in_range s ≡ true
  section_in_range = passed.range

  pub steps_there : step_length * count ≤ length steps
  steps_there = omega (arith, all_whole s.settings.posts steps passed.steps_well, passed.counted)

  pub steps_well_formed : AllWellFormed s.settings.posts steps count
  unfolding some_malformed first_malformed well_at
  steps_well_formed i more =
      all_pass (well_at s.settings.posts steps) (step_count steps) (ltb-false _ _ passed.steps_well) i (omega (arith, passed.counted, more))

  pub answers_fit : answer_length * count ≤ room
  answers_fit = passed.fits

  pub section_left : {left : Section} → left ≡ section_before s steps count → record { outcome = Ok count; section = left } ≡ run_of s steps room
  unfolding run_of if_done
  section_left el = rw (sym e, el, passed.counted)

pub answers_left :
    (s : Section) (steps buffer : List ℕ) {after : List ℕ} {count : ℕ} → Ok count ≡ outcome_of s steps (length buffer)
    → after ≡ written buffer 0 (entries_of answers s steps count) → after ≡ answers_after s steps buffer
unfolding answers_after if_done
answers_left s steps buffer {count = count} e put = rw (sym e, (is_done s steps (length buffer) count (sym e)).counted) put

-- ## 4 comes with its index

pub index_of_the_first : IndexOfTheFirst
unfolding outcome_of call_figure
index_of_the_first s steps room =
    let first = first_malformed s.settings.posts steps in
    other_refusal first (not (in_range s)) StateOutOfRange _ (λ e. omega arith)
    (step_refusal first (some_malformed s.settings.posts steps) _
    (other_refusal first (too_much (step_count steps) room) NoRoom _ (λ e. omega arith)
    (no_refusal first (step_count steps))))
