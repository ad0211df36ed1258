-- Calls one after another. A call that is done hands on the section before the step after its last, with the same settings and in its ranges; so the
-- next call tests and judges its steps as one call would after those. The section after calls is the one after their steps, of which demand 3 speaks.
use Prim.Native.Nat.{ℕ, ◌+◌, ◌*◌}
use mathlib.Core.Bool.{true}
use mathlib.Core.List.{List, [], ◌∷◌, ◌++◌}
use mathlib.Core.Path.{◌≡◌, refl, sym, ◌∙◌, ap}
use native.Mathlib.Omega.{arith}
use lib.ListN.{length}
use Rattle.std.specs.Prelude.{Ok, Err}
use Rattle.section.specs.declared.CallRefusal.TheVariants.{MalformedStep}
use Rattle.section.specs.Refusal.{Outcome}
use Rattle.section.specs.declared.Section.{Section}
use Rattle.section.specs.Fresh.{fresh_section}
use Rattle.section.specs.Numbers.{step_length}
use Rattle.section.specs.Outcome.{if_done}
use Rattle.section.specs.Range.{in_range}
use Rattle.rules.specs.Demand3.{state_after, Demand3}
use Rattle.rules.proofs.Theorem.{demand3}
use Rattle.layout.specs.Layout.{step_count}
use Rattle.file_tests.specs.Tests.{some_malformed}
use Rattle.file_tests.proofs.Laws.{all_whole}
use Rattle.judging_in_place.specs.Offered.{section_before}
use Rattle.judging_in_place.specs.Entries.{answers}
use Rattle.judging_in_place.proofs.Laws.{in_range_before, settings_before, state_append, steps_are_offered}
use Rattle.run.specs.Run.{outcome_of, run_of}
use Rattle.run.specs.Calls.{TwoCallsAreOne, OneCallIsTwo, Call, section_after_calls, steps_of_call, steps_of_calls, Demand3OfCalls}
use Rattle.run.proofs.Outcomes.{is_done, done}
use Rattle.run.proofs.Parts.{count_of_one, count_of_both, both_well, each_well, section_in_other, kept_of_both}

-- ## A call that is done

module _ (s : Section) (steps : List ℕ) (room count : ℕ) (e : outcome_of s steps room ≡ Ok count) where
  handed_on : (run_of s steps room).section ≡ section_before s steps count
  unfolding run_of if_done
  handed_on = rw (e, (is_done s steps room count e).counted)

  steps_whole : length steps ≡ step_length * count
  steps_whole = let d = is_done s steps room count e in omega (arith, all_whole s.settings.posts steps d.steps_well, d.counted)

-- the posts of the line stay as many
same_posts :
    (s : Section) (steps other : List ℕ) (k : ℕ) → in_range s ≡ true
    → some_malformed (section_before s steps k).settings.posts other ≡ some_malformed s.settings.posts other
same_posts s steps other k r = rw (settings_before s steps r k)

-- ## Two calls are one

pub two_calls_are_one : TwoCallsAreOne
two_calls_are_one s one other room rest whole k m e f few fits =
    let first = is_done s one room k e in
    let left = handed_on s one room k e in
    let f' : outcome_of (section_before s one k) other rest ≡ Ok m = rw left at f in
    let second = is_done (section_before s one k) other rest m f' in
    let long = steps_whole s one room k e in
    let all : outcome_of s (one ++ other) whole ≡ Ok (k + m) =
    done s (one ++ other) whole (k + m) (record {
      range = first.range;
      steps_well =
          both_well one other k long s.settings.posts first.steps_well (sym (same_posts s one other k first.range) ∙ second.steps_well);
      few = few;
      fits = fits;
      counted = omega (arith, count_of_both one other k long, second.counted);
    }) in (
      all,
      (
        handed_on s (one ++ other) whole (k + m) all
            ∙ (section_in_other one other k long s m ∙ (rw left (sym (handed_on (section_before s one k) other rest m f')))),
        rw left (kept_of_both one other k long s answers m),
      ),
    )

-- ## One call is two

pub one_call_is_two : OneCallIsTwo
one_call_is_two s one other room rest whole k m e long here there =
    let d = is_done s (one ++ other) whole (k + m) e in
    let wells = each_well one other k long s.settings.posts d.steps_well in
    let of_one : outcome_of s one room ≡ Ok k =
    done s one room k (record {
      range = d.range;
      steps_well = wells.0;
      few = omega (arith, d.few);
      fits = here;
      counted = count_of_one one other k long;
    }) in (
      of_one,
      rw (handed_on s one room k of_one)
          (done (section_before s one k) other rest m (record {
            range = in_range_before s one d.range k;
            steps_well = same_posts s one other k d.range ∙ wells.1;
            few = omega (arith, d.few);
            fits = there;
            counted = omega (arith, count_of_both one other k long, d.counted);
          })),
    )

-- ## Demand 3 along calls

left_is_offered :
    (s : Section) (steps : List ℕ) (outcome : Outcome)
    → if_done outcome (section_before s steps (step_count steps)) s ≡ state_after s (steps_of_call outcome steps)
unfolding if_done steps_of_call state_after
left_is_offered s steps (Ok count) = steps_are_offered s steps (step_count steps)
left_is_offered s steps (Err (MalformedStep index)) = refl
left_is_offered s steps (Err number) = refl

calls_are_offered : (s : Section) (calls : List Call) → section_after_calls s calls ≡ state_after s (steps_of_calls s calls)
unfolding section_after_calls steps_of_calls state_after run_of
calls_are_offered s [] = refl
calls_are_offered s (call ∷ calls) =
    let outcome = outcome_of s call.steps call.room in
    let left = (run_of s call.steps call.room).section in
    calls_are_offered left calls
    ∙ (ap (λ (t : Section). state_after t (steps_of_calls left calls)) (left_is_offered s call.steps outcome)
    ∙ sym (state_append s (steps_of_call outcome call.steps) (steps_of_calls left calls)))

pub demand3_of_calls : Demand3OfCalls
unfolding Demand3
demand3_of_calls c right calls = rw (calls_are_offered (fresh_section c) calls) (demand3 c right (steps_of_calls (fresh_section c) calls))
