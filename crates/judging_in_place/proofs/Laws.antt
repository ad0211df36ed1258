-- Steps offered one after another: the section before each, and what is kept of them.
use Prim.Native.Nat.{ℕ, zero, suc, ◌+◌, ◌*◌, ◌≤◌, ◌<◌}
use mathlib.Core.Bool.{true}
use mathlib.Core.List.{List, [], ◌∷◌, ◌++◌}
use mathlib.Core.Path.{◌≡◌, refl, sym, ◌∙◌, ap}
use native.Mathlib.Omega.{arith}
use native.Mathlib.Numerals.{add-one}
use lib.ListN.{length}
use Rattle.std.proofs.Math.Nat.{mul-le-mul_left}
use Rattle.section.specs.declared.Answer.{Answer}
use Rattle.section.specs.declared.Section.{Section}
use Rattle.section.specs.Range.{in_range}
use Rattle.rules.specs.Demand3.{state_after}
use Rattle.rules.specs.Judge.{judge_in_range, judge}
use Rattle.rules.proofs.RangeLaw.{ranges_kept, settings_kept, judged_in_range}
use Rattle.layout.specs.Layout.{step_at}
use Rattle.text.specs.Text.{written, first_texts}
use Rattle.text.proofs.Laws.{Putting, first_texts_whole, one_more_put}
use Rattle.judging_in_place.specs.Offered.{section_before, answer_to, offered_of, StepsAreOffered}
use Rattle.judging_in_place.specs.Entries.{Entry, AsLong, entry_of, entry_on}

-- ## The sections along the steps

module _ (first : Section) (steps : List ℕ) where
  pub in_range_before : in_range first ≡ true → (i : ℕ) → in_range (section_before first steps i) ≡ true
  unfolding section_before
  in_range_before r zero = r
  in_range_before r (suc i) = ranges_kept (section_before first steps i) (step_at steps i) (in_range_before r i)

  pub settings_before : in_range first ≡ true → (i : ℕ) → (section_before first steps i).settings ≡ first.settings
  unfolding section_before
  settings_before r zero = refl
  settings_before r (suc i) = settings_kept (section_before first steps i) (step_at steps i) (in_range_before r i) ∙ settings_before r i

  pub step_after : (i : ℕ) → (answer_to first steps i).section ≡ section_before first steps (i + 1)
  unfolding answer_to section_before
  step_after i = rw (add-one i)

  -- the code judges on the same section and the same bytes
  pub answered :
      (i : ℕ) (s : Section) (part : List ℕ) (answer : Answer) → s ≡ section_before first steps i → part ≡ step_at steps i → answer ≡ judge s part
      → answer ≡ answer_to first steps i
  unfolding answer_to
  answered i s part answer e f g = g ∙ (rw (e, f))

pub range_kept : (s : Section) (bytes : List ℕ) (after : Answer) → in_range s ≡ true → after ≡ judge_in_range s bytes → in_range after.section ≡ true
range_kept s bytes after h e = rw (judged_in_range s bytes after h e) (ranges_kept s bytes h)

-- ## The steps are a list that is offered

pub state_append : (s : Section) (offered more : List (List ℕ)) → state_after s (offered ++ more) ≡ state_after (state_after s offered) more
unfolding state_after
state_append s [] more = refl
state_append s (bytes ∷ offered) more = state_append (judge s bytes).section offered more

state_none : (s : Section) → s ≡ state_after s []
unfolding state_after
state_none s = refl

state_one : (s : Section) (bytes : List ℕ) → (judge s bytes).section ≡ state_after s (bytes ∷ [])
unfolding state_after
state_one s bytes = refl

pub steps_are_offered : StepsAreOffered
unfolding section_before offered_of
steps_are_offered first steps zero = state_none first
steps_are_offered first steps (suc i) =
    ap (λ (s : Section). (judge s (step_at steps i)).section) (steps_are_offered first steps i)
    ∙ state_one (state_after first (offered_of steps i)) (step_at steps i)
    ∙ sym (state_append first (offered_of steps i) (step_at steps i ∷ []))

-- ## What is kept

-- room for what is kept of all steps is room for that of each
pub one_fits : (entry : Entry) (count i : ℕ) {room : ℕ} → i < count → entry.long * count ≤ room → entry.long * i + entry.long ≤ room
one_fits entry count i more fits =
    let next : i + 1 ≤ count = omega (arith, more) in
    omega (arith, mul-le-mul_left entry.long next, fits)

module _ (entry : Entry) (as_long : AsLong entry) (first : Section) (steps : List ℕ) where
  pub entries_length : (m : ℕ) → length (first_texts (entry_on entry first steps) m) ≡ m * entry.long
  unfolding entry_on entry_of
  entries_length m = first_texts_whole (entry_on entry first steps) entry.long m (λ i. as_long _ _ _)

  -- one entry more
  pub entry_put :
      (lent : List ℕ) (count i : ℕ) {buffer after : List ℕ} (answer : Answer) → i < count
      → entry.long * count ≤ length lent → buffer ≡ written lent 0 (first_texts (entry_on entry first steps) i)
      → answer ≡ answer_to first steps i → after ≡ written buffer (i * entry.long) (entry_of entry answer)
      → after ≡ written lent 0 (first_texts (entry_on entry first steps) (i + 1))
  unfolding entry_on
  entry_put lent count i {buffer} {after} answer more room kept told put =
      let place = entries_length i in
      let so_far : i * entry.long ≡ 0 + length (first_texts (entry_on entry first steps) i) = omega (arith, place) in
      let fits = one_fits entry count i more room in
      let one : Putting buffer (i * entry.long) (entry_on entry first steps i) _ after = (
        refl,
        put ∙ ap (λ (a : Answer). written buffer (i * entry.long) (entry_of entry a)) told,
      ) in
      (one_more_put (entry_on entry first steps) lent buffer after 0 i (i * entry.long) _ (omega (arith, place, fits)) (so_far, kept) one).1
