-- The writer's answers with the buffer afterwards, each by the tests that lead to it; the parts of a file, put one after the other.
use mathlib.Core.Path.{◌≡◌, sym, ◌∙◌, ap}
use mathlib.Core.Bool.{true, false, not, ◌||◌}
use mathlib.Core.List.{List, ◌++◌, append_assoc}
use Prim.Native.Nat.{ℕ, ◌+◌, ◌*◌, ◌<◌, ◌≤◌}
use native.Mathlib.Omega.{arith}
use lib.ListN.{length, take, drop, length-append}
use lib.Seq.{length-take-le}
use lib.Dec.{ltb}
use borrow.Author.Tests.{lt-ltb, le-ltb, ltb-false, not-false}
use Rattle.std.specs.Prelude.{Ok, Err}
use Rattle.section.specs.declared.CallRefusal.{CallRefusal}
use Rattle.section.specs.declared.CallRefusal.TheVariants.{WrongSettings, MalformedStep, NoRoom}
use Rattle.section.specs.Refusal.{Outcome}
use Rattle.section.specs.declared.Settings.{Settings}
use Rattle.section.specs.Numbers.{step_length}
use Rattle.section.specs.Outcome.{if_done}
use Rattle.section.specs.Settings.{settings_in_range}
use Rattle.section.proofs.Outcomes.{past_refusal, same_done}
use Rattle.layout.specs.Layout.{most_steps, settings_length, steps_distance, settings_bytes, tail_of, settings_part, trailer, step_count, file_of}
use Rattle.file_tests.specs.Tests.{first_malformed, some_malformed}
use Rattle.dayfile.specs.Answers.{write_verdict, written_into}
use Rattle.layout.proofs.Parts.{tail_of_lem, settings_long, trailer_long}
use Rattle.file_tests.proofs.Laws.{neither}

-- ## Parts of a buffer

pub steps_fit : (steps : List ℕ) → length steps ≤ step_length * step_count steps
unfolding step_count
steps_fit steps = omega arith

-- the settings with their tail
pub settings_fit :
    (c : Settings) (tail : ℕ) (settings : List ℕ) → tail ≡ tail_of c → settings ≡ settings_bytes c →
    length (take (settings_length + tail) settings) ≡ settings_length + tail
settings_fit c tail settings e f =
    length-take-le (settings_length + tail) settings (omega (arith, ap length f, settings_long c, e, (tail_of_lem c).most))

-- ## The answers

module _ (c : Settings) (steps : List ℕ) (room : ℕ) where
  pub answer_3 : settings_in_range c ≡ false → Err WrongSettings ≡ write_verdict c steps room
  unfolding write_verdict
  answer_3 e₃ = rw e₃

  module _
      (count first : ℕ) (ec : count ≡ step_count steps) (ef : first ≡ first_malformed c.posts steps)
      (e₃ : settings_in_range c ≡ true) where
    pub answer_4 : first < count → Err (MalformedStep first) ≡ write_verdict c steps room
    unfolding write_verdict some_malformed
    answer_4 h = rw (e₃, ← ec, ← ef, lt-ltb _ _ h)

    module _ (h₄ : count ≤ first) where
      pub answer_5_many : most_steps < count → Err NoRoom ≡ write_verdict c steps room
      unfolding write_verdict some_malformed
      answer_5_many h = rw (e₃, ← ec, ← ef, le-ltb _ _ h₄, lt-ltb _ _ h)

      module _ (h₅ : count ≤ most_steps) (tail : ℕ) (el : tail ≡ tail_of c) where
        pub answer_5_short : room < steps_distance tail count → Err NoRoom ≡ write_verdict c steps room
        unfolding write_verdict some_malformed
        answer_5_short h = rw (e₃, ← ec, ← ef, ← el, le-ltb _ _ h₄, le-ltb _ _ h₅, lt-ltb _ _ h)

        pub answer_bytes_lem : steps_distance tail count ≤ room → Ok (steps_distance tail count) ≡ write_verdict c steps room
        unfolding write_verdict some_malformed
        answer_bytes_lem h = rw (e₃, ← ec, ← ef, ← el, le-ltb _ _ h₄, le-ltb _ _ h₅, le-ltb _ _ h)

-- ## What is written

pub record BytesWritten (c : Settings) (steps : List ℕ) (written : ℕ) : Type 0 where
  pub settings_well : settings_in_range c ≡ true
  pub steps_well : some_malformed c.posts steps ≡ false
  pub few : step_count steps ≤ most_steps
  pub counted : steps_distance (tail_of c) (step_count steps) ≡ written

pub bytes_written :
    (c : Settings) (steps : List ℕ) (room written : ℕ) → write_verdict c steps room ≡ Ok written → BytesWritten c steps written
unfolding write_verdict
bytes_written c steps room written e =
    let n = step_count steps in
    let size = steps_distance (tail_of c) n in
    let a = past_refusal (not (settings_in_range c)) WrongSettings written _ e in
    let b = past_refusal (some_malformed c.posts steps) (MalformedStep (first_malformed c.posts steps)) written _ a.1 in
    let d = past_refusal (ltb most_steps n || ltb room size) NoRoom written (Ok size) b.1 in
    record {
      settings_well = not-false _ a.0;
      steps_well = b.0;
      few = ltb-false _ _ (neither (ltb most_steps n) (ltb room size) d.0).0;
      counted = same_done size written d.1;
    }

-- what is written fits the room
pub bytes_fit :
    (c : Settings) (steps : List ℕ) (room written : ℕ) → write_verdict c steps room ≡ Ok written
    → steps_distance (tail_of c) (step_count steps) ≤ room
unfolding write_verdict
bytes_fit c steps room written e =
    let n = step_count steps in
    let size = steps_distance (tail_of c) n in
    let a = past_refusal (not (settings_in_range c)) WrongSettings written _ e in
    let b = past_refusal (some_malformed c.posts steps) (MalformedStep (first_malformed c.posts steps)) written _ a.1 in
    let d = past_refusal (ltb most_steps n || ltb room size) NoRoom written (Ok size) b.1 in
    ltb-false _ _ (neither (ltb most_steps n) (ltb room size) d.0).1

pub steps_few :
    (c : Settings) (steps : List ℕ) (room written : ℕ) → write_verdict c steps room ≡ Ok written → step_count steps ≤ most_steps
steps_few c steps room written e = (bytes_written c steps room written e).few
