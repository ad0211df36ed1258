-- The plain words on calls, from the statements alone: three calls are two, of which the first is two; a call in two parts; and of the claim along
-- calls that two posts that may start trains are the same.
use Prim.Native.Nat.{◌+◌, ◌*◌}
use mathlib.Core.List.{◌++◌}
use mathlib.Core.Path.{◌≡◌, ◌∙◌, ap}
use native.Mathlib.Omega.{arith}
use Rattle.std.specs.Prelude.{Ok}
use Rattle.section.specs.declared.Section.{Section}
use Rattle.rules.specs.Demand3.{permission}
use Rattle.notes.specs.Note.{answer_length}
use Rattle.run.specs.Run.{outcome_of, run_of}
use Rattle.run.specs.Calls.{TwoCallsAreOne, OneCallIsTwo, Demand3OfCalls}
use Rattle.run.specs.CallsInPlainWords.{CallsInPlainWords}
use Rattle.run.proofs.Calls.{two_calls_are_one, one_call_is_two, demand3_of_calls}

module _ (two-are-one : TwoCallsAreOne) (one-is-two : OneCallIsTwo) (claimed : Demand3OfCalls) where
  from_the_statements : CallsInPlainWords
  from_the_statements = record {
    three_calls_are_one = λ s one two three room rest more whole k m n done-one done-two done-three few fits.
        let first = two-are-one s one two room rest (answer_length * (k + m)) k m done-one done-two (omega (arith, few)) (omega arith) in
        let left = first.1.0 in
        let third : outcome_of (run_of s (one ++ two) (answer_length * (k + m))).section three more ≡ Ok n =
        ap (λ (u : Section). outcome_of u three more) left ∙ done-three in
        let all = two-are-one s (one ++ two) three (answer_length * (k + m)) more whole (k + m) n first.0 third few fits in
        (all.0, all.1.0 ∙ ap (λ (u : Section). (run_of u three more).section) left);
    stopped_and_gone_on = λ s one other whole k m done long.
        one-is-two s one other (answer_length * k) (answer_length * m) whole k m done long (omega arith) (omega arith);
    one_permission = λ c right calls b p q below-p below-q may-p may-q.
        ((claimed c right calls).tracks b).one_starter p q (permission below-p may-p) (permission below-q may-q);
  }

pub calls_in_plain_words : CallsInPlainWords
calls_in_plain_words = from_the_statements two_calls_are_one one_call_is_two demand3_of_calls
