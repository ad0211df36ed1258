-- Calls in plain words: what a tester reads off the statements of Calls.antt, each drawn from them alone (`calls_in_plain_words`,
-- proofs/CallsInPlainWords.antt).
use Rattle.std.specs.Prelude.{ℕ, ◌+◌, ◌*◌, ◌≤◌, ◌<◌, Bool, true, List, ◌++◌, ◌≡◌, length}
use Rattle.std.specs.Prelude.{Ok}
use Rattle.section.specs.declared.Section.{Section}
use Rattle.section.specs.declared.Settings.{Settings}
use Rattle.section.specs.Fresh.{fresh_section}
use Rattle.section.specs.Numbers.{step_length}
use Rattle.section.specs.Settings.{settings_in_range}
use Rattle.section.specs.Store.{track_of, post_on}
use Rattle.layout.specs.Layout.{most_steps}
use Rattle.notes.specs.Note.{answer_length}
use Rattle.run.specs.Run.{outcome_of, run_of}
use Rattle.run.specs.Calls.{Call, section_after_calls}

pub record CallsInPlainWords : Type 0 where
  -- Three calls one after another are one call with all their steps: it is done, and leaves the same section.
  pub three_calls_are_one :
      (s : Section) (one two three : List ℕ) (room rest more whole k m n : ℕ) → outcome_of s one room ≡ Ok k
      → outcome_of (run_of s one room).section two rest ≡ Ok m
      → outcome_of (run_of (run_of s one room).section two rest).section three more ≡ Ok n
      → k + m + n ≤ most_steps → answer_length * (k + m + n) ≤ whole
      → (outcome_of s ((one ++ two) ++ three) whole ≡ Ok (k + m + n))
      × ((run_of s ((one ++ two) ++ three) whole).section
      ≡ (run_of (run_of (run_of s one room).section two rest).section three more).section)
  -- A call that is done can be stopped after any of its steps and gone on with: both parts are done.
  pub stopped_and_gone_on :
      (s : Section) (one other : List ℕ) (whole k m : ℕ) → outcome_of s (one ++ other) whole ≡ Ok (k + m)
      → length one ≡ step_length * k
      → (outcome_of s one (answer_length * k) ≡ Ok k)
      × (outcome_of (run_of s one (answer_length * k)).section other (answer_length * m) ≡ Ok m)
  -- After any calls from fresh, refused ones too, at most one post of a track has permission to start trains.
  pub one_permission :
      (c : Settings) → settings_in_range c ≡ true → (calls : List Call) (b : Bool) (p q : ℕ) → p < c.posts → q < c.posts
      → (post_on (track_of (section_after_calls (fresh_section c) calls) b) p).permission ≡ true
      → (post_on (track_of (section_after_calls (fresh_section c) calls) b) q).permission ≡ true → p ≡ q
