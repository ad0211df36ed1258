-- What is kept of a step that was judged: its answer (document 02, request 4), or its note, for a line of the listing.
use Rattle.std.specs.Prelude.{ℕ, List, [], ◌∷◌, ◌++◌, Result}
use Rattle.section.specs.declared.Answer.{Answer}
use Rattle.section.specs.declared.Said.{Said}
use Rattle.section.specs.Refusal.{Verdict, figure, refusal_by}
use Rattle.section.specs.Words.{said_by, said_number, track_letter}

abbrev pub answer_length : ℕ
answer_length = 2

-- "An answer is two bytes: 0 or the refusal, then what is said (0 nothing, 1 CVT, 2 CVTz, 3 VNS, 4 VNSz)"
unfoldable pub answer_by : {R : Type 0} → (R → ℕ) → Result Said R → List ℕ
answer_by figure_of verdict = refusal_by figure_of verdict ∷ (said_number (said_by verdict) ∷ [])

abbrev pub answer_bytes : Verdict → List ℕ
answer_bytes verdict = answer_by figure verdict

abbrev pub note_length : ℕ
note_length = 4

-- the answer, and the letters of tracks A and B after the step
unfoldable pub note_by : {R : Type 0} → (R → ℕ) → Result Said R → ℕ → ℕ → List ℕ
note_by figure_of verdict a b = answer_by figure_of verdict ++ (a ∷ (b ∷ []))

abbrev pub note_with : Verdict → ℕ → ℕ → List ℕ
note_with verdict a b = note_by figure verdict a b

unfoldable pub note : Answer → List ℕ
note answer = note_with answer.verdict (track_letter answer.section.a) (track_letter answer.section.b)
