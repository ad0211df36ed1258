-- The two bytes of an answer and the four of a note, in plain numbers.
use mathlib.Core.Path.{refl}
use mathlib.Core.List.{[], ◌∷◌}
use Rattle.std.specs.Prelude.{Ok, Err}
use Rattle.section.specs.declared.Refusal.TheVariants.{CautionFormNeeded, Malformed, Occupied}
use Rattle.section.specs.declared.Said.TheVariants.{Nothing, Cvt, Cvtz, Vns, Vnsz}
use Rattle.section.specs.Refusal.{figure, refusal_by}
use Rattle.section.specs.Words.{said_by, said_number}
use Rattle.section.proofs.Rows.{◌gives◌, Holds}
use Rattle.notes.specs.Note.{answer_by, answer_bytes, note_by, note_with}

-- "0 or the refusal, then what is said (0 nothing, 1 CVT, 2 CVTz, 3 VNS, 4 VNSz)"; then the letters of tracks A and B
pub answers_in_bytes :
    Holds
    ((answer_bytes (Ok Nothing) gives 0 ∷ 0 ∷ [])
    ∷ (answer_bytes (Ok Cvt) gives 0 ∷ 1 ∷ [])
    ∷ (answer_bytes (Ok Cvtz) gives 0 ∷ 2 ∷ [])
    ∷ (answer_bytes (Ok Vns) gives 0 ∷ 3 ∷ [])
    ∷ (answer_bytes (Ok Vnsz) gives 0 ∷ 4 ∷ [])
    ∷ (answer_bytes (Err Malformed) gives 4 ∷ 0 ∷ [])
    ∷ (answer_bytes (Err CautionFormNeeded) gives 22 ∷ 0 ∷ [])
    ∷ (answer_by (λ number. number) (Err 99) gives 99 ∷ 0 ∷ [])
    ∷ (note_with (Ok Vnsz) 86 99 gives 0 ∷ 4 ∷ 86 ∷ 99 ∷ [])
    ∷ (note_with (Err Occupied) 118 67 gives 13 ∷ 0 ∷ 118 ∷ 67 ∷ [])
    ∷ [])
unfolding answer_by note_by refusal_by said_by said_number figure
answers_in_bytes = refl
