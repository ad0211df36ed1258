-- An answer has two bytes and a note four. Two bytes stored one after another are a text of two.
use Prim.Native.Nat.{ℕ, ◌+◌, ◌≤◌}
use mathlib.Core.List.{List, [], ◌∷◌, append_assoc}
use mathlib.Core.Path.{◌≡◌, refl, ◌∙◌}
use native.Mathlib.Omega.{arith}
use native.Mathlib.Numerals.{add-one}
use lib.ListN.{length, set, take, drop}
use lib.Seq.{sets-eq}
use Rattle.std.specs.Prelude.{Result}
use Rattle.section.specs.declared.Answer.{Answer}
use Rattle.section.specs.declared.Said.{Said}
use Rattle.section.specs.Refusal.{Verdict}
use Rattle.text.specs.Text.{written}
use Rattle.text.proofs.Laws.{written_twice}
use Rattle.notes.specs.Note.{answer_length, answer_by, answer_bytes, note_length, note_by, note}

pub answer_length_lem : (verdict : Verdict) → length (answer_bytes verdict) ≡ answer_length
unfolding answer_by
answer_length_lem verdict = refl

pub note_length_lem : (answer : Answer) → length (note answer) ≡ note_length
unfolding note note_by answer_by
note_length_lem answer = refl

pub two_stored :
    (l : List ℕ) (at x y : ℕ) → at + answer_length ≤ length l → set (set l at x) (at + 1) y ≡ written l at (x ∷ (y ∷ []))
unfolding written
two_stored l at x y room =
    rw (add-one at)
    (sets-eq (x ∷ (y ∷ [])) l at room ∙ append_assoc (take at l) (x ∷ (y ∷ [])) (drop (at + answer_length) l))

-- the letters stored after an answer make it a note
pub letters_stored :
    {R : Type 0} (figure_of : R → ℕ) (l : List ℕ) (at : ℕ) (verdict : Result Said R) (a b : ℕ) {answered : List ℕ} → at + note_length ≤ length l
    → answered ≡ written l at (answer_by figure_of verdict) → length answered ≡ length l
    → set (set answered (at + 2) a) (at + 3) b ≡ written l at (note_by figure_of verdict a b)
unfolding note_by answer_by
letters_stored figure_of l at verdict a b {answered} room put kept =
    let next : at + 3 ≡ at + 2 + 1 = omega arith in
    rw (next, two_stored answered (at + 2) a b (omega arith), put) (written_twice l at (answer_by figure_of verdict) (a ∷ (b ∷ [])) (omega arith))
