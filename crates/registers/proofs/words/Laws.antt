-- The words of a malformed record; no line is longer than its room.
use Prim.Native.Nat.{ℕ, ◌+◌, ◌-◌, ◌≤◌}
use mathlib.Core.Bool.{Bool, true, false, cond}
use mathlib.Core.List.{List}
use mathlib.Core.Path.{◌≡◌, refl}
use native.Mathlib.Omega.{arith}
use Rattle.std.specs.Prelude.{Option, Some, None, Result, Ok, Err}
use lib.Dec.{eqb, ltb}
use lib.ListN.{length, length-append}
use borrow.Author.Tests.{eqb-true}
use Rattle.text.specs.Text.{ascii, decimal_digits, decimal}
use Rattle.text.proofs.Laws.{decimal_length}
use Rattle.registers.specs.declared.Mismatch.{Mismatch}
use Rattle.registers.specs.declared.Mismatch.TheVariants.{Differs, Malformed}
use Rattle.registers.specs.Words.{line, offset_line, difference_line, malformed_line, answer_line_by, answer_room}

-- the number in the words is the refusal's
twenty_four : decimal 24 ≡ ascii "24"
unfolding decimal decimal_digits
twenty_four = refl

pub first_refused : (x : ℕ) → malformed_line 0 x ≡ line (ascii "refused 24, first book, index ") x
unfolding malformed_line line
first_refused x = rw twenty_four

pub second_refused : (b x : ℕ) → eqb b 0 ≡ false → malformed_line b x ≡ line (ascii "refused 24, second book, index ") x
unfolding malformed_line line
second_refused b x e = rw (e, twenty_four)

-- ## How long a line is

line_length : (phrase : List ℕ) (x : ℕ) → length (line phrase x) ≤ length phrase + 6
unfolding line
line_length phrase x = simp length-append (omega (arith, decimal_length x))

difference_length : (pair index : ℕ) → length (difference_line pair index) ≤ answer_room
unfolding difference_line
difference_length pair index = go (eqb pair 0)
  where
    go :
        (b : Bool) →
        length
        (cond b (line (ascii "the lists differ, sent by the first book, index ") index)
        (line (ascii "the lists differ, sent by the second book, index ") index))
        ≤ 64
    go true = omega (arith, line_length (ascii "the lists differ, sent by the first book, index ") index)
    go false = omega (arith, line_length (ascii "the lists differ, sent by the second book, index ") index)

malformed_length : (book index : ℕ) → length (malformed_line book index) ≤ answer_room
malformed_length book index = go (eqb book 0) refl
  where
    go : (b : Bool) → eqb book 0 ≡ b → length (malformed_line book index) ≤ 64
    go true e =
        rw (eqb-true book 0 e, first_refused index) (omega (arith, line_length (ascii "refused 24, first book, index ") index))
    go false e = rw (second_refused book index e) (omega (arith, line_length (ascii "refused 24, second book, index ") index))

pub answer_length_lem : {B : Type 0} (number : B → ℕ) (answer : Result (Option ℕ) (Mismatch B)) → length (answer_line_by number answer) ≤ answer_room
unfolding answer_line_by offset_line
answer_length_lem number (Ok (Some k)) = go (ltb k 120)
  where
    go : (b : Bool) → length (cond b (line (ascii "the books match, offset -") (120 - k)) (line (ascii "the books match, offset ") (k - 120))) ≤ 64
    go true = omega (arith, line_length (ascii "the books match, offset -") (120 - k))
    go false = omega (arith, line_length (ascii "the books match, offset ") (k - 120))
answer_length_lem number (Ok None) = omega arith
answer_length_lem number (Err (Differs pair index)) = difference_length (number pair) index
answer_length_lem number (Err (Malformed book index)) = malformed_length (number book) index
