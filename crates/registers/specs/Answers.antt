-- The paper's number and the values of each answer. The promises, the printed words and the number over C are made of these.
use Rattle.std.specs.Prelude.{ℕ, Option, Some, None, Result, Ok, Err}
use Rattle.registers.specs.declared.Book.{Book}
use Rattle.registers.specs.declared.Book.TheVariants.{First, Second}
use Rattle.registers.specs.declared.Mismatch.{Mismatch}
use Rattle.registers.specs.declared.Mismatch.TheVariants.{Differs, Malformed}
use Rattle.registers.specs.Books.{the_first, the_second}

-- "24: a malformed record, an incomplete last one included"
abbrev pub malformed_record : ℕ
malformed_record = 24

-- the number of a book, and of the pair of lists that it sent
abbrev pub book_number : Book → ℕ
book_number First = the_first
book_number Second = the_second

-- the refusal, 0 for none
unfoldable pub refusal_number : {B : Type 0} → Result (Option ℕ) (Mismatch B) → ℕ
refusal_number (Ok offset) = 0
refusal_number (Err (Differs pair index)) = 0
refusal_number (Err (Malformed book index)) = malformed_record

-- what is found where nothing is refused: 0 an offset, 1 no offset, 2 a difference
unfoldable pub finding : {B : Type 0} → Result (Option ℕ) (Mismatch B) → ℕ
finding (Ok (Some k)) = 0
finding (Ok None) = 1
finding (Err (Differs pair index)) = 2
finding (Err (Malformed book index)) = 0

-- the offset, with 120 added; "which pair"; "book"
unfoldable pub which_by : {B : Type 0} → (B → ℕ) → Result (Option ℕ) (Mismatch B) → ℕ
which_by number (Ok (Some k)) = k
which_by number (Ok None) = 0
which_by number (Err (Differs pair index)) = number pair
which_by number (Err (Malformed book index)) = number book

abbrev pub which : Result (Option ℕ) (Mismatch Book) → ℕ
which answer = which_by book_number answer

-- "and the index"
unfoldable pub place : {B : Type 0} → Result (Option ℕ) (Mismatch B) → ℕ
place (Ok offset) = 0
place (Err (Differs pair index)) = index
place (Err (Malformed book index)) = index
