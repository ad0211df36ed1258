-- An answer in words: one line.
use Rattle.std.specs.Prelude.{ℕ, ◌-◌, cond, List, [], ◌∷◌, ◌++◌, eqb, ltb, Option, Some, None, Result, Ok, Err}
use Rattle.text.specs.Text.{ascii, decimal}
use Rattle.registers.specs.declared.Book.{Book}
use Rattle.registers.specs.declared.Mismatch.{Mismatch}
use Rattle.registers.specs.declared.Mismatch.TheVariants.{Differs, Malformed}
use Rattle.registers.specs.Books.{largest_offset, the_first}
use Rattle.registers.specs.Answers.{malformed_record, book_number}

-- a phrase, a number below 100,000 and the end of the line
unfoldable pub line : List ℕ → ℕ → List ℕ
line phrase x = phrase ++ (decimal x ++ (10 ∷ []))

-- an offset with its sign; k is 120 more
unfoldable pub offset_line : ℕ → List ℕ
offset_line k =
    cond (ltb k largest_offset) (line (ascii "the books match, offset -") (largest_offset - k))
    (line (ascii "the books match, offset ") (k - largest_offset))

-- a difference, by the book that sent
unfoldable pub difference_line : ℕ → ℕ → List ℕ
difference_line pair index =
    cond (eqb pair the_first) (line (ascii "the lists differ, sent by the first book, index ") index)
    (line (ascii "the lists differ, sent by the second book, index ") index)

-- the refusal, and the book
unfoldable pub malformed_line : ℕ → ℕ → List ℕ
malformed_line book index =
    ascii "refused " ++ (decimal malformed_record ++ cond (eqb book the_first) (line (ascii ", first book, index ") index)
    (line (ascii ", second book, index ") index))

unfoldable pub answer_line_by : {B : Type 0} → (B → ℕ) → Result (Option ℕ) (Mismatch B) → List ℕ
answer_line_by number (Ok (Some k)) = offset_line k
answer_line_by number (Ok None) = ascii "the books match, no offset\n"
answer_line_by number (Err (Differs pair index)) = difference_line (number pair) index
answer_line_by number (Err (Malformed book index)) = malformed_line (number book) index

abbrev pub answer_line : Result (Option ℕ) (Mismatch Book) → List ℕ
answer_line answer = answer_line_by book_number answer

-- room for the longest
abbrev pub answer_room : ℕ
answer_room = 64
