-- The answer of two books, packed into one number.
use Rattle.std.specs.Prelude.{Option, Result, ℕ, ◌+◌, ◌*◌, ◌%◌, ◌^◌}
use Rattle.registers.specs.declared.Book.{Book}
use Rattle.registers.specs.declared.Mismatch.{Mismatch}
use Rattle.registers.specs.Answers.{refusal_number, finding, which, place}

-- The refusal, 0 for none; 256 × what is found, 0 an offset, 1 no offset, 2 a difference; 65,536 × the offset with 120 added, the pair or the book;
-- 2³² × the index, of which the lowest 32 bits are kept.
unfoldable pub packed_comparison : Result (Option ℕ) (Mismatch Book) → ℕ
packed_comparison answer =
    refusal_number answer + finding answer * 256 + which answer * 65536 + place answer % 2 ^ 32 * 2 ^ 32
