-- What the code's own functions compute on their way. Nothing here is to be believed: the contract of `compare` does not cite it.
use Rattle.std.specs.Prelude.{ℕ, suc, ◌+◌, ◌-◌, ◌/◌, min, max, Bool, ◌||◌, cond, List, [], ◌∷◌, length, ltb}
use Rattle.std.specs.Prelude.{Option, Some, None, Result, Ok, Err}
use Rattle.registers.specs.declared.Entry.{Entry}
use Rattle.registers.specs.declared.TravelRange.{TravelRange}
use Rattle.registers.specs.declared.Book.{Book}
use Rattle.registers.specs.declared.Mismatch.{Mismatch}
use Rattle.registers.specs.declared.Mismatch.TheVariants.{Differs}
use Rattle.registers.specs.Books.{entries_from, going, same_message, record_length, longest_travel, largest_offset}
use Rattle.registers.specs.Books.{sent, received}

-- above every 32-bit second: the second of arrival less that of sending, with this added, is never below 0
abbrev pub wide : ℕ
wide = 4294967296

unfoldable pub travel : Entry → Entry → ℕ
travel a b = b.second + wide - a.second

-- no travel yet: the least above all and the most below all
abbrev pub no_travel : TravelRange
no_travel = record { least = wide + wide; most = 0 }

-- with the travel of a message more
abbrev pub with_message : TravelRange → ℕ → TravelRange
with_message t d = record { least = min t.least d; most = max t.most d }

-- the records of a direction from record i on
unfoldable pub going_from : ℕ → List ℕ → ℕ → List Entry
going_from d book i = going d (entries_from book i (length book / record_length - i))

-- two lists walked through side by side, with the index reached, and the travel so far: the travel of all, or the index where the lists differ
unfoldable pub walked : ℕ → TravelRange → List Entry → List Entry → Result TravelRange ℕ
walked index t [] [] = Ok t
walked index t [] (b ∷ m) = Err index
walked index t (a ∷ l) [] = Err index
walked index t (a ∷ l) (b ∷ m) = cond (same_message a b) (walked (suc index) (with_message t (travel a b)) l m) (Err index)

-- what a walk says, a difference with the book that sent
unfoldable pub with_sender : Book → Result TravelRange ℕ → Result TravelRange (Mismatch Book)
with_sender sender (Ok t) = Ok t
with_sender sender (Err index) = Err (Differs sender index)

-- what one book sent, beside what the other received
unfoldable pub walked_through : List ℕ → List ℕ → Result TravelRange ℕ
walked_through sender receiver = walked 0 no_travel (sent sender) (received receiver)

-- the lower end of the offsets that the least travel of what the first book sent and the most of what the second sent allow, 0 at least
unfoldable pub lower_end : TravelRange → TravelRange → ℕ
lower_end one other = max (wide + largest_offset - one.least) (other.most - (wide + longest_travel - largest_offset))

-- no offset is left: the lower end is above 120, or more than the most travel of what the first book sent or the least of what the second sent allows
unfoldable pub none_left : TravelRange → TravelRange → Bool
none_left one other =
    ltb (largest_offset + largest_offset) (lower_end one other)
    || (ltb (wide + largest_offset + longest_travel - lower_end one other) one.most
    || ltb other.least (lower_end one other + wide - largest_offset))

-- the intersection's lower end
unfoldable pub offset_within : TravelRange → TravelRange → Option ℕ
offset_within one other = cond (none_left one other) None (Some (lower_end one other))
