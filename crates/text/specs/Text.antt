-- Text in bytes: words, a number in decimal, a buffer with a text written at a place, and texts one after another.
use Rattle.std.specs.Prelude.{ℕ, zero, suc, ◌+◌, ◌/◌, ◌%◌, cond, List, [], ◌∷◌, ◌++◌, length, take, drop, ltb}
use Prim.Native.Char.{code}
use Prim.Native.String.{String, [] as end, ◌∷◌ as ◌then◌}

-- the bytes of a word in ASCII
abbrev pub ascii : String → List ℕ
ascii end = []
ascii (c then s) = code c ∷ ascii s

-- the digit of a number below ten
abbrev pub digit : ℕ → ℕ
digit x = 48 + x

-- a number in at most so many digits, without leading zeros
unfoldable pub decimal_digits : ℕ → ℕ → List ℕ
decimal_digits zero x = []
decimal_digits (suc most) x = cond (ltb x 10) (digit x ∷ []) (decimal_digits most (x / 10) ++ (digit (x % 10) ∷ []))

-- the digits of the largest number that is written
abbrev pub most_digits : ℕ
most_digits = 5

-- a number below 100,000 in decimal, without leading zeros
unfoldable pub decimal : ℕ → List ℕ
decimal x = decimal_digits most_digits x

-- a buffer with a text written at a place
unfoldable pub written : List ℕ → ℕ → List ℕ → List ℕ
written buffer at text = take at buffer ++ (text ++ drop (at + length text) buffer)

-- the texts of 0 .. m − 1, one after another
unfoldable pub first_texts : (ℕ → List ℕ) → ℕ → List ℕ
first_texts text zero = []
first_texts text (suc m) = first_texts text m ++ text m
