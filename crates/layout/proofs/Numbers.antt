-- Numbers and their bytes, both ways, as the library proves them of its own words; and a list by its bytes.
use mathlib.Core.Path.{◌≡◌, refl, ◌∙◌, ap}
use mathlib.Core.List.{List, [], ◌∷◌}
use Prim.Native.Nat.{ℕ, zero, suc, ◌+◌, ◌/◌, ◌%◌, ◌<◌}
use native.Mathlib.Omega.{arith}
use lib.ListN.{length, get_or, drop, drop_of_length-le}
use lib.Seq.{drop-cons}
use Rattle.std.proofs.lemmas.Nat.{le_bytes_2, le_bytes_4, from_le_bytes-to_le_bytes_2, from_le_bytes-to_le_bytes_4}
use Rattle.section.specs.Bytes.{byte, le16}
use Rattle.layout.specs.Layout.{le16_bytes, le32, le32_bytes}

-- ## Numbers

pub le16_number : (x : ℕ) → x < 65536 → le16 (x % 256) (x / 256 % 256) ≡ x
unfolding le16
le16_number x h = from_le_bytes-to_le_bytes_2 x h

pub le32_number : (x : ℕ) → x < 4294967296 → le32 (x % 256) (x / 256 % 256) (x / 65536 % 256) (x / 16777216 % 256) ≡ x
unfolding le32
le32_number x h = from_le_bytes-to_le_bytes_4 x h

module _ (a b : ℕ) (ha : a < 256) (hb : b < 256) where
  two_small : (i : ℕ) → get_or (a ∷ b ∷ []) i 0 < 256
  two_small zero = ha
  two_small (suc zero) = hb
  two_small (suc (suc i)) = omega arith

  pub le16_bytes_lem : le16_bytes (le16 a b) ≡ a ∷ b ∷ []
  unfolding le16_bytes le16
  le16_bytes_lem = le_bytes_2 (a ∷ b ∷ []) _ refl two_small refl

  module _ (c d : ℕ) (hc : c < 256) (hd : d < 256) where
    four_small : (i : ℕ) → get_or (a ∷ b ∷ c ∷ d ∷ []) i 0 < 256
    four_small zero = ha
    four_small (suc zero) = hb
    four_small (suc (suc zero)) = hc
    four_small (suc (suc (suc zero))) = hd
    four_small (suc (suc (suc (suc i)))) = omega arith

    pub le32_bytes_lem : le32_bytes (le32 a b c d) ≡ a ∷ b ∷ c ∷ d ∷ []
    unfolding le32_bytes le32
    le32_bytes_lem = le_bytes_4 (a ∷ b ∷ c ∷ d ∷ []) _ refl four_small refl

-- ## A list of known length

-- the bytes from i on, so many of them
abbrev pub bytes_from : ℕ → ℕ → List ℕ → List ℕ
bytes_from i zero s = []
bytes_from i (suc k) s = byte s i ∷ bytes_from (suc i) k s

pub listed : (k i : ℕ) (s : List ℕ) → length s ≡ i + k → drop i s ≡ bytes_from i k s
listed zero i s e = drop_of_length-le s {i = i} (omega arith)
listed (suc k) i s e = drop-cons s i 0 (omega arith) ∙ ap (λ (l : List ℕ). byte s i ∷ l) (listed k (suc i) s (omega arith))
