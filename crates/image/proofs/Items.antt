-- Items of one length, one after another. Each stands at its place, whatever stands before and behind the items: the induction over their number
-- is made once, in `each`, for any property of an item in its bytes; reading items back and testing them are instances.
use Prim.Native.Nat.{ℕ, zero, suc, ◌+◌, ◌*◌, ◌<◌}
use mathlib.Core.Bool.{Bool, true, false}
use mathlib.Core.List.{List, ◌++◌, append_assoc}
use mathlib.Core.Path.{◌≡◌, refl, ◌∙◌}
use native.Mathlib.Nat.{not-suc-le-zero, mul_comm}
use native.Mathlib.Omega.{arith}
use lib.ListN.{length, length-append}
use lib.Dec.{ltb}
use borrow.Author.Tests.{ltb-true, ltb-false}
use Rattle.text.specs.Text.{first_texts}
use Rattle.text.proofs.Laws.{first_texts_whole}

-- the same bytes, with the last item apart
last_apart : (front row item rest : List ℕ) → front ++ ((row ++ item) ++ rest) ≡ (front ++ row) ++ (item ++ rest)
last_apart front row item rest = simp append_assoc

-- the same bytes, with the last item in the rest
last_in_rest : (front row item rest : List ℕ) → front ++ ((row ++ item) ++ rest) ≡ front ++ (row ++ (item ++ rest))
last_in_rest front row item rest = simp append_assoc

module _
    (item : ℕ → List ℕ) (size : ℕ) (sized : (i : ℕ) → length (item i) ≡ size)
    (front : List ℕ) (at : ℕ) (here : length front ≡ at) (P : ℕ → List ℕ → Type 0)
    (holds : (i : ℕ) (before rest : List ℕ) → length before ≡ at + size * i → P i (before ++ (item i ++ rest)))
  where
    there : (m : ℕ) → length (front ++ first_texts item m) ≡ at + size * m
    there m = length-append front (first_texts item m) ∙ rw (here, first_texts_whole item size m sized, mul_comm m size)

    one_more :
        (m i : ℕ) (rest : List ℕ) → i < suc m → (i < m → P i (front ++ (first_texts item m ++ (item m ++ rest)))) →
        P i (front ++ ((first_texts item m ++ item m) ++ rest))
    one_more m i rest h before = go (ltb i m) refl
      where
        go : (b : Bool) → ltb i m ≡ b → P i (front ++ ((first_texts item m ++ item m) ++ rest))
        go true e = rw (last_in_rest front (first_texts item m) (item m) rest) (before (ltb-true i m e))
        go false e =
            let k : i ≡ m = omega (arith, ltb-false i m e) in
            rw (last_apart front (first_texts item m) (item m) rest, k) (holds m (front ++ first_texts item m) rest (there m))

    -- what holds of an item wherever it stands holds at its place among m items
    pub each : (m : ℕ) (rest : List ℕ) (i : ℕ) → i < m → P i (front ++ (first_texts item m ++ rest))
    unfolding first_texts
    each zero rest i h = absurd (not-suc-le-zero h)
    each (suc m) rest i h = one_more m i rest h (each m (item m ++ rest) i)
