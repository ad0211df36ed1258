-- Items one after another.
use Rattle.std.specs.Prelude.{ℕ, zero, suc, List, [], ◌∷◌, ◌++◌}

-- items 0 .. m − 1
unfoldable pub items : {A : Type 0} → (ℕ → A) → ℕ → List A
items item zero = []
items item (suc m) = items item m ++ (item m ∷ [])
