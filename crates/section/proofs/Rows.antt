-- Rows of a table: what the definitions give, by computation, beside what the papers say.
use mathlib.Core.Path.{◌≡◌}
use mathlib.Core.List.{List, map}

pub record Row (X : Type 0) : Type 0 where
  pub given : X
  pub paper : X

infix 20 ◌gives◌
abbrev pub ◌gives◌ : {X : Type 0} → X → X → Row X
x gives y = record { given = x; paper = y }

-- in every row the definitions give what the paper says
abbrev pub Holds : {X : Type 0} → List (Row X) → Type 0
Holds {X} rows = map (λ (r : Row X). r.given) rows ≡ map (λ (r : Row X). r.paper) rows
