-- The table's ruling on a step, over the site, the cells of its track and whether the other track is settled on VNS: its first check that fails,
-- or its effect; and the cells after it.
use Rattle.std.specs.Prelude.{ℕ, Bool, cond, List, [], ◌∷◌, Result, Ok, Err}
use Rattle.section.specs.declared.Refusal.{Refusal}
use Rattle.section.specs.declared.Step.{Step}
use Rattle.section.specs.Step.{number_of}
use Rattle.rules.specs.declared.Effect.{Effect}
use Rattle.rules.specs.declared.Line.{Line}
use Rattle.rules.specs.declared.Site.{Site}
use Rattle.rules.specs.Site.{occupancy_at}
use Rattle.rules.specs.Table.{Check, checks, effect, cells_after}

-- the row of checks that the step meets
abbrev pub row_at : Line → Bool → Step → Site → List ℕ → List ℕ → List Check
row_at c other_on_vns x e trains last = checks c x e (occupancy_at c (record { on_vns = other_on_vns }) e (number_of x) trains last)

-- what the step does, or its refusal
abbrev pub Ruling : Type 0
Ruling = Result Effect Refusal

-- "Figures are the refusals below. Every step not refused is accepted."
unfoldable pub ruling_of : List Check → Effect → Ruling
ruling_of [] f = Ok f
ruling_of (k ∷ ks) f = cond k.holds (ruling_of ks f) (Err k.refusal)

abbrev pub ruling_at : Line → Bool → Step → Site → List ℕ → List ℕ → Ruling
ruling_at c other_on_vns x e trains last = ruling_of (row_at c other_on_vns x e trains last) (effect c x e)

-- the cells of the block sections after it: of the trains, where what is left is cleared, or of the last trains
abbrev pub cells_ruled : Line → Bool → Ruling → Site → List ℕ → List ℕ
cells_ruled c clears (Err k) e cells = cells
cells_ruled c clears (Ok f) e cells = cells_after c clears f.train e cells
