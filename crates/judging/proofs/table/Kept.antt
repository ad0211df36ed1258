-- Cells that the movement of a step does not change are left as they were, accepted or refused.
use Prim.Native.Nat.{ℕ}
use mathlib.Core.Bool.{Bool, true, false, cond}
use mathlib.Core.List.{List, [], ◌∷◌}
use mathlib.Core.Path.{◌≡◌, refl, sym, ◌∙◌, ap}
use Rattle.section.specs.declared.Step.{Step}
use Rattle.section.specs.declared.Refusal.{Refusal}
use Rattle.rules.specs.declared.Effect.{Effect}
use Rattle.rules.specs.declared.Line.{Line}
use Rattle.rules.specs.declared.Movement.TheVariants.{Stays}
use Rattle.rules.specs.declared.Site.{Site}
use Rattle.rules.specs.Table.{Check, effect, cells_after}
use Rattle.std.specs.Prelude.{Err}
use Rattle.site.specs.Ruling.{Ruling, row_at, ruling_of, ruling_at, cells_ruled}

module _ (c : Line) (e : Site) where
  one : (clears holds : Bool) (k : Refusal) (rest : Ruling) (cells : List ℕ) → cells ≡ cells_ruled c clears rest e cells
      → cells ≡ cells_ruled c clears (cond holds rest (Err k)) e cells
  one clears true k rest cells kept = kept
  one clears false k rest cells kept = refl

  past : (clears : Bool) (ks : List Check) (f : Effect) (cells : List ℕ) → cells ≡ cells_after c clears f.train e cells
      → cells ≡ cells_ruled c clears (ruling_of ks f) e cells
  unfolding ruling_of
  past clears [] f cells same = same
  past clears (k ∷ ks) f cells same = one clears k.holds k.refusal (ruling_of ks f) cells (past clears ks f cells same)

  -- cells that its movement does not change
  pub kept : (clears : Bool) (cells : List ℕ) (ks : List Check) (f : Effect) {r : Ruling} → r ≡ ruling_of ks f
      → cells ≡ cells_after c clears f.train e cells → cells ≡ cells_ruled c clears r e cells
  kept clears cells ks f told same = past clears ks f cells same ∙ ap (λ (q : Ruling). cells_ruled c clears q e cells) (sym told)

  stays : (clears : Bool) (f : Effect) (cells : List ℕ) → f.train ≡ Stays → cells ≡ cells_after c clears f.train e cells
  unfolding cells_after
  stays clears f cells none = rw none refl

  pub nothing_moved :
      (trains last : List ℕ) (ks : List Check) (f : Effect) {r : Ruling} → f.train ≡ Stays → r ≡ ruling_of ks f
      → (r ≡ ruling_of ks f) × ((trains ≡ cells_ruled c true r e trains) × (last ≡ cells_ruled c false r e last))
  nothing_moved trains last ks f none told =
      (told, (kept true trains ks f told (stays true f trains none), kept false last ks f told (stays false f last none)))

  -- a step whose row looks neither at the cells nor at the other track, and moves no train
  pub looks_at_no_cell :
      (x y : Step) (other_on_vns : Bool) (trains last : List ℕ) {r : Ruling} → x ≡ y → (effect c y e).train ≡ Stays
      → ruling_at c false y e [] [] ≡ ruling_at c other_on_vns y e trains last → r ≡ ruling_at c false y e [] []
      → record {
        value : r ≡ ruling_at c other_on_vns x e trains last;
        trains_after : trains ≡ cells_ruled c true r e trains;
        last_after : last ≡ cells_ruled c false r e last;
      }
  looks_at_no_cell x y other_on_vns trains last is none same told =
      let all = nothing_moved trains last (row_at c other_on_vns y e trains last) (effect c y e) none (told ∙ same) in
      record { value = rw is (told ∙ same); trains_after = all.1.0; last_after = all.1.1 }
