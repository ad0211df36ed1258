-- What a step judged at its site comes to, by its ruling.
use Prim.Native.Nat.{ℕ}
use mathlib.Core.Bool.{Bool, true, false}
use mathlib.Core.List.{List}
use mathlib.Core.Path.{◌≡◌, sym, ◌∙◌, ap}
use Rattle.section.specs.declared.Refusal.{Refusal}
use Rattle.section.specs.declared.Step.{Step}
use Rattle.rules.specs.declared.Effect.{Effect}
use Rattle.rules.specs.declared.Line.{Line}
use Rattle.rules.specs.declared.Site.{Site}
use Rattle.std.specs.Prelude.{Ok, Err}
use Rattle.site.specs.Ruling.{Ruling, ruling_at, cells_ruled}
use Rattle.judging.specs.AtPost.{as_before, judged_of, judged_at_post, trains_at, last_at}

module _ (c : Line) (other_on_vns : Bool) (x : Step) (e : Site) (trains last : List ℕ) {r : Ruling} (told : r ≡ ruling_at c other_on_vns x e trains last) where
  pub accepted : {f : Effect} → r ≡ Ok f
      → record { verdict = Ok f.said; own = f.own; running = record { cvt = f.cvt; walk = f.walk } }
      ≡ judged_at_post c other_on_vns x e trains last
  unfolding judged_at_post judged_of
  accepted a = ap (λ (q : Ruling). judged_of q e) (sym a ∙ told)

  pub refused : {k : Refusal} → r ≡ Err k → as_before (Err k) e ≡ judged_at_post c other_on_vns x e trains last
  unfolding judged_at_post judged_of
  refused a = ap (λ (q : Ruling). judged_of q e) (sym a ∙ told)

  pub trains_told : {l : List ℕ} → l ≡ cells_ruled c true r e trains → l ≡ trains_at c other_on_vns x e trains last
  unfolding trains_at
  trains_told moved = moved ∙ ap (λ (q : Ruling). cells_ruled c true q e trains) told

  pub last_told : {l : List ℕ} → l ≡ cells_ruled c false r e last → l ≡ last_at c other_on_vns x e trains last
  unfolding last_at
  last_told noted = noted ∙ ap (λ (q : Ruling). cells_ruled c false q e last) told
