-- The post at which the walk goes on: the turn to announce is at a post with a block section ahead, and the next post of the walk is its neighbour,
-- since every post is in service.
use Prim.Native.Nat.{ℕ, suc, ◌<◌, ◌≤◌}
use mathlib.Core.Bool.{Bool, true, false}
use mathlib.Core.Path.{◌≡◌, subst}
use native.Mathlib.Omega.{arith}
use lib.Dec.{eqb}
use borrow.Author.Tests.{eqb-true, ne_eqb}
use Rattle.section.specs.declared.Act.TheVariants as act
use Rattle.section.specs.declared.Walk.{Walk}
use Rattle.section.specs.declared.Walk.TheVariants.{Settled, Turn}
use Rattle.section.specs.Geometry.{rank, is_last}
use Rattle.section.specs.Range.{walk_in_range}
use Rattle.section.proofs.Laws.{and_left, and_right, turn_right, announce_right}
use Rattle.rules.specs.declared.Line.{Line}
use Rattle.rules.specs.declared.Site.{Site}
use Rattle.rules.specs.Site.{is_turn, up_at, rank_at, next_post}
use Rattle.rules.specs.AllOpen.{next_post_before}
use Rattle.rules.proofs.AllOpen.{all_open_as_before}
use Rattle.site.specs.OnTheLine.{OnTheLine, HasAhead}
use Rattle.site.proofs.place.Laws.{has_ahead}

-- where trains run downward, a post with a block section ahead is above post 0
pub above_zero : (n : ℕ) (up : Bool) (p : ℕ) → up ≡ false → p < n → suc (rank n up p) < n → 1 ≤ p
unfolding rank
above_zero n true p e h k = let z : ◌≡◌ {A = ℕ} 0 1 = cc in omega arith
above_zero n false p e h k = omega arith

module _ (c : Line) (e : Site) (line : OnTheLine c e) where
  pub next_is : HasAhead c e → next_post c e ≡ next_post_before c e
  unfolding is_last
  next_is ahead = (all_open_as_before c e line.post).next (ne_eqb (suc (rank_at c e)) c.posts (λ q. omega (arith, q, ahead)))

  pub announce_ahead : (w : Walk) → walk_in_range c.posts (up_at c e) w ≡ true → is_turn w e.post act.Announce ≡ true → HasAhead c e
  announce_ahead Settled fits k = let z : ◌≡◌ {A = ℕ} 0 1 = cc in omega arith
  announce_ahead (Turn q act.Set) fits k = let x = and_right (eqb q e.post) false k in let z : ◌≡◌ {A = ℕ} 0 1 = cc in omega arith
  announce_ahead (Turn q act.Acknowledge) fits k = let x = and_right (eqb q e.post) false k in let z : ◌≡◌ {A = ℕ} 0 1 = cc in omega arith
  announce_ahead (Turn q act.Announce) fits k =
      let same = eqb-true q e.post (and_left (eqb q e.post) true k) in
      let n = c.posts in
      let up = up_at c e in
      has_ahead line (subst (λ (r : ℕ). is_last n up r ≡ false) same (announce_right n up q (turn_right n up q act.Announce fits).1))
