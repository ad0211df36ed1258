-- The block sections beside a post: where it has one before it, and one ahead.
use Prim.Native.Nat.{ℕ, suc, ◌-◌, ◌≤◌, ◌<◌}
use mathlib.Core.Bool.{Bool, true, false, ◌||◌, false≢true}
use mathlib.Core.Path.{◌≡◌, refl, sym}
use native.Mathlib.Omega.{arith}
use borrow.Author.Tests.{eqb-true, eqb-false, ne_eqb}
use Rattle.rules.specs.declared.Line.{Line}
use Rattle.section.specs.Geometry.{rank, block, is_first, is_last}
use Rattle.section.specs.Numbers.{most_blocks}
use Rattle.section.proofs.Laws.{rank_lt, block_lt}
use Rattle.rules.specs.declared.Site.{Site}
use Rattle.rules.specs.Site.{up_at, rank_at, at_sending_end, at_receiving_end, block_ahead, block_before}
use Rattle.site.specs.OnTheLine.{OnTheLine, HasAhead, HasBefore}

module _ (n : ℕ) (up : Bool) where
  pub block_below : (j : ℕ) → suc j < n → n ≤ 16 → block n up j < 15
  block_below j h k = omega (arith, block_lt n up j h)

  pub rank_below : (p : ℕ) → p < n → n ≤ 16 → rank n up p < 16
  rank_below p h k = omega (arith, rank_lt n up p h)

module _ {c : Line} {e : Site} (h : OnTheLine c e) where
  pub rank_on_the_line : rank_at c e < c.posts
  rank_on_the_line = rank_lt c.posts (up_at c e) e.post h.post

  pub has_ahead : at_receiving_end c e ≡ false → HasAhead c e
  unfolding is_last
  has_ahead k = omega (arith, rank_on_the_line, eqb-false (suc (rank_at c e)) c.posts k)

  pub has_before : at_sending_end c e ≡ false → HasBefore c e
  unfolding is_first
  has_before k = omega (arith, eqb-false (rank_at c e) 0 k)

  -- a line has two posts at least, so its ends are two
  pub receiving_not_sending : at_receiving_end c e ≡ true → at_sending_end c e ≡ false
  unfolding is_first is_last
  receiving_not_sending k = ne_eqb (rank_at c e) 0 (λ q. omega (arith, eqb-true (suc (rank_at c e)) c.posts k, h.least))

  pub sending_not_receiving : at_sending_end c e ≡ true → at_receiving_end c e ≡ false
  unfolding is_first is_last
  sending_not_receiving k = ne_eqb (suc (rank_at c e)) c.posts (λ q. omega (arith, eqb-true (rank_at c e) 0 k, h.least))

  pub ahead_lt : HasAhead c e → block_ahead c e < most_blocks
  ahead_lt k = block_below c.posts (up_at c e) (rank_at c e) k h.most

  -- the post before has a block section ahead
  pub before_has : HasBefore c e → suc (rank_at c e - 1) < c.posts
  before_has k = omega (arith, k, rank_on_the_line)

  pub before_lt : HasBefore c e → block_before c e < most_blocks
  before_lt k = block_below c.posts (up_at c e) (rank_at c e - 1) (before_has k) h.most

pub or-false : (a b : Bool) → (a || b) ≡ false → (a ≡ false) × (b ≡ false)
or-false true b e = absurd (false≢true (sym e))
or-false false b e = (refl, e)
