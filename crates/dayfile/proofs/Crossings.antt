-- Where the first byte of the crossings is unused, all are: they never fall, and no used byte stands after an unused one.
use Prim.Native.Nat.{ℕ, zero, suc, ◌-◌, ◌<◌, ◌≤◌}
use mathlib.Core.Bool.{Bool, true, false, not, ◌&&◌, ◌||◌}
use mathlib.Core.List.{List}
use mathlib.Core.Path.{◌≡◌, refl, sym, ◌∙◌}
use native.Mathlib.Nat.{not-suc-le-zero}
use native.Mathlib.Numerals.{add-one}
use native.Mathlib.Omega.{arith}
use lib.Dec.{eqb, ltb, leb}
use lib.ListN.{length, get_or-replicate}
use lib.Seq.{ext_get_or}
use borrow.Author.Count.{below_more}
use borrow.Author.Tests.{eqb-true, ltb-true, leb-true, not-false}
use Rattle.section.specs.Bytes.{byte}
use Rattle.section.specs.Numbers.{most_posts, most_crossings, unused}
use Rattle.section.specs.Crossings.{no_crossings, crossing_block, has_crossings, crossing_in_range, crossing_order, never_falls, crossings_in_range}
use Rattle.section.proofs.Laws.{and_parts}

module _ (n : ℕ) (few : n ≤ most_posts) where
  -- the block sections of a line stand before an unused byte
  unused_after : (b : ℕ) → crossing_in_range n b ≡ true → crossing_order unused ≤ crossing_order b → b ≡ unused
  unused_after b e h = go (eqb b unused) refl e
    where
      go : (same : Bool) → eqb b unused ≡ same → not (not same) || (ltb b 256 && leb (crossing_block b) (n - 2)) ≡ true → b ≡ unused
      go true q e = eqb-true b unused q
      go false q e =
          let p = and_parts (ltb b 256) (leb (crossing_block b) (n - 2)) e in
          absurd (omega (arith, h, few, ltb-true b 256 p.0, leb-true (crossing_block b) (n - 2) p.1))

  module _ (l : List ℕ) (none : has_crossings l ≡ false) where
    next_unused :
        (m : ℕ) → crossing_in_range n (byte l m) ≡ true → never_falls l m ≡ true → ((i : ℕ) → i < m → byte l i ≡ unused) → byte l m ≡ unused
    next_unused zero r f below = eqb-true (byte l 0) unused (not-false _ none)
    next_unused (suc m) r f below =
        let h : crossing_order (byte l m) ≤ crossing_order (byte l (suc m)) = leb-true _ _ f in
        unused_after (byte l (suc m)) r (rw (below m (omega arith)) at h)

    all_unused : (m : ℕ) → crossings_in_range n m l ≡ true → (i : ℕ) → i < m → byte l i ≡ unused
    unfolding crossings_in_range
    all_unused zero e i h = absurd (not-suc-le-zero h)
    all_unused (suc m) e i h =
        let p = and_parts (crossing_in_range n (byte l m) && never_falls l m) (crossings_in_range n m l) e in
        let q = and_parts (crossing_in_range n (byte l m)) (never_falls l m) p.0 in
        let before = all_unused m p.1 in
        below_more (λ (j : ℕ). byte l j ≡ unused) m before (next_unused m q.0 q.1 before) i (rw add-one h)

    pub none_listed : length l ≡ most_crossings → crossings_in_range n most_crossings l ≡ true → no_crossings ≡ l
    none_listed e r =
        ext_get_or 0 no_crossings l (sym e) (λ i h. get_or-replicate most_crossings i unused 0 h ∙ sym (all_unused most_crossings r i h))
