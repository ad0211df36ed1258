-- The bytes of the crossings: in their ranges the unused ones are last. Their order never falls, and the byte of a crossing stands before an
-- unused one in it: so what follows an unused byte is unused, byte by byte.
use Prim.Native.Nat.{ℕ, zero, suc, ◌-◌, ◌≤◌, ◌<◌}
use mathlib.Core.Bool.{Bool, true, false, not, ◌&&◌, ◌||◌, false≢true}
use mathlib.Core.List.{List}
use mathlib.Core.Path.{◌≡◌, refl, sym, ap, subst}
use native.Mathlib.Nat.{not-suc-le-zero}
use native.Mathlib.Numerals.{add-one}
use native.Mathlib.Omega.{arith}
use lib.Dec.{eqb, ltb, leb}
use borrow.Author.Count.{below_more}
use borrow.Author.Tests.{eqb-true, leb-true, leb-false, ltb-true, not-false}
use Rattle.section.specs.declared.Settings.{Settings}
use Rattle.section.specs.Bytes.{byte, within}
use Rattle.section.specs.Crossings.{is_used, crossing_block, crossing_in_range, crossing_order, never_falls, crossings_in_range}
use Rattle.section.specs.Numbers.{least_posts, most_posts, most_crossings, unused, largest_line}
use Rattle.section.specs.Settings.{is_signalled, none_from, settings_in_range}
use Rattle.section.proofs.Laws.{and_parts, and_right, posts_right}
use Rattle.site.specs.UnusedLast.{UnusedLast}

or_second : (a b : Bool) → a ≡ false → (a || b) ≡ true → b ≡ true
or_second true b e h = absurd (false≢true (sym e))
or_second false b e h = h

module _ (n : ℕ) (l : List ℕ) where
  crossings_each :
      (m : ℕ) → crossings_in_range n m l ≡ true → (i : ℕ) → i < m → (crossing_in_range n (byte l i) ≡ true) × (never_falls l i ≡ true)
  unfolding crossings_in_range
  crossings_each zero h i k = absurd (not-suc-le-zero k)
  crossings_each (suc m) h i k =
      let here = crossing_in_range n (byte l m) in
      let falls = never_falls l m in
      let parts = and_parts (here && falls) (crossings_in_range n m l) h in
      below_more (λ (j : ℕ). (crossing_in_range n (byte l j) ≡ true) × (never_falls l j ≡ true)) m
      (crossings_each m parts.1) (and_parts here falls parts.0) i (rw add-one k)

-- the byte of a crossing on a line of at most 16 posts stands before an unused one
used_before : (n b : ℕ) → n ≤ most_posts → crossing_in_range n b ≡ true → is_used b ≡ true → crossing_order b < crossing_order unused
used_before n b few fits used =
    let parts = and_parts (ltb b 256) (leb (crossing_block b) (n - 2)) (or_second (not (is_used b)) _ (ap not used) fits) in
    omega (arith, few, ltb-true b 256 parts.0, leb-true (crossing_block b) (n - 2) parts.1)

module _ (n : ℕ) (l : List ℕ) (few : n ≤ most_posts) (right : crossings_in_range n most_crossings l ≡ true) where
  next_unused : (i : ℕ) → suc i < most_crossings → byte l i ≡ unused → byte l (suc i) ≡ unused
  next_unused i h e = go (is_used (byte l (suc i))) refl
    where
      go : (b : Bool) → is_used (byte l (suc i)) ≡ b → byte l (suc i) ≡ unused
      go true used =
          let next = crossings_each n l most_crossings right (suc i) h in
          let falls = leb-true (crossing_order (byte l i)) (crossing_order (byte l (suc i))) next.1 in
          let from : crossing_order unused ≤ crossing_order (byte l (suc i)) =
          subst (λ (b : ℕ). crossing_order b ≤ crossing_order (byte l (suc i))) e falls in
          absurd (omega (arith, from, used_before n (byte l (suc i)) few next.0 used))
      go false free = eqb-true (byte l (suc i)) unused (not-false (eqb (byte l (suc i)) unused) free)

  onward : (i k : ℕ) → i ≤ suc k → (i ≤ k → byte l (suc k) ≡ unused) → byte l i ≡ unused → byte l (suc k) ≡ unused
  onward i k h below e = go (leb i k) refl
    where
      go : (b : Bool) → leb i k ≡ b → byte l (suc k) ≡ unused
      go true q = below (leb-true i k q)
      go false q = let same : i ≡ suc k = omega (arith, h, leb-false i k q) in subst (λ (j : ℕ). byte l j ≡ unused) same e

  all_unused : UnusedLast l
  all_unused i zero h b e = let same : i ≡ zero = omega (arith, h) in subst (λ (j : ℕ). byte l j ≡ unused) same e
  all_unused i (suc k) h b e = onward i k h (λ p. next_unused k b (all_unused i k p (omega (arith, b)) e)) e

pub unused_last : (c : Settings) → settings_in_range c ≡ true → UnusedLast c.crossings
unfolding settings_in_range
unused_last c h =
    let crossings = crossings_in_range c.posts most_crossings c.crossings in
    let line = within 1 largest_line c.line in
    let none = none_from c.mask c.posts in
    let last = is_signalled c.mask (c.posts - 1) in
    let first = is_signalled c.mask 0 in
    let kind = leb c.form 1 in
    let past_posts = and_right (within least_posts most_posts c.posts) (kind && (first && (last && (none && (line && crossings))))) h in
    let past-kind = and_right kind (first && (last && (none && (line && crossings)))) past_posts in
    let past_first = and_right first (last && (none && (line && crossings))) past-kind in
    let past-last = and_right last (none && (line && crossings)) past_first in
    let past_none = and_right none (line && crossings) past-last in
    all_unused c.posts c.crossings (posts_right c h).1 (and_right line crossings past_none)
