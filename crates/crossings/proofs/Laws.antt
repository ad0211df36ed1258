-- Crossings ahead, and a line that has none.
use Rattle.std.proofs.Common.{◌≡◌, ℕ, zero, suc, ◌<◌, Bool, true, false, not, ◌&&◌, ◌||◌, List, refl, sym, ◌∙◌, ap, arith}
use Rattle.section.specs.Bytes.{byte}
use Rattle.section.specs.Crossings.{lies_in, lacks_zones}
use Rattle.section.specs.Numbers.{most_crossings, unused}
use Rattle.section.proofs.Laws.{and_left}
use Rattle.rules.specs.declared.Line.{Line}
use Rattle.rules.specs.declared.Site.{Site}
use Rattle.rules.specs.AllOpen.{crossing_ahead_before, zones_lack_ahead_before}
use Rattle.rules.specs.Site.{any_of, at_receiving_end, block_ahead, crossing_ahead, zones_lack_ahead}
use Rattle.rules.proofs.AllOpen.{all_open_as_before}
use Rattle.site.specs.OnTheLine.{OnTheLine}

or_false : (a b : Bool) → a ≡ false → b ≡ false → (a || b) ≡ false
or_false true b e h = e
or_false false b e h = h

or_true : (a b : Bool) → b ≡ true → (a || b) ≡ true
or_true true b h = refl
or_true false b h = h

or_implies : (a b x y : Bool) → (a ≡ true → x ≡ true) → (b ≡ true → y ≡ true) → (a || b) ≡ true → (x || y) ≡ true
or_implies true b x y f g h = ap (λ (t : Bool). t || y) (f refl)
or_implies false b x y f g h = or_true x y (g h)

and_second : (a b : Bool) → b ≡ false → (a && b) ≡ false
and_second true b h = h
and_second false b h = refl

and_implies : (a x y : Bool) → (x ≡ true → y ≡ true) → (a && x) ≡ true → (a && y) ≡ true
and_implies true x y f h = f h
and_implies false x y f h = h

any_none : (test : ℕ → Bool) (l : List ℕ) (m : ℕ) → ((k : ℕ) → k < m → test (byte l k) ≡ false) → any_of test m l ≡ false
unfolding any_of
any_none test l zero h = refl
any_none test l (suc m) h = or_false (test (byte l m)) (any_of test m l) (h m (omega arith)) (any_none test l m (λ k b. h k (omega (arith, b))))

any_implies :
    (test other : ℕ → Bool) (l : List ℕ) → ((b : ℕ) → test b ≡ true → other b ≡ true) → (m : ℕ) → any_of test m l ≡ true
    → any_of other m l ≡ true
unfolding any_of
any_implies test other l f zero h = h
any_implies test other l f (suc m) h =
    or_implies (test (byte l m)) (any_of test m l) (other (byte l m)) (any_of other m l) (f (byte l m)) (any_implies test other l f m) h

module _ {c : Line} {e : Site} (h : OnTheLine c e) where
  -- every post is in service, so what lies ahead lies in the block section ahead
  pub crossing_before : crossing_ahead c e ≡ crossing_ahead_before c e
  crossing_before = (all_open_as_before c e h.post).crossings

  pub zones_before : zones_lack_ahead c e ≡ zones_lack_ahead_before c e
  zones_before = (all_open_as_before c e h.post).zones

  -- where one without zones lies ahead, a crossing does
  pub zones_lack_there : zones_lack_ahead c e ≡ true → crossing_ahead c e ≡ true
  zones_lack_there lack =
      let i = block_ahead c e in
      crossing_before
      ∙ and_implies (not (at_receiving_end c e)) (any_of (λ (b : ℕ). lies_in i b && lacks_zones b) most_crossings c.crossings)
      (any_of (lies_in i) most_crossings c.crossings)
      (any_implies (λ (b : ℕ). lies_in i b && lacks_zones b) (lies_in i) c.crossings (λ b. and_left (lies_in i b) (lacks_zones b)) most_crossings)
      (sym zones_before ∙ lack)

  -- a line whose first byte is unused has none
  pub none_ahead : byte c.crossings 0 ≡ unused → crossing_ahead c e ≡ false
  none_ahead first =
      crossing_before
      ∙ and_second (not (at_receiving_end c e)) (any_of (lies_in (block_ahead c e)) most_crossings c.crossings)
      (any_none (lies_in (block_ahead c e)) c.crossings most_crossings
      (λ k b. ap (lies_in (block_ahead c e)) (h.crossings 0 k (omega arith) b first)))
