-- All posts are open, so every search over open posts ends at the next one.
use Prim.Native.Nat.{ℕ, zero, suc, ◌-◌, ◌<◌}
use mathlib.Core.Bool.{Bool, true, false, not, ◌&&◌, or-false}
use mathlib.Core.Path.{◌≡◌, refl, sym, ap, ◌∙◌}
use native.Mathlib.Omega.{arith}
use Rattle.section.specs.Geometry.{rank, block}
use Rattle.section.proofs.Laws.{rank_lt, rank_rank}
use Rattle.rules.specs.declared.Line.{Line}
use Rattle.rules.specs.declared.Site.{Site}
use Rattle.rules.specs.Line.{is_open}
use Rattle.rules.specs.Site.{reach, first_from, last_before, up_at, rank_at, at_receiving_end, block_ahead, open_at, next_post, lies_ahead, crossing_ahead}
use Rattle.rules.specs.Site.{zones_lack_ahead}
use Rattle.rules.specs.Indications.{is_next_to_set}
use Rattle.rules.specs.AllOpen.{crossing_ahead_before, zones_lack_ahead_before, next_post_before, next_to_set_before, AsBefore, AllOpenAsBefore}
use Rattle.rules.proofs.Facts.{last_rank, not_last_rank, next_rank, next_lt}

-- ## Searches that end at once

-- a search ahead that ends at the next rank looks at one block section
one_ahead : (ends test : ℕ → Bool) (f j : ℕ) → ends (suc j) ≡ true → reach ends test (suc f) j ≡ test j
unfolding reach
one_ahead ends test f j h = rw h (or-false (test j))

-- the first rank that passes is the one where the search begins
first_at_once : (test : ℕ → Bool) (f j : ℕ) → test j ≡ true → first_from test f j ≡ j
unfolding first_from
first_at_once test zero j h = refl
first_at_once test (suc f) j h = rw h refl

module _ (c : Line) (e : Site) (below : e.post < c.posts) where
  abbrev r : ℕ
  r = rank_at c e

  abbrev open_at_lem : ℕ → Bool
  open_at_lem = open_at c e.track e.cvt

  rank_below : r < c.posts
  rank_below = rank_lt c.posts (up_at c e) e.post below

  each_open : (j : ℕ) → j < c.posts → open_at_lem j ≡ true
  unfolding open_at is_open
  each_open j h = refl

  -- ## Ahead

  ahead : (test : ℕ → Bool) → lies_ahead c test e ≡ (not (at_receiving_end c e) && test (block_ahead c e))
  unfolding lies_ahead reach
  ahead test = go (at_receiving_end c e) refl
    where
      there : ℕ → Bool
      there j = test (block c.posts (up_at c e) j)

      go : (last : Bool) → at_receiving_end c e ≡ last → reach open_at_lem there (c.posts - suc r) r ≡ (not last && test (block_ahead c e))
      go true q =
          let end : c.posts - suc r ≡ 0 = omega (arith, last_rank c.posts (up_at c e) e.post q) in
          rw end refl
      go false q =
          let inside : suc r < c.posts = not_last_rank c.posts (up_at c e) e.post below q in
          let left : c.posts - suc r ≡ suc (c.posts - suc (suc r)) = omega arith in
          rw left (one_ahead open_at_lem there (c.posts - suc (suc r)) r (each_open (suc r) inside))

  crossing : crossing_ahead c e ≡ crossing_ahead_before c e
  unfolding crossing_ahead
  crossing = ahead _

  zones : zones_lack_ahead c e ≡ zones_lack_ahead_before c e
  unfolding zones_lack_ahead
  zones = ahead _

  next : at_receiving_end c e ≡ false → next_post c e ≡ next_post_before c e
  unfolding next_post
  next q =
      let inside : suc r < c.posts = not_last_rank c.posts (up_at c e) e.post below q in
      ap (rank c.posts (up_at c e))
      (first_at_once open_at_lem _ (suc r) (each_open (suc r) inside) ∙ sym (next_rank c.posts (up_at c e) e.post below inside))
      ∙ rank_rank c.posts (up_at c e) (next_post_before c e) (next_lt c.posts (up_at c e) e.post below inside)

  -- ## The lamp

  lamp_at : (count j : ℕ) → j < c.posts → is_next_to_set open_at_lem count j ≡ next_to_set_before c count j
  unfolding is_next_to_set last_before
  lamp_at count zero h = refl
  lamp_at count (suc j) h = rw (each_open j (omega arith)) refl

  as_before : AsBefore c e
  as_before = record {
    crossings = crossing;
    zones = zones;
    next = next;
    lamp = λ count. lamp_at count r rank_below;
  }

pub all_open_as_before : AllOpenAsBefore
all_open_as_before c e below = as_before c e below
