-- "Every post is in service." (document 01): so a search over open posts ends at the next one, and what lies ahead, the next post of the walk and
-- the post before a lamp are the neighbours. `all_open_as_before` (proofs/AllOpen.antt) proves it.
use Rattle.std.specs.Prelude.{ℕ, zero, suc, ◌-◌, ◌<◌, Bool, false, cond, not, ◌&&◌, ◌≡◌, ltb}
use Rattle.section.specs.Crossings.{lies_in, lacks_zones}
use Rattle.section.specs.Numbers.{most_crossings}
use Rattle.rules.specs.declared.Line.{Line}
use Rattle.rules.specs.declared.Site.{Site}
use Rattle.rules.specs.Site.{any_of, up_at, rank_at, at_receiving_end, block_ahead, open_at, next_post, crossing_ahead, zones_lack_ahead}
use Rattle.rules.specs.Indications.{is_next_to_set}

module _ (c : Line) where
  -- ## The neighbours

  abbrev pub crossing_ahead_before : Site → Bool
  crossing_ahead_before e = not (at_receiving_end c e) && any_of (lies_in (block_ahead c e)) most_crossings c.crossings

  abbrev pub zones_lack_ahead_before : Site → Bool
  zones_lack_ahead_before e =
      not (at_receiving_end c e) && any_of (λ (b : ℕ). lies_in (block_ahead c e) b && lacks_zones b) most_crossings c.crossings

  abbrev pub next_post_before : Site → ℕ
  next_post_before e = cond (up_at c e) (suc e.post) (e.post - 1)

  abbrev pub next_to_set_before : ℕ → ℕ → Bool
  next_to_set_before count zero = false
  next_to_set_before count (suc j) = ltb j count && not (ltb (suc j) count)

  -- ## The same

  pub record AsBefore (e : Site) : Type 0 where
    -- the geometry
    pub crossings : crossing_ahead c e ≡ crossing_ahead_before e
    pub zones : zones_lack_ahead c e ≡ zones_lack_ahead_before e
    pub next : at_receiving_end c e ≡ false → next_post c e ≡ next_post_before e
    -- the lamp
    pub lamp : (count : ℕ) → is_next_to_set (open_at c e.track e.cvt) count (rank_at c e) ≡ next_to_set_before count (rank_at c e)

abbrev pub AllOpenAsBefore : Type 0
AllOpenAsBefore = (c : Line) (e : Site) → e.post < c.posts → AsBefore c e
