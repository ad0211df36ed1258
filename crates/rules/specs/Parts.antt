-- "Telephone lines keep the earlier rule." (document 02, request 3): there the part is the block section ahead, and every post but the
-- receiving end commands one. `telephone_keeps_the_rule` (proofs/Parts.antt) proves it.
use Rattle.std.specs.Prelude.{ℕ, ◌<◌, false, not, ◌&&◌, ◌≡◌, List, get_or}
use Rattle.rules.specs.declared.Line.{Line}
use Rattle.rules.specs.declared.Site.{Site}
use Rattle.rules.specs.Line.{is_materialised}
use Rattle.rules.specs.Site.{is_train, at_receiving_end, block_ahead, commands, watched_occupied}

module _ (c : Line) (e : Site) where
  -- checks and indications ask for a part by these two alone
  pub record EarlierRule : Type 0 where
    pub commanded : commands c e ≡ not (at_receiving_end c e)
    pub watched : (trains : List ℕ) → watched_occupied c e trains ≡ (not (at_receiving_end c e) && is_train (get_or trains (block_ahead c e) 0))

abbrev pub TelephoneKeepsTheRule : Type 0
TelephoneKeepsTheRule = (c : Line) (e : Site) → is_materialised c ≡ false → e.post < c.posts → EarlierRule c e
