-- The search from a post on, over where a stretch or a part ends.
use Rattle.std.specs.Prelude.{ℕ, suc, ◌-◌, Bool, List, get_or}
use Rattle.rules.specs.declared.Line.{Line}
use Rattle.section.specs.Geometry.{block}
use Rattle.rules.specs.Site.{holds_train}
use Rattle.site.specs.Ends.{ends_at_rank}

-- a train between the post of rank j and the next at which one ends
abbrev pub holds_from : Line → Bool → Bool → List ℕ → ℕ → Bool
holds_from c signalled_only up trains j =
    holds_train (ends_at_rank c signalled_only up) (λ (i : ℕ). get_or trains (block c.posts up i) 0) (c.posts - suc j) j
