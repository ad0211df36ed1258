-- What a post of a track in its ranges shows.
use Rattle.std.specs.Prelude.{ℕ, Bool, cond, ltb}
use Rattle.section.specs.declared.Settings.{Settings}
use Rattle.section.specs.declared.Track.{Track}
use Rattle.section.specs.declared.Indications.{Indications}
use Rattle.rules.specs.Line.{line_of}
use Rattle.rules.specs.Site.{site_on}
use Rattle.rules.specs.Indications.{lamps_at, shown, dark}

-- one of the first m posts; another is dark
unfoldable pub one_of_first : Settings → Bool → Track → ℕ → ℕ → Indications
one_of_first c track t m p = cond (ltb p m) (shown (lamps_at (line_of c) (site_on track p t) t.trains)) dark

-- all 0 for a post that the track has not
abbrev pub indications_at : Settings → Bool → Track → ℕ → Indications
indications_at c track t = one_of_first c track t c.posts
