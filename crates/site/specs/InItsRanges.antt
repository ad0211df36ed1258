-- A site of a track in its ranges: what the code that looks at it may assume. A clause, and no part of `site::place::Place`: there it would ask
-- more of the callers of the functions that need only OnTheLine.
use Rattle.std.specs.Prelude.{◌≤◌, true, ◌≡◌}
use Rattle.rules.specs.declared.Line.{Line}
use Rattle.section.specs.Numbers.{most_seals}
use Rattle.section.specs.Range.{walk_in_range}
use Rattle.rules.specs.declared.Site.{Site}
use Rattle.rules.specs.Site.{up_at}
use Rattle.site.specs.OnTheLine.{OnTheLine}

pub record InItsRanges (c : Line) (e : Site) : Type 0 where
  pub on_the_line : OnTheLine c e
  pub seals : e.own.seals ≤ most_seals
  pub walk : walk_in_range c.posts (up_at c e) e.walk ≡ true
