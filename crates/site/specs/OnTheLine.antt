-- A site that stands on the line, and the block sections beside it: what the code that looks at it may assume.
use Rattle.std.specs.Prelude.{suc, ◌≤◌, ◌<◌}
use Rattle.rules.specs.declared.Line.{Line}
use Rattle.section.specs.Numbers.{least_posts, most_posts}
use Rattle.rules.specs.declared.Site.{Site}
use Rattle.rules.specs.Site.{rank_at}
use Rattle.site.specs.UnusedLast.{UnusedLast}

pub record OnTheLine (c : Line) (e : Site) : Type 0 where
  pub least : least_posts ≤ c.posts
  pub most : c.posts ≤ most_posts
  pub crossings : UnusedLast c.crossings
  pub post : e.post < c.posts

-- a block section ahead of the post
abbrev pub HasAhead : Line → Site → Type 0
HasAhead c e = suc (rank_at c e) < c.posts

-- a block section before the post
abbrev pub HasBefore : Line → Site → Type 0
HasBefore c e = 0 < rank_at c e
