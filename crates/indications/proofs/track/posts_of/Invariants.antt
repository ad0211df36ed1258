-- Before turn p the array has what the first p posts show, and is dark after them.
use Rattle.std.proofs.Common.{◌≡◌}
use Rattle.section.specs.Items.{items}
use Rattle.section.specs.Numbers.{most_posts}
use Rattle.indications.specs.OnTrack.{one_of_first}
use Rattle.indications.proofs.track.posts_of.Given as goal

abbrev pub invariant-loop-p : goal.invariant-loop-p
invariant-loop-p l = l.filled ≡ items (one_of_first l.fn.c l.track l.t l.p) most_posts
