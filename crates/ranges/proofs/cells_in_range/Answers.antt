use Rattle.std.proofs.Common.{rules, ◌-◌, ◌≡◌, get_or, arith}
use Rattle.section.specs.Post.{blank}
use Rattle.section.specs.Range.{post_in_range}
use Rattle.ranges.proofs.Cells.{end_in}
use Rattle.ranges.proofs.cells_in_range.Goals as goal

pub returns-then-post_in_range : goal.returns-then-post_in_range
returns-then-post_in_range c =
    let post : c.post_in_range.result ≡ post_in_range (get_or c.args.t.posts (c.args.n - 1) blank) = search rules in
    end_in c.args.t c.args.n _ _ post c.if-post_in_range.true (omega arith) (rw c.from-end.ensures at c.first_cells_in_range.ensures)
