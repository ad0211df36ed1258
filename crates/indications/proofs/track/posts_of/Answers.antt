use Rattle.site.proofs.running.Laws.{in_its_ranges}
use Rattle.indications.proofs.track.posts_of.Goals as goal

pub invariant_of-place : goal.invariant_of-place
invariant_of-place c =
    let a = c.args in
    let there = in_its_ranges a.c a.track a.t c.loop-p.p c.requires.0 c.requires.1 c.loop-p-test.true in
    record { on_the_line = rw (c.line_of-line.ensures, c.site.ensures, c.running_of-running.ensures) there.on_the_line }

pub read_at-requires : goal.read_at-requires
read_at-requires c =
    let a = c.args in
    let there = in_its_ranges a.c a.track a.t c.loop-p.p c.requires.0 c.requires.1 c.loop-p-test.true in
    (c.table-table.ensures, rw (c.line_of-line.ensures, c.site.ensures, c.running_of-running.ensures) there)
