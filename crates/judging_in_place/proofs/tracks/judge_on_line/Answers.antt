-- The step that the bytes say is judged at its track's place.
use Rattle.std.proofs.Common.{sym}
use Rattle.judging_in_place.proofs.Rows.{in_ranges_at, judged_at}
use Rattle.judging_in_place.proofs.tracks.judge_on_line.Goals as goal

pub judge_on_track-requires : goal.judge_on_track-requires
judge_on_track-requires c =
    in_ranges_at c.args.c c.args.tracks.now c.args.bytes.now c.in-Some.x (sym c.in-Some.ensures) c.from-k.ensures c.requires.line_is
    c.requires.ranges

pub returns : goal.returns
returns c =
    judged_at c.args.c c.args.tracks.now c.args.bytes.now c.in-Some.x (sym c.in-Some.ensures) c.from-k.ensures c.requires.line_is
    c.told-tracks c.running_of-other.ensures c.judge_on_track.ensures
