-- What is left is one of the two tracks, whose ranges are those of the section.
use Rattle.std.proofs.Common.{true, false, ◌∙◌, arith}
use borrow.Author.Tests.{eq-eqb, ne_eqb}
use Rattle.section.proofs.Laws.{settings_in_range_lem, track_in_range_lem}
use Rattle.indications.proofs.track.Laws.{by_track}
use Rattle.indications.proofs.track.track_indications.Goals as goal

pub posts_of-requires : goal.posts_of-requires
posts_of-requires c =
    let s = c.args.s in
    (settings_in_range_lem s c.requires, track_in_range_lem s c.requires true)

pub returns-then-track-eq1 : goal.returns-then-track-eq1
returns-then-track-eq1 c =
    let a = c.args in
    c.posts_of.ensures ∙ by_track a.s a.track true c.requires (omega (arith, c.if-track-ge2.false)) (eq-eqb _ _ c.if-track-eq1.true)

pub posts_of-requires-2 : goal.posts_of-requires-2
posts_of-requires-2 c =
    let s = c.args.s in
    (settings_in_range_lem s c.requires, track_in_range_lem s c.requires false)

pub returns : goal.returns
returns c =
    let a = c.args in
    c.posts_of-2.ensures ∙ by_track a.s a.track false c.requires (omega (arith, c.if-track-ge2.false)) (ne_eqb _ _ c.if-track-eq1.false)
