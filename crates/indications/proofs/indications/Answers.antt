-- What is left after the tests is on one of the two tracks, whose ranges are those of the section.
use Rattle.std.proofs.Common.{true, false, ◌∙◌, arith}
use borrow.Author.Tests.{eq-eqb, ne_eqb}
use Rattle.section.proofs.Told.{told}
use Rattle.section.proofs.Laws.{settings_in_range_lem, track_in_range_lem}
use Rattle.indications.proofs.Laws.{on_track_is}
use Rattle.indications.proofs.indications.Goals as goal

pub post_indications-requires : goal.post_indications-requires
post_indications-requires c =
    let s = c.args.s in
    let r = told c.in_range.ensures c.if-not-in_range.false in
    (settings_in_range_lem s r, track_in_range_lem s r true, omega (arith, c.if-post-c.false))

pub returns-then-track-eq1 : goal.returns-then-track-eq1
returns-then-track-eq1 c =
    let a = c.args in
    let r = told c.in_range.ensures c.if-not-in_range.false in
    c.post_indications.ensures
    ∙ on_track_is a.s a.track a.post true r (omega arith) (omega (arith, c.if-post-c.false))
    (eq-eqb _ _ c.if-track-eq1.true)

pub post_indications-requires-2 : goal.post_indications-requires-2
post_indications-requires-2 c =
    let s = c.args.s in
    let r = told c.in_range.ensures c.if-not-in_range.false in
    (settings_in_range_lem s r, track_in_range_lem s r false, omega (arith, c.if-post-c.false))

pub returns : goal.returns
returns c =
    let a = c.args in
    let r = told c.in_range.ensures c.if-not-in_range.false in
    c.post_indications-2.ensures
    ∙ on_track_is a.s a.track a.post false r (omega arith) (omega (arith, c.if-post-c.false))
    (ne_eqb _ _ c.if-track-eq1.false)
