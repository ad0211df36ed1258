use Rattle.std.proofs.Common.{◌∙◌, ap, length}
use Rattle.text.proofs.Put.{room_for_more, one_more}
use Rattle.lines.specs.PanelLine.{panel_line_room}
use Rattle.judging_in_place.proofs.Laws.{in_range_before, step_after}
use Rattle.judging_in_place.proofs.whole_day.Laws.{started}
use Rattle.listing.proofs.sheets.Laws.{line_at, line_short, after_step, in_range_after, line_put, step_length_lem, walk_of_one}
use Rattle.listing.proofs.sheets.put_panel_lines.Goals as goal

pub judge_steps-state-requires-clause-s_value : goal.judge_steps-state-requires-clause-s_value
judge_steps-state-requires-clause-s_value c =
    let first = c.fresh-state.result in
    let begun = started first c.args.day.now.settings c.fresh-state.ensures c.args.day.now.in_range in
    (rw c.loop-i.invariant.0 (in_range_before first c.args.day.now.steps.now begun c.loop-i.i), λ e. cc)

pub put_panel-requires : goal.put_panel-requires
put_panel-requires c =
    let first = c.fresh-state.result in
    let steps = c.args.day.now.steps.now in
    let i = c.loop-i.i in
    let begun = started first c.args.day.now.settings c.fresh-state.ensures c.args.day.now.in_range in
    let whole = ap length c.step_at-bytes.ensures ∙ step_length_lem steps i c.args.day.now.count c.loop-i-test.true c.args.day.now.whole in
    let judged = c.judge_steps-state.ensures.value ∙ walk_of_one c.loop-i.state _ whole in
    let stepped = after_step first steps begun i c.loop-i.invariant.0 c.step_at-bytes.ensures judged in (
      room_for_more _ (line_at first steps) panel_line_room c.args.day.now.count (line_short first steps begun) c.requires i c.loop-i-test.true
          c.loop-i.invariant.1,
      rw stepped (in_range_after first steps begun i),
    )

pub loop-i-preserved : goal.loop-i-preserved
loop-i-preserved c =
    let first = c.fresh-state.result in
    let steps = c.args.day.now.steps.now in
    let i = c.loop-i.i in
    let begun = started first c.args.day.now.settings c.fresh-state.ensures c.args.day.now.in_range in
    let whole = ap length c.step_at-bytes.ensures ∙ step_length_lem steps i c.args.day.now.count c.loop-i-test.true c.args.day.now.whole in
    let judged = c.judge_steps-state.ensures.value ∙ walk_of_one c.loop-i.state _ whole in
    let stepped = after_step first steps begun i c.loop-i.invariant.0 c.step_at-bytes.ensures judged in (
      stepped ∙ step_after first steps i,
      one_more _ (line_at first steps) panel_line_room c.args.day.now.count (line_short first steps begun) c.requires i c.loop-i-test.true
          c.loop-i.invariant.1
          (line_put first steps begun i _ stepped c.step_at-bytes.ensures c.put_panel.ensures),
    )
