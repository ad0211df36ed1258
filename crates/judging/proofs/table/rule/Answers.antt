-- What a kind does not look at, its row of checks does not name, so the two rows are the same; a row that moves no train leaves the cells.
use Rattle.std.proofs.Common.{refl}
use Rattle.section.specs.Step.{number_of}
use Rattle.rules.specs.Site.{occupancy_at}
use Rattle.rules.specs.Table.{checks, effect}
use Rattle.judging.proofs.table.Kept.{looks_at_no_cell}
use Rattle.judging.proofs.table.rule.Goals as goal

pub returns-in-Acknowledge : goal.returns-in-Acknowledge
unfolding checks occupancy_at number_of effect
returns-in-Acknowledge c =
    let a = c.args in
    let place = a.place in
    looks_at_no_cell place.line place.site a.x _ a.other_on_vns a.trains.now a.last.now c.in-Acknowledge.is refl refl (c.acknowledge.ensures place.line)

pub returns-in-MeasuresOn : goal.returns-in-MeasuresOn
unfolding checks occupancy_at number_of effect
returns-in-MeasuresOn c =
    let a = c.args in
    let place = a.place in
    looks_at_no_cell place.line place.site a.x _ a.other_on_vns a.trains.now a.last.now c.in-MeasuresOn.is refl refl (c.measures_on.ensures place.line)

pub returns-in-MeasuresOff : goal.returns-in-MeasuresOff
unfolding checks occupancy_at number_of effect
returns-in-MeasuresOff c =
    let a = c.args in
    let place = a.place in
    looks_at_no_cell place.line place.site a.x _ a.other_on_vns a.trains.now a.last.now c.in-MeasuresOff.is refl refl (c.measures_off.ensures place.line)

pub returns-in-FaultOn : goal.returns-in-FaultOn
unfolding checks occupancy_at number_of effect
returns-in-FaultOn c =
    let a = c.args in
    let place = a.place in
    looks_at_no_cell place.line place.site a.x _ a.other_on_vns a.trains.now a.last.now c.in-FaultOn.is refl refl (c.fault_on.ensures place.line)

pub returns-in-FaultOff : goal.returns-in-FaultOff
unfolding checks occupancy_at number_of effect
returns-in-FaultOff c =
    let a = c.args in
    let place = a.place in
    looks_at_no_cell place.line place.site a.x _ a.other_on_vns a.trains.now a.last.now c.in-FaultOff.is refl refl (c.fault_off.ensures place.line)
