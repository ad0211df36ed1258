use Rattle.std.proofs.Common.{rules}
use Rattle.std.proofs.lemmas.List.Sorted.{answers_always}
use Rattle.section.specs.Crossings.{crossing_order}
use Rattle.ranges.proofs.crossings.Laws.{sorted_where}
use Rattle.ranges.proofs.crossings.never_falls.Goals as goal

pub returns : goal.returns
returns c =
    let by_order = c.is_sorted_by_key.ensures.cases crossing_order (answers_always _ _ _ (λ f a r g called. search rules)) in
    sorted_where c.args.crossings.now c.is_sorted_by_key.result by_order
