use Rattle.std.proofs.Common.{◌≤◌, length, take, rules, tests, arith, ◌∙◌}
use Rattle.std.proofs.lemmas.Iterator.{YieldsList-from_slice}
use Rattle.std.proofs.lemmas.Iterator.Search.{any_from_yields_List}
use Rattle.rules.specs.Site.{is_number}
use Rattle.site.proofs.Search.{any_of_first}
use Rattle.occupancy.proofs.trains.any_numbered.Goals as goal

pub returns : goal.returns
returns c =
    let a = c.args in
    let long : a.m ≤ length a.trains.now = omega arith in
    any_from_yields_List (is_number a.number) _ _ _ c.any.ensures.ran (YieldsList-from_slice (take a.m a.trains.now) cc) (λ x b q k. search (rules, tests))
    ∙ any_of_first (is_number a.number) a.m a.trains.now long
