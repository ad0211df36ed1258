use Rattle.std.proofs.Common.{◌≡◌, ◌&&◌, length, rules, tests, ◌∙◌}
use Rattle.std.proofs.lemmas.Iterator.{YieldsList-from_slice}
use Rattle.std.proofs.lemmas.Iterator.Search.{any_from_yields_List}
use Rattle.section.specs.Crossings.{lies_in, lacks_zones}
use Rattle.section.specs.Numbers.{most_crossings}
use Rattle.site.proofs.Search.{any_of_all}
use Rattle.crossings.proofs.zones_lack_in.Goals as goal

pub returns : goal.returns
returns c =
    let l = c.args.crossings.now in
    let long : length l ≡ most_crossings = cc in
    any_from_yields_List (λ b. lies_in c.args.block b && lacks_zones b) _ _ _ c.any.ensures.ran (YieldsList-from_slice l cc) (λ x b q k. search (rules, tests))
    ∙ any_of_all (λ b. lies_in c.args.block b && lacks_zones b) l
    ∙ rw long
