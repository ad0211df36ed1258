use Rattle.std.proofs.Common.{ℕ, ◌+◌, ◌*◌, ◌∙◌, refl, rules, tests}
use Rattle.std.proofs.lemmas.Iterator.{YieldsList-from_range}
use Rattle.std.proofs.lemmas.Iterator.Search.{all_from_yields_List}
use Rattle.image.specs.Image.{post_length, post_well_formed}
use Rattle.image.proofs.Laws.{posts_tested}
use Rattle.image.proofs.Places.{post_test_place}
use Rattle.image.proofs.posts_well_formed.Goals as goal

pub returns : goal.returns
returns c =
    let l = c.args.bytes.now in
    all_from_yields_List (λ (p : ℕ). post_well_formed l (0 + post_length * p)) _ _ c.all.result c.all.ensures.ran
    (YieldsList-from_range 0 16 16 refl refl)
    (λ x b q k. (search (rules, tests), post_test_place l x (search (rules, tests))))
    ∙ posts_tested l 0 16
