-- Examples of crossing bytes on a line of four posts, by computation, beside what request 1 says of them.
use Prim.Native.Nat.{ℕ}
use mathlib.Core.Bool.{Bool, true, false}
use mathlib.Core.Path.{◌≡◌, refl}
use mathlib.Core.List.{List, [], ◌∷◌}
use Rattle.section.specs.Numbers.{most_crossings}
use Rattle.section.specs.Crossings.{no_crossings, has_crossings, crossings_in_range}

-- on a line with block sections 0, 1 and 2
abbrev of_four_posts : List ℕ → Bool
of_four_posts l = crossings_in_range 4 most_crossings l

-- "255 (unused, these last) or a block section number, plus 128"
pub crossings_in_range_lem :
    (of_four_posts no_crossings ≡ true)
    × ((of_four_posts (0 ∷ 255 ∷ 255 ∷ 255 ∷ 255 ∷ 255 ∷ 255 ∷ 255 ∷ []) ≡ true)
    -- both kinds in one block section, the same byte twice, all eight used
    × (of_four_posts (0 ∷ 0 ∷ 128 ∷ 1 ∷ 129 ∷ 129 ∷ 2 ∷ 130 ∷ []) ≡ true))
unfolding crossings_in_range
crossings_in_range_lem = (refl, (refl, refl))

-- "The section numbers never fall, and within one section bytes without the 128 stand first"
pub crossings_out_of_range :
    (of_four_posts (1 ∷ 0 ∷ 255 ∷ 255 ∷ 255 ∷ 255 ∷ 255 ∷ 255 ∷ []) ≡ false)
    × ((of_four_posts (128 ∷ 0 ∷ 255 ∷ 255 ∷ 255 ∷ 255 ∷ 255 ∷ 255 ∷ []) ≡ false)
    × ((of_four_posts (129 ∷ 0 ∷ 255 ∷ 255 ∷ 255 ∷ 255 ∷ 255 ∷ 255 ∷ []) ≡ false)
    -- an unused byte before a used one
    × ((of_four_posts (255 ∷ 0 ∷ 255 ∷ 255 ∷ 255 ∷ 255 ∷ 255 ∷ 255 ∷ []) ≡ false)
    -- no such block section
    × ((of_four_posts (3 ∷ 255 ∷ 255 ∷ 255 ∷ 255 ∷ 255 ∷ 255 ∷ 255 ∷ []) ≡ false)
    × ((of_four_posts (131 ∷ 255 ∷ 255 ∷ 255 ∷ 255 ∷ 255 ∷ 255 ∷ 255 ∷ []) ≡ false)
    × (of_four_posts (127 ∷ 255 ∷ 255 ∷ 255 ∷ 255 ∷ 255 ∷ 255 ∷ 255 ∷ []) ≡ false))))))
unfolding crossings_in_range
crossings_out_of_range = (refl, (refl, (refl, (refl, (refl, (refl, refl))))))

pub crossings_listed :
    (has_crossings no_crossings ≡ false) × (has_crossings (130 ∷ 255 ∷ 255 ∷ 255 ∷ 255 ∷ 255 ∷ 255 ∷ 255 ∷ []) ≡ true)
crossings_listed = (refl, refl)
