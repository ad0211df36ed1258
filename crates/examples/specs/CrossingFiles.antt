-- Files with level crossings (document 02, request 1), as a table. `crossing_files_lem` (proofs/CrossingFiles.antt) proves it.
use Rattle.std.specs.Prelude.{ℕ, List, [], ◌∷◌, ◌++◌, length}
use Rattle.rules.proofs.Rows.{Row, ◌gives◌}
use Rattle.examples.specs.Marked.{reading}

-- settings of three posts, telephone form, all signalled, line 1
abbrev pub three_posts : List ℕ
three_posts = 3 ∷ 0 ∷ 7 ∷ 0 ∷ 1 ∷ 0 ∷ 0 ∷ 0 ∷ []

-- the trailer of a day with no step: "BSR2", 32, 32, 0
abbrev pub trailer_of_none : List ℕ
trailer_of_none = 66 ∷ 83 ∷ 82 ∷ 50 ∷ 32 ∷ 0 ∷ 0 ∷ 0 ∷ 32 ∷ 0 ∷ 0 ∷ 0 ∷ 0 ∷ 0 ∷ 0 ∷ 0 ∷ []

-- a day with no step and these crossing bytes
abbrev pub day_of_none : List ℕ → List ℕ
day_of_none crossings = three_posts ++ (crossings ++ trailer_of_none)

-- six bytes that list no crossing
abbrev pub six_unused : List ℕ
six_unused = 255 ∷ 255 ∷ 255 ∷ 255 ∷ 255 ∷ 255 ∷ []

unfoldable pub crossing_files : List (Row ℕ)
crossing_files =
    -- "Files marked "BSR2" have 8 more bytes between settings and trailer, and distances grow by 8"
    (length (day_of_none (0 ∷ 129 ∷ six_unused)) gives 32)
    ∷ (reading (day_of_none (0 ∷ 129 ∷ six_unused)) gives 0)
    -- "a length that doesn't suit its mark is 2": no room for the crossings, with these distances or those of a file without them
    ∷ (reading (three_posts ++ trailer_of_none) gives 2)
    ∷ (reading (three_posts ++ (66 ∷ 83 ∷ 82 ∷ 50 ∷ 24 ∷ 0 ∷ 0 ∷ 0 ∷ 24 ∷ 0 ∷ 0 ∷ 0 ∷ 0 ∷ 0 ∷ 0 ∷ 0 ∷ [])) gives 2)
    -- "At least one is used, else 3"
    ∷ (reading (day_of_none (255 ∷ 255 ∷ six_unused)) gives 3)
    -- "as for any other wrong byte": unused before used, falling, the 128 first, no such block section
    ∷ (reading (day_of_none (255 ∷ 0 ∷ six_unused)) gives 3)
    ∷ (reading (day_of_none (1 ∷ 0 ∷ six_unused)) gives 3)
    ∷ (reading (day_of_none (128 ∷ 0 ∷ six_unused)) gives 3)
    ∷ (reading (day_of_none (2 ∷ 255 ∷ six_unused)) gives 3)
    ∷ []
