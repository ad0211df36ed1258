-- The worked listing of document 01 ("The bench listing"), and the panel of the same day, byte for byte. That the file of the day gives them is
-- proved in proofs/Worked.antt.
use Rattle.std.specs.Prelude.{ℕ, List, [], ◌∷◌, ◌++◌}
use Prim.Native.String.{String}
use Rattle.section.specs.declared.Settings.{Settings}
use Rattle.section.specs.declared.TrackStep.{TrackStep}
use Rattle.section.specs.declared.Step.TheVariants.{Order, Set, Announce, Acknowledge, Start, Leave, MeasuresOn}
use Rattle.layout.specs.Layout.{file_of}
use Rattle.rules.proofs.Days.{A, B, telephone, on, offered_as}
use Rattle.text.specs.Text.{ascii}

-- ## The day

-- "n = 2, telephone, mask 3, line 1"
unfoldable pub settings : Settings
settings = telephone 2 3

-- "measures on A0 and A1; on A: order 0, set 0, announce 0, acknowledge 1, set 1; order B1; start A1 train 2417; leave A0 train 2417"
unfoldable pub steps : List TrackStep
steps =
    on A (MeasuresOn 0 ∷ MeasuresOn 1 ∷ Order 0 ∷ Set 0 ∷ Announce 0 ∷ Acknowledge 1 ∷ Set 1 ∷ [])
    ++ on B (Order 1 ∷ []) ++ on A (Start 1 2417 ∷ Leave 0 2417 ∷ [])

-- byte strings one after another
abbrev pub joined : List (List ℕ) → List ℕ
joined [] = []
joined (first ∷ rest) = first ++ joined rest

-- its day file
unfoldable pub day : List ℕ
day = file_of settings (joined (offered_as steps))

-- ## What is printed

-- lines of text, each with a line feed at its end
abbrev pub text : List String → List ℕ
text [] = []
text (line ∷ rest) = ascii line ++ (ascii "\n" ++ text rest)

unfoldable pub worked_listing : List ℕ
worked_listing =
    text
    ("posts 2 steps 10"
    ∷ "0 0 - V V"
    ∷ "1 0 - V V"
    ∷ "2 0 - c V"
    ∷ "3 0 - c V"
    ∷ "4 0 CVT c V"
    ∷ "5 0 CVTz c V"
    ∷ "6 0 - C V"
    ∷ "7 14 - C V"
    ∷ "8 0 - C V"
    ∷ "9 0 - C V"
    ∷ [])

unfoldable pub worked_panel : List ℕ
worked_panel =
    text
    ("posts 2 steps 10"
    ∷ "0 A 1/1/1 1/0/0"
    ∷ "1 A 1/1/1 1/0/0"
    ∷ "2 A 1/1/0 1/0/0"
    ∷ "3 A 2/1/0 1/0/0"
    ∷ "4 A 2/1/0 1/0/0"
    ∷ "5 A 2/1/0 1/0/0"
    ∷ "6 A 2/0/0 2/1/1"
    ∷ "7 B 1/0/0 1/1/1"
    ∷ "8 A 2/0/0 2/2/1"
    ∷ "9 A 2/0/0 2/1/1"
    ∷ [])

-- "A refused file gives one line": an empty file
unfoldable pub listing_of_nothing : List ℕ
listing_of_nothing = text ("refused 1 0" ∷ [])
