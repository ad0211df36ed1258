-- "A generator prints all entries, one decimal number a line" (document 02, request 6).
use Rattle.std.specs.Prelude.{ℕ, ◌*◌, List, [], ◌∷◌, ◌++◌, ◌≡◌, length, get_or}
use Rattle.text.specs.Text.{decimal, first_texts}
use Rattle.rules.specs.LampTable.{table_length, lamp_entry, lamp_table}

-- a number and the end of its line
abbrev pub entry_line : ℕ → List ℕ
entry_line index = decimal (lamp_entry index) ++ (10 ∷ [])

-- room for the longest line
abbrev pub line_room : ℕ
line_room = 6

abbrev pub table_room : ℕ
table_room = line_room * table_length

unfoldable pub table_text : List ℕ
table_text = first_texts entry_line table_length

-- "its output is the constant in the code": the entries of the constant, one a line. `indications::lamp_table::table`, which hands the constant
-- out, promises that it is `lamp_table`; `prints_the_constant` (proofs/lamps/Laws.antt) proves the rest.
abbrev pub entries_one_a_line : List ℕ → List ℕ
entries_one_a_line table = first_texts (λ (i : ℕ). decimal (get_or table i 0) ++ (10 ∷ [])) (length table)

abbrev pub PrintsTheConstant : Type 0
PrintsTheConstant = table_text ≡ entries_one_a_line lamp_table
