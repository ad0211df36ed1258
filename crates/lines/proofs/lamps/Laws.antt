-- The table has room. What is printed are the entries of the constant: each is the rule's, and they are as many.
use Prim.Native.Nat.{ℕ, ◌≤◌}
use mathlib.Core.List.{[], ◌∷◌, ◌++◌}
use native.Mathlib.Omega.{arith}
use mathlib.Core.Path.{sym, ◌∙◌, ap}
use lib.ListN.{length, get_or, length-append}
use Rattle.section.proofs.Items.{items_length, item_at}
use Rattle.text.specs.Text.{decimal, first_texts}
use Rattle.text.proofs.Laws.{decimal_length, first_texts_length, same_texts}
use Rattle.rules.specs.LampTable.{table_length, lamp_entry, lamp_table}
use Rattle.lines.specs.PrintedTable.{entry_line, line_room, table_room, table_text, PrintsTheConstant}

pub entry_short : (index : ℕ) → length (entry_line index) ≤ line_room
entry_short index = simp length-append (omega (arith, decimal_length (lamp_entry index)))

pub table_fits : length table_text ≤ table_room
unfolding table_text
table_fits = first_texts_length entry_line line_room table_length entry_short

pub prints_the_constant : PrintsTheConstant
unfolding table_text lamp_table
prints_the_constant =
    same_texts entry_line (λ (i : ℕ). decimal (get_or lamp_table i 0) ++ (10 ∷ [])) table_length
    (λ i h. ap (λ (z : ℕ). decimal z ++ (10 ∷ [])) (sym (item_at lamp_entry 0 table_length i h)))
    ∙ ap (first_texts (λ (i : ℕ). decimal (get_or lamp_table i 0) ++ (10 ∷ []))) (sym (items_length lamp_entry table_length))
