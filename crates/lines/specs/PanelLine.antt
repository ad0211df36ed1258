-- A line of the panel: what every post shows on the step's track after the step.
use Rattle.std.specs.Prelude.{ℕ, cond, List, [], ◌∷◌, ◌++◌, eqb}
use Prim.Native.Char.{code}
use Rattle.section.specs.declared.Answer.{Answer}
use Rattle.section.specs.declared.Indications.{Indications}
use Rattle.section.specs.declared.Section.{Section}
use Rattle.section.specs.Bytes.{byte}
use Rattle.rules.specs.Indications.{indications}
use Rattle.text.specs.Text.{ascii, digit, decimal, first_texts}

-- a post's CIRCULATION, TRONÇON and permission, a stroke between, after a space
unfoldable pub post_field : Indications → List ℕ
post_field l =
    ascii " " ++ (digit l.circulation ∷ (ascii "/" ++ (digit l.troncon ∷ (ascii "/" ++ (digit l.permission ∷ [])))))

-- the fields of every post, from post 0 on
unfoldable pub post_fields : Section → ℕ → List ℕ
post_fields s track = first_texts (λ p. post_field (indications s track p)) s.settings.posts

-- the step's track
unfoldable pub track_name : ℕ → ℕ
track_name track = cond (eqb track 1) (code "B") (code "A")

-- the index, the step's track as a letter, and every post's field
unfoldable pub panel_fields : ℕ → ℕ → Section → List ℕ
panel_fields index track s = decimal index ++ (ascii " " ++ (track_name track ∷ (post_fields s track ++ ascii "\n")))

unfoldable pub panel_line : ℕ → List ℕ → Answer → List ℕ
panel_line index bytes answer = panel_fields index (byte bytes 1) answer.section

-- room for the longest
abbrev pub panel_line_room : ℕ
panel_line_room = 104
