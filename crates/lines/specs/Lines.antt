-- The lines of the listing (document 01, "The bench listing"): of a refused file, of a day's header, of a step.
use Rattle.std.specs.Prelude.{ℕ, List, [], ◌∷◌, ◌++◌}
use Rattle.section.specs.declared.Answer.{Answer}
use Rattle.section.specs.declared.Said.{Said}
use Rattle.section.specs.declared.Said.TheVariants.{Nothing, Cvt, Cvtz, Vns, Vnsz}
use Rattle.section.specs.Words.{refusal_of, said_by, track_letter}
use Rattle.text.specs.Text.{ascii, decimal}

-- "one line, `refused K I` (number, index)"
unfoldable pub refused_line : ℕ → ℕ → List ℕ
refused_line number index = ascii "refused " ++ (decimal number ++ (ascii " " ++ (decimal index ++ ascii "\n")))

-- "a header (`posts`, n, `steps`, the count)"
unfoldable pub header : ℕ → ℕ → List ℕ
header n count = ascii "posts " ++ (decimal n ++ (ascii " steps " ++ (decimal count ++ ascii "\n")))

-- "what is said or `-`"
unfoldable pub word : Said → List ℕ
word Nothing = ascii "-"
word Cvt = ascii "CVT"
word Cvtz = ascii "CVTz"
word Vns = ascii "VNS"
word Vnsz = ascii "VNSz"

-- "0 or refusal, what is said or `-`"
unfoldable pub verdict_fields : ℕ → Said → List ℕ
verdict_fields refusal said = decimal refusal ++ (ascii " " ++ word said)

-- a track's letter, after a space
abbrev pub letter_field : ℕ → List ℕ
letter_field letter = ascii " " ++ (letter ∷ [])

-- "index, 0 or refusal, what is said or `-`, tracks A and B after the step", "fields one space apart"
unfoldable pub fields : ℕ → ℕ → Said → ℕ → ℕ → List ℕ
fields index refusal said a b =
    decimal index ++ (ascii " " ++ (verdict_fields refusal said ++ (letter_field a ++ (letter_field b ++ ascii "\n"))))

unfoldable pub step_line : ℕ → Answer → List ℕ
step_line index answer =
    fields index (refusal_of answer.verdict) (said_by answer.verdict) (track_letter answer.section.a) (track_letter answer.section.b)

-- room for the longest of each
abbrev pub refused_room : ℕ
refused_room = 20

abbrev pub header_room : ℕ
header_room = 24

abbrev pub step_line_room : ℕ
step_line_room = 21
