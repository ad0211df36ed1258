-- How long the parts of a line are, and a line.
use Prim.Native.Nat.{ℕ, ◌≤◌}
use native.Mathlib.Omega.{arith}
use lib.ListN.{length, length-append}
use Rattle.section.specs.declared.Said.{Said}
use Rattle.section.specs.declared.Said.TheVariants.{Nothing, Cvt, Cvtz, Vns, Vnsz}
use Rattle.text.proofs.Laws.{decimal_length}
use Rattle.lines.specs.Lines.{word, refused_line, header, verdict_fields, fields, refused_room, header_room, step_line_room}

pub word_length : (said : Said) → length (word said) ≤ 4
unfolding word
word_length Nothing = omega arith
word_length Cvt = omega arith
word_length Cvtz = omega arith
word_length Vns = omega arith
word_length Vnsz = omega arith

pub verdict_length : (refusal : ℕ) (said : Said) → length (verdict_fields refusal said) ≤ 10
unfolding verdict_fields
verdict_length refusal said = simp length-append (omega (arith, decimal_length refusal, word_length said))

-- ## How long a line is

pub refused_length : (number index : ℕ) → length (refused_line number index) ≤ refused_room
unfolding refused_line
refused_length number index = simp length-append (omega (arith, decimal_length number, decimal_length index))

pub header_length : (n count : ℕ) → length (header n count) ≤ header_room
unfolding header
header_length n count = simp length-append (omega (arith, decimal_length n, decimal_length count))

pub fields_length : (index refusal : ℕ) (said : Said) (a b : ℕ) → length (fields index refusal said a b) ≤ step_line_room
unfolding fields
fields_length index refusal said a b = simp length-append (omega (arith, decimal_length index, verdict_length refusal said))
