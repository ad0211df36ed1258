-- A number for each case of an answer: the paper's refusal, and for what is said the number that notes and C functions give. A letter for
-- what a track does.
use Rattle.std.specs.Prelude.{ℕ, Bool, cond, eqb, Result, Ok, Err}
use Prim.Native.Char.{code}
use Rattle.section.specs.declared.Said.{Said}
use Rattle.section.specs.declared.Said.TheVariants.{Nothing, Cvt, Cvtz, Vns, Vnsz}
use Rattle.section.specs.declared.Track.{Track}
use Rattle.section.specs.declared.Walk.{Walk}
use Rattle.section.specs.declared.Walk.TheVariants.{Settled, Turn}
use Rattle.section.specs.Refusal.{Verdict, figure, refusal_by}

-- 0, or the refusal
abbrev pub refusal_of : Verdict → ℕ
refusal_of verdict = refusal_by figure verdict

unfoldable pub said_by : {R : Type 0} → Result Said R → Said
said_by (Ok w) = w
said_by (Err refusal) = Nothing

-- 0 nothing, 1 CVT, 2 CVTz, 3 VNS, 4 VNSz
unfoldable pub said_number : Said → ℕ
said_number Nothing = 0
said_number Cvt = 1
said_number Cvtz = 2
said_number Vns = 3
said_number Vnsz = 4

-- what a number stands for
unfoldable pub said_numbered : ℕ → Said
said_numbered number =
    cond (eqb number 1) Cvt
    (cond (eqb number 2) Cvtz
    (cond (eqb number 3) Vns
    (cond (eqb number 4) Vnsz
    Nothing)))

-- "V or C settled; c or v, reversing to CVT or VNS"
unfoldable pub letter : Walk → Bool → ℕ
letter Settled cvt = cond cvt (code "C") (code "V")
letter (Turn p act) cvt = cond cvt (code "v") (code "c")

unfoldable pub track_letter : Track → ℕ
track_letter t = letter t.walk t.cvt
