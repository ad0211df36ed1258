-- The number of what is said gives it back, and is at most 4.
use Prim.Native.Nat.{ℕ, ◌≤◌}
use mathlib.Core.Path.{◌≡◌, refl}
use native.Mathlib.Omega.{arith}
use Rattle.section.specs.declared.Said.{Said}
use Rattle.section.specs.declared.Said.TheVariants.{Nothing, Cvt, Cvtz, Vns, Vnsz}
use Rattle.section.specs.Words.{said_number, said_numbered}

pub said_back : (said : Said) → said_numbered (said_number said) ≡ said
unfolding said_numbered said_number
said_back Nothing = refl
said_back Cvt = refl
said_back Cvtz = refl
said_back Vns = refl
said_back Vnsz = refl

pub said_small : {n : ℕ} (said : Said) → n ≡ said_number said → n ≤ 4
unfolding said_number
said_small Nothing e = omega arith
said_small Cvt e = omega arith
said_small Cvtz e = omega arith
said_small Vns e = omega arith
said_small Vnsz e = omega arith
