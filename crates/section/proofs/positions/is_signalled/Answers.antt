-- The lowest bit of the shifted mask is the mask's bit.
use mathlib.Core.Path.{ap}
use Prim.Native.Nat.{ℕ, ◌/◌, ◌^◌}
use lib.Bits.{and_mask}
use lib.Dec.{eqb}
use Rattle.section.specs.Settings.{is_signalled}
use Rattle.section.proofs.positions.is_signalled.Goals as goal

pub returns : goal.returns
unfolding is_signalled
returns c = ap (λ (x : ℕ). eqb x 1) (and_mask (c.args.mask / 2 ^ c.args.p) 1)
