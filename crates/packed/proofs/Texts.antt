-- The length of a text copied over and 1 fit 64 bits, since no slice is as long as 2^63 bytes.
use Prim.Native.Nat.{ℕ, ◌<◌, ◌≤◌, ◌*◌, ◌^◌}
use mathlib.Core.Path.{◌≡◌, refl}
use mathlib.Core.List.{List}
use native.Mathlib.Omega.{arith}
use lib.ListN.{length}
use Rattle.std.specs.Prelude.{Ok, Err}
use Rattle.section.specs.Refusal.{Outcome}
use Rattle.section.specs.Outcome.{told_by, if_done}
use Rattle.text.specs.Copied.{copied}
use Rattle.text.proofs.CopiedOut.{bytes_counted}
use Rattle.packed.specs.Packed.{packed_copied}

pub copied_fits : (text buffer : List ℕ) (r : Outcome) → r ≡ copied text buffer → length buffer * 1 < 2 ^ 63 → packed_copied r ≤ 2 ^ 63
unfolding packed_copied told_by if_done
copied_fits text buffer (Ok n) e h = omega (arith, (bytes_counted text buffer (Ok n) e buffer n refl refl).0)
copied_fits text buffer (Err refusal) e h = omega arith
