-- Lent bytes that are settings are as many as settings have, at least.
use mathlib.Core.Bool.{true}
use mathlib.Core.List.{List}
use mathlib.Core.Path.{◌≡◌}
use Prim.Native.Nat.{ℕ, ◌≤◌}
use lib.ListN.{length}
use Rattle.layout.specs.Layout.{settings_length}
use Rattle.file_tests.proofs.Laws.{settings_enough}
use Rattle.packed.specs.Settings.{lent_settings_well_formed}

pub settings_lent : (bytes : List ℕ) → lent_settings_well_formed bytes ≡ true → settings_length ≤ length bytes
settings_lent = settings_enough
