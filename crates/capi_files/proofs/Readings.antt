-- A reading packs into 32 bits, since its count or index is at most that of the longest day.
use Prim.Native.Nat.{ℕ, ◌<◌, ◌^◌}
use mathlib.Core.Path.{◌≡◌, refl}
use mathlib.Core.Bool.{Bool, true, false, not, cond}
use mathlib.Core.List.{List}
use native.Mathlib.Omega.{arith}
use lib.ListN.{length}
use lib.Dec.{ltb}
use borrow.Author.Tests.{ltb-true}
use Rattle.std.specs.Prelude.{Ok, Err}
use Rattle.section.specs.declared.CallRefusal.TheVariants.{WrongLength, WrongTrailer, WrongSettings, MalformedStep}
use Rattle.section.specs.Refusal.{call_figure, index_of, refusal_by}
use Rattle.section.specs.Outcome.{told_by}
use Rattle.layout.specs.Layout.{step_count, steps_in, settings_in, settings_of}
use Rattle.file_tests.specs.Tests.{length_wrong, trailer_fits, settings_well_formed, first_malformed, some_malformed}
use Rattle.dayfile.specs.declared.ReadDay.{ReadDay}
use Rattle.dayfile.specs.Answers.{read_of, counted}
use Rattle.dayfile.proofs.Reader.{length_right, steps_bounded}
use Rattle.packed.specs.Packed.{packed_reading, packed_reading_by}

pub reading_fits : (file : List ℕ) → packed_reading (counted (read_of file)) < 2 ^ 32
unfolding packed_reading_by refusal_by told_by counted call_figure index_of read_of some_malformed
reading_fits file =
    go (length_wrong (length file)) refl (not (trailer_fits file)) (not (settings_well_formed (settings_in file))) (ltb first count) refl
  where
    count : ℕ
    count = step_count (steps_in file)

    day : ReadDay
    day = record { settings = settings_of (settings_in file); count = count }

    first : ℕ
    first = first_malformed (settings_of (settings_in file)).posts (steps_in file)

    go : (wrong : Bool) → length_wrong (length file) ≡ wrong → (trailer settings malformed : Bool) → ltb first count ≡ malformed →
        packed_reading (counted (cond wrong (Err WrongLength) (cond trailer (Err WrongTrailer) (cond settings (Err WrongSettings)
        (cond malformed (Err (MalformedStep first)) (Ok day)))))) < 2 ^ 32
    go true e t s m h = omega arith
    go false e true s m h = omega arith
    go false e false true m h = omega arith
    go false e false false true h = omega (arith, steps_bounded file (length_right (length file) e), ltb-true first count h)
    go false e false false false h = omega (arith, steps_bounded file (length_right (length file) e))
