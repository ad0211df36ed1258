-- The settings and the trailer by their bytes.
use mathlib.Core.Path.{◌≡◌, refl, sym}
use mathlib.Core.Bool.{Bool, true, false, cond}
use mathlib.Core.List.{List}
use Prim.Native.Nat.{ℕ, ◌+◌, ◌-◌, ◌%◌, ◌≤◌}
use native.Mathlib.Omega.{arith}
use lib.ListN.{length, length-append, length-drop}
use lib.Dec.{eqb}
use lib.Seq.{length-take-le}
use Rattle.std.proofs.lemmas.List.{get_or_default}
use Rattle.section.specs.declared.Settings.{Settings}
use Rattle.section.specs.Numbers.{step_length, most_crossings, unused}
use Rattle.section.specs.Crossings.{has_crossings}
use Rattle.layout.specs.Layout.{settings_length, tail_length, trailer_length, longest_settings, shortest_file, settings_distance, bsr1, bsr2}
use Rattle.layout.specs.Layout.{mark_of, le16_bytes, le32_bytes, crossing_bytes, settings_bytes, tail_of, settings_part, trailer, from_end, trailer_in}
use Rattle.layout.specs.Layout.{has_mark, tail_in, steps_in, crossings_of}
use Rattle.layout.proofs.Numbers.{bytes_from, listed}

-- ## The tail

-- it is none or all eight crossings, so that a file stays a multiple of eight bytes
pub record Tail (tail : ℕ) : Type 0 where
  pub most : tail ≤ most_crossings
  pub whole : tail % step_length ≡ 0

a_tail : (crossings : Bool) → Tail (tail_length crossings)
a_tail true = record { most = omega arith; whole = refl }
a_tail false = record { most = omega arith; whole = refl }

pub tail_of_lem : (c : Settings) → Tail (tail_of c)
unfolding tail_of
tail_of_lem c = a_tail (has_crossings c.crossings)

pub tail_in_lem : (file : List ℕ) → Tail (tail_in file)
unfolding tail_in
tail_in_lem file = a_tail (has_mark bsr2 (trailer_in file))

-- ## Lengths

pub settings_long : (c : Settings) → length (settings_bytes c) ≡ longest_settings
unfolding settings_bytes le16_bytes
settings_long c = refl

pub part_long : (c : Settings) → length (settings_part c) ≡ settings_length + tail_of c
unfolding settings_part
part_long c = length-take-le (settings_length + tail_of c) (settings_bytes c) (omega (arith, settings_long c, (tail_of_lem c).most))

pub mark_long : (tail : ℕ) → length (mark_of tail) ≡ 4
unfolding mark_of
mark_long tail = go (eqb tail 0)
  where
    go : (b : Bool) → length (cond b bsr1 bsr2) ≡ 4
    go true = refl
    go false = refl

pub trailer_long : (tail count : ℕ) → length (trailer tail count) ≡ trailer_length
unfolding trailer le32_bytes
trailer_long tail count = rw (length-append, mark_long)

pub trailer_length_lem : (file : List ℕ) → shortest_file ≤ length file → length (trailer_in file) ≡ trailer_length
unfolding trailer_in from_end
trailer_length_lem file h = simp length-drop (omega arith)

pub steps_length : (file : List ℕ) → length (steps_in file) ≡ length file - settings_distance (tail_in file)
unfolding steps_in
steps_length file = length-take-le (length file - settings_distance (tail_in file)) file (omega arith)

-- ## The bytes, one by one

-- of sixteen bytes the last eight are the crossings
pub crossings_there : (s : List ℕ) → length s ≡ longest_settings → crossings_of s ≡ bytes_from settings_length most_crossings s
crossings_there s l =
    rw (
      get_or_default s 8 unused 0 (omega arith),
      get_or_default s 9 unused 0 (omega arith),
      get_or_default s 10 unused 0 (omega arith),
      get_or_default s 11 unused 0 (omega arith),
      get_or_default s 12 unused 0 (omega arith),
      get_or_default s 13 unused 0 (omega arith),
      get_or_default s 14 unused 0 (omega arith),
      get_or_default s 15 unused 0 (omega arith),
    )

-- eight crossings are their bytes
pub crossings_are : (l : List ℕ) → length l ≡ most_crossings → crossing_bytes l ≡ l
crossings_are l e = sym (listed most_crossings 0 l e)

-- the mark is its four bytes
pub mark_listed : (tail : ℕ) → mark_of tail ≡ bytes_from 0 4 (mark_of tail)
mark_listed tail = listed 4 0 (mark_of tail) (mark_long tail)
