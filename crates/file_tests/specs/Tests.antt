-- The tests of a day file (document 01, "Refusals from the input"; document 02, request 1).
use Rattle.std.specs.Prelude.{ℕ, zero, suc, ◌+◌, ◌%◌, Bool, not, cond, ◌&&◌, ◌||◌, List, length, eqb, ltb, leb}
use Rattle.section.specs.Bytes.{byte, le16}
use Rattle.section.specs.Numbers.{step_length}
use Rattle.section.specs.Settings.{settings_in_range}
use Rattle.section.specs.Step.{well_formed}
use Rattle.layout.specs.Layout.{most_steps, settings_length, shortest_file, settings_distance, steps_distance, longest_file, mark_of, has_mark, le32_at}
use Rattle.layout.specs.Layout.{tail_of, step_count, trailer_in, tail_in, steps_in, settings_of, step_at}

-- "length below 24, above 32,792 or not a multiple of 8"; "Refusal 1 now stands above 32,800 for either mark"
unfoldable pub length_wrong : ℕ → Bool
length_wrong size = ltb size shortest_file || (ltb longest_file size || not (eqb (size % step_length) 0))

-- "a length that doesn't suit its mark is 2": from that of a file without steps to that of one with 4,096
unfoldable pub length_suits : ℕ → ℕ → Bool
length_suits tail size = leb (settings_distance tail) size && leb size (steps_distance tail most_steps)

-- the mark, both distances and the count are those of a file with such a tail and so many steps
unfoldable pub trailer_well_formed : ℕ → ℕ → List ℕ → Bool
trailer_well_formed tail count t =
    has_mark (mark_of tail) t
    && (eqb (le32_at t 4) (settings_distance tail) && (eqb (le32_at t 8) (steps_distance tail count) && eqb (le32_at t 12) count))

-- "mark, distances or count not what the length demands" are refused
unfoldable pub trailer_fits : List ℕ → Bool
trailer_fits file =
    length_suits (tail_in file) (length file) && trailer_well_formed (tail_in file) (step_count (steps_in file)) (trailer_in file)

-- "bytes 6–7 zero"
unfoldable pub zeros_well_formed : List ℕ → Bool
zeros_well_formed s = eqb (le16 (byte s 6) (byte s 7)) 0

-- "settings outside the above" are refused; so is a tail in which no crossing is used ("At least one is used, else 3"). Other lengths, which
-- no file has for them, are no settings.
unfoldable pub settings_well_formed : List ℕ → Bool
settings_well_formed s =
    settings_in_range (settings_of s) && (zeros_well_formed s && eqb (length s) (settings_length + tail_of (settings_of s)))

unfoldable pub well_at : ℕ → List ℕ → ℕ → Bool
well_at n steps i = well_formed n (step_at steps i)

-- how many of the first m numbers, from 0 on, pass the test before one that does not
unfoldable pub leading : (ℕ → Bool) → ℕ → ℕ
leading test zero = 0
leading test (suc m) = cond (test 0) (suc (leading (λ (k : ℕ). test (suc k)) m)) 0

-- "the index of the first malformed step"; the number of steps where none is
unfoldable pub first_malformed : ℕ → List ℕ → ℕ
first_malformed n steps = leading (well_at n steps) (step_count steps)

unfoldable pub some_malformed : ℕ → List ℕ → Bool
some_malformed n steps = ltb (first_malformed n steps) (step_count steps)
