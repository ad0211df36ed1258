-- The layout of a day file (document 01, "The day file"; document 02, request 1).
-- "First the steps, 8 bytes each, at most 4,096; then 8 bytes of settings; then a 16-byte trailer that points back"
-- "Files marked "BSR2" have 8 more bytes between settings and trailer": the tail, one crossing each. It is 0 bytes long under "BSR1".
use Rattle.std.specs.Prelude.{ℕ, ◌+◌, ◌-◌, ◌*◌, ◌/◌, ◌%◌, Bool, ◌&&◌, cond, List, [], ◌∷◌, ◌++◌, length, take, drop, get_or, eqb, ltb}
use Rattle.section.specs.declared.Settings.{Settings}
use Rattle.section.specs.Bytes.{byte, le16}
use Rattle.section.specs.Numbers.{step_length, most_crossings, unused}
use Rattle.section.specs.Crossings.{has_crossings}

-- ## Lengths and distances, and the marks

abbrev pub most_steps : ℕ
most_steps = 4096

abbrev pub settings_length : ℕ
settings_length = 8

abbrev pub tail_length : Bool → ℕ
tail_length crossings = cond crossings most_crossings 0

abbrev pub trailer_length : ℕ
trailer_length = 16

-- settings with their tail: 16
abbrev pub longest_settings : ℕ
longest_settings = settings_length + most_crossings

-- 24
abbrev pub shortest_file : ℕ
shortest_file = settings_length + trailer_length

-- "the distance from the file's end to the settings (24)"; "distances grow by 8"
abbrev pub settings_distance : ℕ → ℕ
settings_distance tail = shortest_file + tail

-- "that to the first step (24 + 8 × count)"; it is the file's length
abbrev pub steps_distance : ℕ → ℕ → ℕ
steps_distance tail count = settings_distance tail + step_length * count

-- 32,800
abbrev pub longest_file : ℕ
longest_file = steps_distance most_crossings most_steps

-- the bytes "BSR1"
abbrev pub bsr1 : List ℕ
bsr1 = 66 ∷ 83 ∷ 82 ∷ 49 ∷ []

-- the bytes "BSR2"
abbrev pub bsr2 : List ℕ
bsr2 = 66 ∷ 83 ∷ 82 ∷ 50 ∷ []

-- "a section without crossings stays BSR1"
unfoldable pub mark_of : ℕ → List ℕ
mark_of tail = cond (eqb tail 0) bsr1 bsr2

-- ## Numbers in bytes ("Little-endian")

-- the two bytes of a 16-bit number
unfoldable pub le16_bytes : ℕ → List ℕ
le16_bytes x = x % 256 ∷ x / 256 % 256 ∷ []

-- the 32-bit number of four bytes
unfoldable pub le32 : ℕ → ℕ → ℕ → ℕ → ℕ
le32 a b c d = a + b * 256 + c * 65536 + d * 16777216

-- the four bytes of a 32-bit number
unfoldable pub le32_bytes : ℕ → List ℕ
le32_bytes x = x % 256 ∷ x / 256 % 256 ∷ x / 65536 % 256 ∷ x / 16777216 % 256 ∷ []

-- the 32-bit number from byte i on
unfoldable pub le32_at : List ℕ → ℕ → ℕ
le32_at s i = le32 (byte s i) (byte s (i + 1)) (byte s (i + 2)) (byte s (i + 3))

-- ## What is written

-- the eight bytes of crossings
abbrev pub crossing_bytes : List ℕ → List ℕ
crossing_bytes l = byte l 0 ∷ byte l 1 ∷ byte l 2 ∷ byte l 3 ∷ byte l 4 ∷ byte l 5 ∷ byte l 6 ∷ byte l 7 ∷ []

-- "byte 0 n; byte 1 form; bytes 2–3 a mask; bytes 4–5 line number; bytes 6–7 zero"; then the tail
unfoldable pub settings_bytes : Settings → List ℕ
settings_bytes c =
    c.posts ∷ c.form ∷ (le16_bytes c.mask ++ (le16_bytes c.line ++ (0 ∷ 0 ∷ crossing_bytes c.crossings)))

-- the length of the tail that settings need
unfoldable pub tail_of : Settings → ℕ
tail_of c = tail_length (has_crossings c.crossings)

-- what a file has of them
unfoldable pub settings_part : Settings → List ℕ
settings_part c = take (settings_length + tail_of c) (settings_bytes c)

-- "the bytes "BSR1", then three 32-bit numbers: the distance to the settings, that to the first step, the count"
unfoldable pub trailer : ℕ → ℕ → List ℕ
trailer tail count = mark_of tail ++ (le32_bytes (settings_distance tail) ++ (le32_bytes (steps_distance tail count) ++ le32_bytes count))

-- how many steps these bytes are; an incomplete one at the end counts
unfoldable pub step_count : List ℕ → ℕ
step_count steps = (length steps + 7) / step_length

-- the day file of settings and steps
unfoldable pub file_of : Settings → List ℕ → List ℕ
file_of c steps = steps ++ (settings_part c ++ trailer (tail_of c) (step_count steps))

-- ## What is read

-- the part that begins at this distance from the file's end
unfoldable pub from_end : ℕ → List ℕ → List ℕ
from_end distance file = drop (length file - distance) file

unfoldable pub trailer_in : List ℕ → List ℕ
trailer_in file = from_end trailer_length file

-- the four bytes of a mark, and a trailer that begins with them
unfoldable pub has_mark : List ℕ → List ℕ → Bool
has_mark mark t =
    eqb (byte t 0) (byte mark 0)
    && (eqb (byte t 1) (byte mark 1) && (eqb (byte t 2) (byte mark 2) && eqb (byte t 3) (byte mark 3)))

-- the length of the tail by the file's own mark
unfoldable pub tail_in : List ℕ → ℕ
tail_in file = tail_length (has_mark bsr2 (trailer_in file))

-- the settings, with the tail
unfoldable pub settings_in : List ℕ → List ℕ
settings_in file = take (settings_length + tail_in file) (from_end (settings_distance (tail_in file)) file)

-- all that stands before the settings
unfoldable pub steps_in : List ℕ → List ℕ
steps_in file = take (length file - settings_distance (tail_in file)) file

-- the crossings that bytes 8 to 15 say: unused where the bytes end before
abbrev pub crossings_of : List ℕ → List ℕ
crossings_of s =
    get_or s 8 unused ∷ get_or s 9 unused ∷ get_or s 10 unused ∷ get_or s 11 unused ∷ get_or s 12 unused ∷ get_or s 13 unused ∷ get_or s 14 unused
    ∷ get_or s 15 unused ∷ []

-- the settings that eight bytes say, or eight with their tail
unfoldable pub settings_of : List ℕ → Settings
settings_of s = record {
  posts = byte s 0;
  form = byte s 1;
  mask = le16 (byte s 2) (byte s 3);
  line = le16 (byte s 4) (byte s 5);
  crossings = crossings_of s;
}

-- the bytes of step i
unfoldable pub step_at : List ℕ → ℕ → List ℕ
step_at steps i = take step_length (drop (i * step_length) steps)

-- the first so many steps, as a part of the file; nothing where the file is shorter
unfoldable pub steps_part : List ℕ → ℕ → List ℕ
steps_part file count = cond (ltb (length file) (step_length * count)) [] (take (step_length * count) file)
