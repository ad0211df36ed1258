-- The parts of a file, both ways: settings and their bytes, the trailer and its numbers, and a file put together of its parts.
use mathlib.Core.Path.{◌≡◌, refl, sym, ◌∙◌, ap}
use mathlib.Core.Bool.{Bool, true, false, ◌&&◌}
use mathlib.Core.List.{List, [], ◌∷◌, ◌++◌, append_assoc}
use Prim.Native.Nat.{ℕ, zero, suc, ◌+◌, ◌-◌, ◌*◌, ◌/◌, ◌^◌, ◌<◌, ◌≤◌}
use native.Mathlib.Nat.{div-lt_iff_lt-mul, pow-le-pow_right}
use native.Mathlib.Omega.{arith}
use lib.Pow.{pow_pos}
use lib.Dec.{eqb, leb}
use lib.ListN.{length, take, drop, length-append, take-append-drop}
use lib.Seq.{drop-drop, get_or-drop, take_at, drop_at}
use borrow.Author.Tests.{eqb-true, eq-eqb, leb-true}
use Rattle.section.specs.declared.Settings.{Settings}
use Rattle.section.specs.Bytes.{byte, le16, within, AllBytes}
use Rattle.section.specs.Numbers.{least_posts, most_posts, largest_line, most_crossings}
use Rattle.section.specs.Crossings.{has_crossings, crossings_in_range}
use Rattle.section.specs.Settings.{is_signalled, none_from, settings_in_range}
use Rattle.layout.specs.Layout.{most_steps, settings_length, tail_length, trailer_length, settings_distance, steps_distance, bsr2, mark_of, has_mark}
use Rattle.layout.specs.Layout.{le16_bytes, le32_bytes, le32_at, settings_bytes, tail_of, settings_part, trailer}
use Rattle.layout.specs.Layout.{from_end, trailer_in, tail_in, settings_in, steps_in, settings_of}
use Rattle.file_tests.specs.Tests.{trailer_well_formed, zeros_well_formed, settings_well_formed}
use Rattle.section.proofs.Laws.{and_left, and_right, and_parts}
use Rattle.layout.proofs.Numbers.{le16_number, le32_number, le16_bytes_lem, le32_bytes_lem, listed}
use Rattle.layout.proofs.Parts.{part_long, mark_long, crossings_there, crossings_are}
use Rattle.file_tests.proofs.Laws.{settings_length_lem}
use Rattle.dayfile.proofs.Crossings.{none_listed}

-- ## Settings

-- a file has the first eight bytes of settings, or all sixteen
in_part : (tailed : Bool) (c : Settings) → zeros_well_formed (take (settings_length + tail_length tailed) (settings_bytes c)) ≡ true
unfolding zeros_well_formed settings_bytes le16_bytes le16
in_part true c = refl
in_part false c = refl

zeros_written : (c : Settings) → zeros_well_formed (settings_part c) ≡ true
unfolding settings_part tail_of
zeros_written c = in_part (has_crossings c.crossings) c

module _ (c : Settings) (e : settings_in_range c ≡ true) where
  -- what the test says of the fields
  record Fields : Type 0 where
    posts_few : c.posts ≤ most_posts
    mask_fits : c.mask < 65536
    line_fits : c.line < 65536
    crossings_well : crossings_in_range c.posts most_crossings c.crossings ≡ true

  -- the mask and the line number are 16-bit numbers
  fields_fit : Fields
  unfolding settings_in_range within none_from
  fields_fit =
      let a = and_parts (leb least_posts c.posts && leb c.posts most_posts) _ e in
      let f = and_parts (leb c.form 1) _ a.1 in
      let g = and_parts (is_signalled c.mask 0) _ f.1 in
      let h = and_parts (is_signalled c.mask (c.posts - 1)) _ g.1 in
      let k = and_parts (eqb (c.mask / 2 ^ c.posts) 0) _ h.1 in
      let r = and_parts (leb 1 c.line && leb c.line largest_line) (crossings_in_range c.posts most_crossings c.crossings) k.1 in
      let p : c.posts ≤ most_posts = leb-true _ _ (and_parts (leb least_posts c.posts) (leb c.posts most_posts) a.0).1 in
      let l : c.line ≤ largest_line = leb-true _ _ (and_parts (leb 1 c.line) (leb c.line largest_line) r.0).1 in
      let z : c.mask / 2 ^ c.posts ≡ 0 = eqb-true _ _ k.0 in
      let m : c.mask < 1 * 2 ^ c.posts = (div-lt_iff_lt-mul (pow_pos c.posts)).0 (omega arith) in
      let t : 2 ^ c.posts ≤ 2 ^ most_posts = pow-le-pow_right {n = 2} (omega arith) p in
      record { posts_few = p; mask_fits = omega arith; line_fits = omega arith; crossings_well = r.1 }

  module _ (eight : length c.crossings ≡ most_crossings) where
    said : (tailed : Bool) → has_crossings c.crossings ≡ tailed → settings_of (take (settings_length + tail_length tailed) (settings_bytes c)) ≡ c
    unfolding settings_of settings_bytes le16_bytes
    said true q =
        rw (le16_number c.mask fields_fit.mask_fits, le16_number c.line fields_fit.line_fits, crossings_are c.crossings eight)
    said false q =
        rw (
          le16_number c.mask fields_fit.mask_fits,
          le16_number c.line fields_fit.line_fits,
          none_listed c.posts fields_fit.posts_few c.crossings q eight fields_fit.crossings_well,
        )

    pub settings_said : settings_of (settings_part c) ≡ c
    unfolding settings_part tail_of
    settings_said = said (has_crossings c.crossings) refl

    pub settings_well_formed_lem : settings_well_formed (settings_part c) ≡ true
    unfolding settings_well_formed
    settings_well_formed_lem = rw (settings_said, e, zeros_written c, part_long c, eq-eqb (settings_length + tail_of c) (settings_length + tail_of c) refl)

module _ (s : List ℕ) (bytes : AllBytes s) (e : settings_well_formed s ≡ true) where
  pub settings_in_range_lem : settings_in_range (settings_of s) ≡ true
  unfolding settings_well_formed
  settings_in_range_lem = (and_parts (settings_in_range (settings_of s)) _ e).0

  zeros_are : (byte s 6 ≡ 0) × (byte s 7 ≡ 0)
  unfolding settings_well_formed zeros_well_formed le16
  zeros_are = let z = and_left (zeros_well_formed s) _ (and_right (settings_in_range (settings_of s)) _ e) in (omega (arith, eqb-true), omega (arith, eqb-true))

  written : (tailed : Bool) → length s ≡ settings_length + tail_length tailed → take (settings_length + tail_length tailed) (settings_bytes (settings_of s)) ≡ s
  unfolding settings_bytes settings_of
  written true l =
      rw (le16_bytes_lem (byte s 2) (byte s 3) (bytes 2) (bytes 3), le16_bytes_lem (byte s 4) (byte s 5) (bytes 4) (bytes 5), crossings_there s l)
      (sym (listed 16 0 s l ∙ rw (zeros_are.0, zeros_are.1)))
  written false l =
      rw (le16_bytes_lem (byte s 2) (byte s 3) (bytes 2) (bytes 3), le16_bytes_lem (byte s 4) (byte s 5) (bytes 4) (bytes 5))
      (sym (listed 8 0 s l ∙ rw (zeros_are.0, zeros_are.1)))

  pub settings_bytes_lem : settings_part (settings_of s) ≡ s
  unfolding settings_part tail_of
  settings_bytes_lem = written (has_crossings (settings_of s).crossings) (settings_length_lem s e)

-- ## The trailer

module _ (tail count : ℕ) (few : tail ≤ most_crossings) (h : count ≤ most_steps) where
  marked : (a b c d : ℕ) → mark_of tail ≡ a ∷ b ∷ c ∷ d ∷ [] → trailer_well_formed tail count (trailer tail count) ≡ true
  unfolding trailer_well_formed has_mark trailer le32_bytes le32_at
  marked a b c d m =
      rw (
        m,
        le32_number (24 + tail) (omega arith),
        le32_number (24 + tail + 8 * count) (omega arith),
        le32_number count (omega arith),
        eq-eqb a a refl,
        eq-eqb b b refl,
        eq-eqb c c refl,
        eq-eqb d d refl,
        eq-eqb (24 + tail) (24 + tail) refl,
        eq-eqb (24 + tail + 8 * count) (24 + tail + 8 * count) refl,
        eq-eqb count count refl,
      )

  pub trailer_well_formed_lem : trailer_well_formed tail count (trailer tail count) ≡ true
  trailer_well_formed_lem = marked _ _ _ _ (listed 4 0 (mark_of tail) (mark_long tail))

-- the trailer that is written says its tail
said_tail : (tailed : Bool) (count : ℕ) → tail_length (has_mark bsr2 (trailer (tail_length tailed) count)) ≡ tail_length tailed
unfolding has_mark trailer mark_of le32_bytes
said_tail true count = refl
said_tail false count = refl

pub tail_said : (c : Settings) (count : ℕ) → tail_length (has_mark bsr2 (trailer (tail_of c) count)) ≡ tail_of c
unfolding tail_of
tail_said c count = said_tail (has_crossings c.crossings) count

module _ (tail count : ℕ) (t : List ℕ) (l : length t ≡ trailer_length) (bytes : AllBytes t) (e : trailer_well_formed tail count t ≡ true) where
  -- four bytes of the trailer that say a number are its bytes
  number_bytes : (i x : ℕ) → le32_at t i ≡ x → le32_bytes x ≡ byte t i ∷ byte t (i + 1) ∷ byte t (i + 2) ∷ byte t (i + 3) ∷ []
  unfolding le32_at
  number_bytes i x q =
      ap le32_bytes (sym q)
      ∙ le32_bytes_lem (byte t i) (byte t (i + 1)) (bytes i) (bytes (i + 1)) (byte t (i + 2)) (byte t (i + 3)) (bytes (i + 2)) (bytes (i + 3))

  mark_bytes : (mark : List ℕ) → length mark ≡ 4 → has_mark mark t ≡ true → mark ≡ byte t 0 ∷ byte t 1 ∷ byte t 2 ∷ byte t 3 ∷ []
  unfolding has_mark
  mark_bytes mark four m =
      let a = and_parts (eqb (byte t 0) (byte mark 0)) _ m in
      let b = and_parts (eqb (byte t 1) (byte mark 1)) _ a.1 in
      let c = and_parts (eqb (byte t 2) (byte mark 2)) (eqb (byte t 3) (byte mark 3)) b.1 in
      listed 4 0 mark four ∙ rw (
        eqb-true (byte t 0) (byte mark 0) a.0,
        eqb-true (byte t 1) (byte mark 1) b.0,
        eqb-true (byte t 2) (byte mark 2) c.0,
        eqb-true (byte t 3) (byte mark 3) c.1,
      )

  pub trailer_bytes : trailer tail count ≡ t
  unfolding trailer_well_formed trailer
  trailer_bytes =
      let a = and_parts (has_mark (mark_of tail) t) _ e in
      let b = and_parts (eqb (le32_at t 4) (settings_distance tail)) _ a.1 in
      let c = and_parts (eqb (le32_at t 8) (steps_distance tail count)) (eqb (le32_at t 12) count) b.1 in
      rw (
        mark_bytes (mark_of tail) (mark_long tail) a.0,
        number_bytes 4 (settings_distance tail) (eqb-true _ _ b.0),
        number_bytes 8 (steps_distance tail count) (eqb-true _ _ c.0),
        number_bytes 12 count (eqb-true _ _ c.1),
      )
      (sym (listed 16 0 t l))

-- ## A file and its parts

module _
    (steps settings t : List ℕ) (tail : ℕ) (ls : length settings ≡ settings_length + tail) (lt : length t ≡ trailer_length)
    (said : tail_length (has_mark bsr2 t) ≡ tail) where
  -- the length of a file, less a distance from its end
  place : (d : ℕ) → d ≤ settings_distance tail → length (steps ++ (settings ++ t)) - d ≡ length steps + (settings_distance tail - d)
  place d h = rw (length-append, length-append) (omega arith)

  pub trailer_of : trailer_in (steps ++ (settings ++ t)) ≡ t
  unfolding trailer_in from_end
  trailer_of =
      rw (place 16 (omega arith), ← append_assoc)
      (drop_at (steps ++ settings) t (length steps + (settings_distance tail - 16)) (rw length-append (omega arith)))

  pub tail_is : tail_in (steps ++ (settings ++ t)) ≡ tail
  unfolding tail_in
  tail_is = rw trailer_of said

  pub steps_of : steps_in (steps ++ (settings ++ t)) ≡ steps
  unfolding steps_in
  steps_of =
      let d = settings_distance tail in
      rw (tail_is, place d (omega arith)) (take_at steps (settings ++ t) (length steps + (d - d)) (omega arith))

  pub settings_of_lem : settings_in (steps ++ (settings ++ t)) ≡ settings
  unfolding settings_in from_end
  settings_of_lem =
      let d = settings_distance tail in
      rw (tail_is, place d (omega arith), drop_at steps (settings ++ t) (length steps + (d - d)) (omega arith))
      (take_at settings t (settings_length + tail) ls)

bytes_taken : (n : ℕ) (s : List ℕ) → AllBytes s → AllBytes (take n s)
bytes_taken zero s bytes i = omega arith
bytes_taken (suc n) [] bytes i = bytes i
bytes_taken (suc n) (x ∷ s) bytes zero = bytes 0
bytes_taken (suc n) (x ∷ s) bytes (suc i) = bytes_taken n s (λ k. bytes (suc k)) i

module _ (file : List ℕ) where
  pub of_its_parts : settings_distance (tail_in file) ≤ length file → steps_in file ++ (settings_in file ++ trailer_in file) ≡ file
  unfolding steps_in settings_in trailer_in from_end
  of_its_parts h =
      let tail = tail_in file in
      let e : length file - 16 ≡ length file - settings_distance tail + (settings_length + tail) = omega arith in
      rw (e, ← drop-drop (settings_length + tail) (length file - settings_distance tail) file, take-append-drop, take-append-drop)

  module _ (bytes : AllBytes file) where
    pub trailer_all_bytes : AllBytes (trailer_in file)
    unfolding trailer_in from_end
    trailer_all_bytes i = rw get_or-drop (bytes _)

    pub settings_all_bytes : AllBytes (settings_in file)
    unfolding settings_in from_end
    settings_all_bytes =
        bytes_taken (settings_length + tail_in file) (drop (length file - settings_distance (tail_in file)) file) (λ i. rw get_or-drop (bytes _))
