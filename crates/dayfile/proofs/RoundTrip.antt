-- The promises of specs/RoundTrip.antt. A file's parts determine it, and the bytes of its numbers determine them.
use mathlib.Core.Bool.{true, not, ◌||◌}
use mathlib.Core.Path.{◌≡◌, refl, sym, ◌∙◌, ap}
use mathlib.Core.List.{List, ◌++◌}
use Prim.Native.Nat.{ℕ, ◌-◌, ◌*◌, ◌≤◌}
use native.Mathlib.Omega.{arith}
use lib.Dec.{ltb}
use lib.ListN.{length, drop, length-append}
use lib.Seq.{take_at}
use borrow.Author.Tests.{ltb-false, le-ltb, le-leb}
use Rattle.std.specs.Prelude.{Ok}
use Rattle.section.specs.declared.CallRefusal.TheVariants.{WrongLength, WrongTrailer, WrongSettings, NoRoom}
use Rattle.section.specs.declared.Settings.{Settings}
use Rattle.section.specs.Bytes.{AllBytes}
use Rattle.section.specs.Numbers.{step_length, most_crossings}
use Rattle.section.specs.Outcome.{if_done}
use Rattle.section.specs.Settings.{settings_in_range}
use Rattle.section.proofs.Outcomes.{other_refusal, step_refusal, no_refusal}
use Rattle.layout.specs.Layout.{most_steps, settings_distance, steps_distance, tail_of, settings_part, trailer, step_count, file_of, trailer_in, tail_in}
use Rattle.layout.specs.Layout.{settings_in, steps_in, settings_of, steps_part}
use Rattle.layout.proofs.Parts.{tail_of_lem, tail_in_lem, part_long, trailer_long, trailer_length_lem, steps_length}
use Rattle.file_tests.specs.Tests.{length_wrong, length_suits, trailer_fits, settings_well_formed, some_malformed, first_malformed}
use Rattle.file_tests.proofs.Laws.{few_steps, all_whole, settings_length_lem as settings-suit}
use Rattle.section.specs.Refusal.{call_figure}
use Rattle.dayfile.specs.declared.ReadDay.{ReadDay}
use Rattle.dayfile.specs.Answers.{read_of, write_verdict, written_into}
use Rattle.dayfile.specs.RoundTrip.{ReadsWhatIsWritten, WritesWhatIsRead, MeansOneThing, GivesItsSteps, IndexOfTheFirst}
use Rattle.dayfile.proofs.Parts.{settings_said, settings_well_formed_lem, settings_in_range_lem, settings_bytes_lem, trailer_well_formed_lem, trailer_bytes}
use Rattle.dayfile.proofs.Parts.{tail_said, tail_is, steps_of, settings_of_lem, trailer_of, of_its_parts, trailer_all_bytes, settings_all_bytes}
use Rattle.dayfile.proofs.Reader.{LengthRight, not_wrong, settings_length_lem, answer_day}
use Rattle.dayfile.proofs.Reader.{DayRead, day_read}
use Rattle.dayfile.proofs.Writer.{BytesWritten, bytes_written}

-- ## What is written is read back

module _ (c : Settings) (steps : List ℕ) (written : ℕ) (w : BytesWritten c steps written) where
  file_length : length (file_of c steps) ≡ steps_distance (tail_of c) (step_count steps)
  unfolding file_of
  file_length =
      rw (length-append, length-append, part_long, trailer_long) (omega (arith, all_whole c.posts steps w.steps_well))

  file_length_right : LengthRight (length (file_of c steps))
  file_length_right =
      let t = tail_of_lem c in
      rw file_length
      (record { least = omega arith; most = omega (arith, w.few, t.most); whole = omega (arith, t.whole) })

  tail_back : tail_in (file_of c steps) ≡ tail_of c
  unfolding file_of
  tail_back = tail_is steps (settings_part c) (trailer (tail_of c) (step_count steps)) (tail_of c) (part_long c) (trailer_long (tail_of c) (step_count steps))
      (tail_said c (step_count steps))

  steps_back : steps_in (file_of c steps) ≡ steps
  unfolding file_of
  steps_back = steps_of steps (settings_part c) (trailer (tail_of c) (step_count steps)) (tail_of c) (part_long c) (trailer_long (tail_of c) (step_count steps))
      (tail_said c (step_count steps))

  settings_back : settings_in (file_of c steps) ≡ settings_part c
  unfolding file_of
  settings_back = settings_of_lem steps (settings_part c) (trailer (tail_of c) (step_count steps)) (tail_of c) (part_long c)
      (trailer_long (tail_of c) (step_count steps)) (tail_said c (step_count steps))

  trailer_back : trailer_in (file_of c steps) ≡ trailer (tail_of c) (step_count steps)
  unfolding file_of
  trailer_back = trailer_of steps (settings_part c) (trailer (tail_of c) (step_count steps)) (tail_of c) (part_long c)
      (trailer_long (tail_of c) (step_count steps)) (tail_said c (step_count steps))

  trailer_fits_back : trailer_fits (file_of c steps) ≡ true
  unfolding trailer_fits length_suits
  trailer_fits_back =
      let n = step_count steps in
      rw (
        tail_back,
        file_length,
        steps_back,
        trailer_back,
        le-leb (settings_distance (tail_of c)) (steps_distance (tail_of c) n) (omega arith),
        le-leb (steps_distance (tail_of c) n) (steps_distance (tail_of c) most_steps) (omega (arith, w.few)),
      )
      (trailer_well_formed_lem (tail_of c) n (tail_of_lem c).most w.few)

  none_malformed : step_count steps ≤ first_malformed c.posts steps
  unfolding some_malformed
  none_malformed = ltb-false _ _ w.steps_well

  read_back : length c.crossings ≡ most_crossings → read_of (file_of c steps) ≡ Ok (record { settings = c; count = step_count steps })
  read_back eight =
      sym
      (answer_day (file_of c steps) (not_wrong _ file_length_right) trailer_fits_back (settings_part c) (sym settings_back)
      (settings_well_formed_lem c w.settings_well eight) c (sym (settings_said c w.settings_well eight)) steps (step_count steps)
      (first_malformed c.posts steps) (sym steps_back) refl refl none_malformed)

pub reads_what_is_written : ReadsWhatIsWritten
unfolding written_into if_done
reads_what_is_written c steps buffer written eight e =
    let w = bytes_written c steps (length buffer) written e in (
      rw e (take_at (file_of c steps) (drop (length (file_of c steps)) buffer) written (file_length c steps written w ∙ w.counted)),
      (read_back c steps written w eight, steps_back c steps written w),
    )

-- ## What is read is written back

module _ (file : List ℕ) (day : ReadDay) (d : DayRead file day) where
  -- the settings list crossings where the file's mark says so
  same_tail : tail_in file ≡ tail_of (settings_of (settings_in file))
  same_tail = omega (arith, settings_length_lem file d.trailer_well.least, settings-suit (settings_in file) d.settings_well)

  same_length : steps_distance (tail_in file) (step_count (steps_in file)) ≡ length file
  unfolding step_count
  same_length =
      omega (arith, steps_length file, d.trailer_well.least, d.length_well.whole, (tail_in_lem file).whole)

module _ (file : List ℕ) (day : ReadDay) (bytes : AllBytes file) (d : DayRead file day) where
  same_file : file_of (settings_of (settings_in file)) (steps_in file) ≡ file
  unfolding file_of
  same_file =
      let n = step_count (steps_in file) in
      let t = trailer_in file in
      rw (
        settings_bytes_lem (settings_in file) (settings_all_bytes file bytes) d.settings_well,
        ← same_tail file day d,
        trailer_bytes (tail_in file) n t (trailer_length_lem file d.length_well.least) (trailer_all_bytes file bytes) d.trailer_well.trailer_well,
      )
      (of_its_parts file d.trailer_well.least)

  module _ (buffer : List ℕ) (h : length file ≤ length buffer) where
    same_verdict : write_verdict (settings_of (settings_in file)) (steps_in file) (length buffer) ≡ Ok (length file)
    unfolding write_verdict
    same_verdict =
        rw (
          settings_in_range_lem (settings_in file) (settings_all_bytes file bytes) d.settings_well,
          d.steps_well,
          ← same_tail file day d,
          le-ltb most_steps (step_count (steps_in file)) (few_steps file d.trailer_well.most),
          same_length file day d,
          le-ltb (length buffer) (length file) h,
        )

    same_buffer :
        written_into (settings_of (settings_in file)) (steps_in file) buffer ≡ file ++ drop (length file) buffer
    unfolding written_into if_done
    same_buffer = rw (same_verdict, same_file)

pub writes_what_is_read : WritesWhatIsRead
writes_what_is_read file day bytes e =
    let d = day_read file day e in (
      rw d.settings_are (same_file file day bytes d),
      λ buffer h. (
        rw d.settings_are (same_verdict file day bytes d buffer h),
        rw d.settings_are (same_buffer file day bytes d buffer h),
      ),
    )

pub means_one_thing : MeansOneThing
means_one_thing one other day same bytes others e f s t =
    sym (writes_what_is_read one day bytes e).0 ∙ (rw (s, t) (writes_what_is_read other same others f).0)

-- ## The steps as a part of the file

steps_part_lem : (file : List ℕ) (count : ℕ) → steps_distance (tail_in file) count ≡ length file → steps_part file count ≡ steps_in file
unfolding steps_part steps_in
steps_part_lem file count e =
    let f : step_length * count ≡ length file - settings_distance (tail_in file) = omega arith in
    rw (le-ltb (length file) (step_length * count) (omega arith), f)

pub gives_its_steps : GivesItsSteps
gives_its_steps file day e =
    let d = day_read file day e in
    steps_part_lem file day.count (ap (steps_distance (tail_in file)) (sym d.counted) ∙ same_length file day d)

-- ## The index

pub index_of_the_first : IndexOfTheFirst
unfolding read_of write_verdict call_figure
index_of_the_first = (
  λ file.
      let n = (settings_of (settings_in file)).posts in
      let first = first_malformed n (steps_in file) in
      other_refusal first (length_wrong (length file)) WrongLength _ (λ e. omega arith)
      (other_refusal first (not (trailer_fits file)) WrongTrailer _ (λ e. omega arith)
      (other_refusal first (not (settings_well_formed (settings_in file))) WrongSettings _ (λ e. omega arith)
      (step_refusal first (some_malformed n (steps_in file)) _
      (no_refusal first _)))),
  λ c steps room.
      let first = first_malformed c.posts steps in
      let size = steps_distance (tail_of c) (step_count steps) in
      other_refusal first (not (settings_in_range c)) WrongSettings _ (λ e. omega arith)
      (step_refusal first (some_malformed c.posts steps) _
      (other_refusal first (ltb most_steps (step_count steps) || ltb room size) NoRoom _ (λ e. omega arith)
      (no_refusal first size))),
)
