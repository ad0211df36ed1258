-- The lines of a day: how long they are, and what the loop over the steps keeps.
use Prim.Native.Nat.{ℕ, ◌*◌, ◌<◌, ◌≤◌}
use mathlib.Core.Bool.{true}
use mathlib.Core.Path.{◌≡◌, refl, sym, ◌∙◌, ap}
use mathlib.Core.List.{List}
use native.Mathlib.Omega.{arith}
use native.Mathlib.Nat.{mul-le-mul_left}
use lib.ListN.{length, take, drop, length-drop, length-append}
use lib.Seq.{length-take-le, take-length}
use Rattle.std.specs.Prelude.{Result, Ok, Err}
use Rattle.section.specs.declared.CallRefusal.{CallRefusal}
use Rattle.section.specs.Refusal.{call_figure, index_of}
use Rattle.section.specs.declared.Section.{Section}
use Rattle.section.specs.declared.Settings.{Settings}
use Rattle.section.specs.Bytes.{byte}
use Rattle.section.specs.Fresh.{fresh_section}
use Rattle.section.specs.Numbers.{most_posts, step_length}
use Rattle.section.specs.Range.{in_range}
use Rattle.section.specs.Settings.{settings_in_range}
use Rattle.section.proofs.Laws.{and_left, fresh_in_range}
use Rattle.rules.specs.Judge.{judge}
use Rattle.rules.proofs.RangeLaw.{ranges_kept}
use Rattle.layout.specs.Layout.{most_steps, settings_of, settings_in, step_at, steps_in, steps_part}
use Rattle.file_tests.specs.Tests.{settings_well_formed}
use Rattle.dayfile.specs.declared.ReadDay.{ReadDay}
use Rattle.dayfile.specs.Answers.{read_of}
use Rattle.file_tests.proofs.Laws.{few_steps, all_whole}
use Rattle.dayfile.proofs.Reader.{DayRead, day_read}
use Rattle.dayfile.proofs.RoundTrip.{gives_its_steps}
use Rattle.text.specs.Text.{written}
use Rattle.lines.specs.Lines.{refused_line, step_line}
use Rattle.text.specs.declared.Text.{Text}
use Rattle.text.specs.Put.{put}
use Rattle.text.proofs.Laws.{first_texts_length, same_texts}
use Rattle.lines.proofs.Puts.{refused_length, header_length, fields_length}
use Rattle.judging_in_place.specs.Offered.{section_before, answer_to}
use Rattle.judging_in_place.specs.Notes.{note_on, notes_of}
use Rattle.judging_in_place.proofs.Laws.{in_range_before}
use Rattle.judging_in_place.proofs.whole_day.Laws.{note_written}
use Rattle.lines.specs.Noted.{noted_line, note_at, noted_lines}
use Rattle.lines.proofs.listing.Laws.{line_noted}
use Rattle.lines.specs.PanelLine.{panel_fields, panel_line, panel_line_room}
use Rattle.lines.proofs.panel.Laws.{panel_line_length, few_posts}
use Rattle.listing.specs.declared.sheets.Sheet.{Sheet}
use Rattle.listing.specs.declared.sheets.Sheet.TheVariants.{Listing, Panel}
use Rattle.listing.specs.Printed.{lines, printed_day, printed_read, printed}
use Rattle.listing.specs.Sheet.{line_on, line_room, room}

-- ## How long a line and a sheet are

-- fewer steps need no more room
pub fewer_fit : (sheet : Sheet) (count : ℕ) → count ≤ most_steps → room sheet count ≤ room sheet most_steps
unfolding room
fewer_fit sheet count h = omega (arith, mul-le-mul_left (line_room sheet) h)

-- the longest panel is longer than the longest listing
pub most_room : (sheet : Sheet) → room sheet most_steps ≤ room Panel most_steps
unfolding room line_room
most_room Listing = omega arith
most_room Panel = omega arith

-- ## The listing's lines

module _ (c : Settings) (steps lent : List ℕ) (count : ℕ) where
  line_noted_at :
      (i : ℕ) → i < count → noted_line i (note_at (written lent 0 (notes_of c steps count)) i) ≡ step_line i (answer_to (fresh_section c) steps i)
  unfolding note_at note_on
  line_noted_at i h = ap (noted_line i) (note_written c steps i count lent h) ∙ line_noted i (answer_to (fresh_section c) steps i)

  pub lines_noted : noted_lines (written lent 0 (notes_of c steps count)) count ≡ lines (line_on Listing) (fresh_section c) steps count
  unfolding noted_lines lines line_on
  lines_noted = same_texts _ _ count line_noted_at

-- ## How long the lines are, and the loop over the panel's

abbrev pub line_at : Section → List ℕ → ℕ → List ℕ
line_at first steps i = panel_line i (step_at steps i) (answer_to first steps i)

module _ (first : Section) (steps : List ℕ) (r : in_range first ≡ true) where
  pub in_range_after : (i : ℕ) → in_range (answer_to first steps i).section ≡ true
  unfolding answer_to
  in_range_after i = ranges_kept (section_before first steps i) (step_at steps i) (in_range_before first steps r i)

  few_posts_after : (i : ℕ) → (answer_to first steps i).section.settings.posts ≤ most_posts
  few_posts_after i = few_posts (answer_to first steps i).section (in_range_after i)

  line_fits : (sheet : Sheet) (i : ℕ) → length (line_on sheet i (step_at steps i) (answer_to first steps i)) ≤ line_room sheet
  unfolding line_on line_room step_line
  line_fits Listing i = fields_length i _ _ _ _
  line_fits Panel i = panel_line_length i (step_at steps i) (answer_to first steps i) (few_posts_after i)

  lines_fit : (sheet : Sheet) (m : ℕ) → length (lines (line_on sheet) first steps m) ≤ line_room sheet * m
  unfolding lines
  lines_fit sheet m = first_texts_length (λ i. line_on sheet i (step_at steps i) (answer_to first steps i)) (line_room sheet) m (line_fits sheet)

  pub line_short : (i : ℕ) → length (line_at first steps i) ≤ panel_line_room
  unfolding line_on line_room
  line_short i = line_fits Panel i

  -- the section after a step
  pub after_step :
      (i : ℕ) {s t : Section} {part : List ℕ} → s ≡ section_before first steps i → part ≡ step_at steps i → t ≡ (judge s part).section
      → t ≡ (answer_to first steps i).section
  unfolding answer_to
  after_step i es ep et = rw (et, es, ep)

  -- the code puts the line of the same section
  pub line_put :
      (i : ℕ) {t : Section} {part : List ℕ} {v : Text} (u : Text) → t ≡ (answer_to first steps i).section → part ≡ step_at steps i
      → v ≡ put u (panel_fields i (byte part 1) t) → v ≡ put u (line_at first steps i)
  unfolding panel_line
  line_put i u et ep put_it = rw (et, ep) at put_it

pub step_length_lem : (steps : List ℕ) (i count : ℕ) → i < count → step_length * count ≤ length steps → length (step_at steps i) ≡ step_length
unfolding step_at
step_length_lem steps i count h l = length-take-le 8 (drop (i * 8) steps) (simp length-drop (omega arith))

-- a walk of one step
pub walk_of_one : (s : Section) (part : List ℕ) → length part ≡ step_length → section_before s part 1 ≡ (judge s part).section
unfolding section_before step_at
walk_of_one s part e = ap (λ (bytes : List ℕ). (judge s bytes).section) (ap (λ (k : ℕ). take k part) (sym e) ∙ take-length part)

-- ## A file that is read

module _ (file : List ℕ) {day : ReadDay} (e : Ok day ≡ read_of file) where
  parts : DayRead file day
  parts = day_read file day (sym e)

  pub few_steps_read : day.count ≤ most_steps
  few_steps_read = omega (arith, few_steps file parts.trailer_well.most, parts.counted)

  pub steps_whole : {steps : List ℕ} → steps ≡ steps_part file day.count → step_length * day.count ≤ length steps
  steps_whole es =
      rw (es, gives_its_steps file day (sym e))
      (omega (arith, all_whole (settings_of (settings_in file)).posts (steps_in file) parts.steps_well, parts.counted))

  pub settings_read_right : settings_in_range day.settings ≡ true
  unfolding settings_well_formed
  settings_read_right = rw parts.settings_are (and_left (settings_in_range (settings_of (settings_in file))) _ parts.settings_well)

-- ## How long what is printed of a file is

read_fits :
    (sheet : Sheet) (file : List ℕ) (reading : Result ReadDay CallRefusal) → read_of file ≡ reading
    → length (printed_read (line_on sheet) reading (steps_in file)) ≤ room sheet most_steps
unfolding printed_read printed_day room
read_fits sheet file (Err refusal) e = omega (arith, refused_length (call_figure refusal) (index_of refusal))
read_fits sheet file (Ok day) e =
    let c = day.settings in
    let range = fresh_in_range c (settings_read_right file (sym e)) in
    let all = lines_fit (fresh_section c) (steps_in file) range sheet day.count in
    simp length-append (omega (arith, all, header_length c.posts day.count, fewer_fit sheet day.count (few_steps_read file (sym e))))

-- every sheet fits its room
pub printed_fits : (sheet : Sheet) (file : List ℕ) → length (printed (line_on sheet) file) ≤ room sheet most_steps
unfolding printed
printed_fits sheet file = read_fits sheet file (read_of file) refl

-- ## What is printed of a file

pub printed_refused :
    (sheet : Sheet) (file : List ℕ) {refusal : CallRefusal} → Err refusal ≡ read_of file
    → refused_line (call_figure refusal) (index_of refusal) ≡ printed (line_on sheet) file
unfolding printed printed_read
printed_refused sheet file e = rw (sym e)

pub printed_of_day :
    (sheet : Sheet) (file : List ℕ) {day : ReadDay} {steps : List ℕ} → Ok day ≡ read_of file → steps ≡ steps_part file day.count
    → printed_day (line_on sheet) day.settings day.count steps ≡ printed (line_on sheet) file
unfolding printed printed_read
printed_of_day sheet file {day} e f = rw (sym e, f, gives_its_steps file day (sym e))
