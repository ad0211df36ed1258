-- What the reader and the writer promise together, over both marks. The proofs are in proofs/RoundTrip.antt.
use Rattle.std.specs.Prelude.{◌≡◌, List, ◌++◌, ℕ, ◌≤◌, length, take, drop}
use Rattle.std.specs.Prelude.{Ok}
use Rattle.section.specs.declared.Settings.{Settings}
use Rattle.section.specs.Bytes.{AllBytes}
use Rattle.section.specs.Numbers.{most_crossings}
use Rattle.section.specs.Outcome.{refusal_number, refusal_index}
use Rattle.layout.specs.Layout.{step_count, file_of, settings_in, steps_in, steps_part, settings_of}
use Rattle.file_tests.specs.Tests.{first_malformed}
use Rattle.dayfile.specs.declared.ReadDay.{ReadDay}
use Rattle.dayfile.specs.Answers.{read_of, write_verdict, written_into}

-- What the writer writes, the reader reads back: what it says it has written is the file, which is read to the same settings, as many
-- steps, and the same steps. Settings have eight bytes of crossings: every value of the code has, and a list alone does not say so.
abbrev pub ReadsWhatIsWritten : Type 0
ReadsWhatIsWritten =
    (c : Settings) (steps buffer : List ℕ) (written : ℕ) → length c.crossings ≡ most_crossings →
    write_verdict c steps (length buffer) ≡ Ok written →
    (take written (written_into c steps buffer) ≡ file_of c steps)
    × ((read_of (file_of c steps) ≡ Ok (record { settings = c; count = step_count steps }))
    × (steps_in (file_of c steps) ≡ steps))

-- What the reader reads, the writer writes back exactly: the file is the one of its settings and its steps, and any buffer as long as it
-- holds it afterwards, with the rest untouched.
abbrev pub WritesWhatIsRead : Type 0
WritesWhatIsRead =
    (file : List ℕ) (day : ReadDay) → AllBytes file → read_of file ≡ Ok day →
    (file_of day.settings (steps_in file) ≡ file)
    × ((buffer : List ℕ) → length file ≤ length buffer →
    (write_verdict day.settings (steps_in file) (length buffer) ≡ Ok (length file))
    × (written_into day.settings (steps_in file) buffer ≡ file ++ drop (length file) buffer))

-- A file means one thing: files that are read to the same settings and the same steps are the same, so that they have one mark too.
abbrev pub MeansOneThing : Type 0
MeansOneThing =
    (one other : List ℕ) (day same : ReadDay) → AllBytes one → AllBytes other →
    read_of one ≡ Ok day → read_of other ≡ Ok same →
    day.settings ≡ same.settings → steps_in one ≡ steps_in other → one ≡ other

-- The part that the reader's count gives is the file's steps.
abbrev pub GivesItsSteps : Type 0
GivesItsSteps = (file : List ℕ) (day : ReadDay) → read_of file ≡ Ok day → steps_part file day.count ≡ steps_in file

-- "with the index of the first malformed step for 4": neither gives 4 without it. ("and zero otherwise" holds of both, as of every call: IndexOnlyForFour.)
abbrev pub IndexOfTheFirst : Type 0
IndexOfTheFirst =
    ((file : List ℕ) → refusal_number (read_of file) ≡ 4 →
    refusal_index (read_of file) ≡ first_malformed (settings_of (settings_in file)).posts (steps_in file))
    × ((c : Settings) (steps : List ℕ) (room : ℕ) → refusal_number (write_verdict c steps room) ≡ 4 →
    refusal_index (write_verdict c steps room) ≡ first_malformed c.posts steps)
