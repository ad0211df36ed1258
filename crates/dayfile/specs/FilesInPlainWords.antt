-- Files in plain words: what a railway reads off the statements of RoundTrip.antt, each drawn from them alone (`files_in_plain_words`,
-- proofs/FilesInPlainWords.antt).
use Rattle.std.specs.Prelude.{ℕ, ◌≤◌, List, ◌≡◌, length}
use Rattle.std.specs.Prelude.{Ok}
use Rattle.section.specs.declared.Settings.{Settings}
use Rattle.section.specs.Bytes.{AllBytes}
use Rattle.section.specs.Numbers.{most_crossings}
use Rattle.layout.specs.Layout.{file_of, steps_in, steps_part}
use Rattle.dayfile.specs.declared.ReadDay.{ReadDay}
use Rattle.dayfile.specs.Answers.{read_of, write_verdict}

pub record FilesInPlainWords : Type 0 where
  -- Two days whose files are the same bytes are the same day: no file stands for two.
  pub one_day_a_file :
      (c d : Settings) (steps more buffer other : List ℕ) (size room : ℕ)
      → length c.crossings ≡ most_crossings → length d.crossings ≡ most_crossings
      → write_verdict c steps (length buffer) ≡ Ok size → write_verdict d more (length other) ≡ Ok room
      → file_of c steps ≡ file_of d more → (c ≡ d) × (steps ≡ more)
  -- A file that was read can be written: a buffer of its length is long enough, and it is read again as it was.
  pub read_written_read :
      (file : List ℕ) (day : ReadDay) → AllBytes file → read_of file ≡ Ok day
      → (write_verdict day.settings (steps_in file) (length file) ≡ Ok (length file))
      × (read_of (file_of day.settings (steps_in file)) ≡ read_of file)
  -- One file a day: two files that say the same day have the same bytes, told by the parts that the reader hands out.
  pub one_file_a_day :
      (one other : List ℕ) (day same : ReadDay) → AllBytes one → AllBytes other
      → read_of one ≡ Ok day → read_of other ≡ Ok same
      → day.settings ≡ same.settings → steps_part one day.count ≡ steps_part other same.count → one ≡ other
