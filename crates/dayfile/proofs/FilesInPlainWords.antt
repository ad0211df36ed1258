-- The plain words on files, from the statements alone: what is written is read to its settings and steps, so equal files have equal ones; a file
-- that is read is the one of its settings and its steps; and the part that the count gives is the file's steps.
use Prim.Native.Nat.{ℕ, ◌≤◌}
use mathlib.Core.List.{List}
use mathlib.Core.Path.{◌≡◌, sym, ◌∙◌, ap}
use native.Mathlib.Omega.{arith}
use lib.ListN.{length}
use Rattle.section.specs.declared.Settings.{Settings}
use Rattle.section.proofs.Outcomes.{same_done}
use Rattle.layout.specs.Layout.{file_of, steps_in}
use Rattle.dayfile.specs.declared.ReadDay.{ReadDay}
use Rattle.dayfile.specs.Answers.{read_of}
use Rattle.dayfile.specs.RoundTrip.{ReadsWhatIsWritten, WritesWhatIsRead, MeansOneThing, GivesItsSteps}
use Rattle.dayfile.specs.FilesInPlainWords.{FilesInPlainWords}
use Rattle.dayfile.proofs.RoundTrip.{reads_what_is_written, writes_what_is_read, means_one_thing, gives_its_steps}

module _ (reads : ReadsWhatIsWritten) (writes : WritesWhatIsRead) (means : MeansOneThing) (gives : GivesItsSteps) where
  from_the_statements : FilesInPlainWords
  from_the_statements = record {
    one_day_a_file = λ c d steps more buffer other size room cs ds wc wd same.
        let one = (reads c steps buffer size cs wc).1 in
        let two = (reads d more other room ds wd).1 in (
          ap (λ (day : ReadDay). day.settings) (same_done _ _ (sym one.0 ∙ ap read_of same ∙ two.0)),
          sym one.1 ∙ ap steps_in same ∙ two.1,
        );
    read_written_read = λ file day bytes read.
        let again = writes file day bytes read in
        ((again.1 file (omega arith)).0, ap read_of again.0);
    one_file_a_day = λ one other day another b c r q settings steps.
        means one other day another b c r q settings (sym (gives one day r) ∙ steps ∙ gives other another q);
  }

pub files_in_plain_words : FilesInPlainWords
files_in_plain_words = from_the_statements reads_what_is_written writes_what_is_read means_one_thing gives_its_steps
