-- The files with level crossings, by computation.
use mathlib.Core.Path.{refl}
use Rattle.section.specs.Refusal.{call_figure, refusal_by}
use Rattle.section.specs.Step.{well_formed}
use Rattle.layout.specs.Layout.{le32, le32_at, step_count, from_end, trailer_in, has_mark, mark_of}
use Rattle.layout.specs.Layout.{tail_in, tail_of, settings_in, steps_in, settings_of, step_at}
use Rattle.file_tests.specs.Tests.{length_wrong, length_suits, trailer_fits, trailer_well_formed, zeros_well_formed, settings_well_formed}
use Rattle.file_tests.specs.Tests.{well_at, leading, first_malformed}
use Rattle.file_tests.specs.Tests.{some_malformed}
use Rattle.dayfile.specs.Answers.{read_of}
use Rattle.rules.proofs.Days.{refusals}
use Rattle.rules.proofs.Rows.{Holds}
use Rattle.examples.specs.Marked.{reading}
use Rattle.examples.specs.CrossingFiles.{crossing_files}

pub crossing_files_lem : Holds crossing_files
unfolding crossing_files reading refusals
    refusal_by call_figure read_of length_wrong length_suits trailer_fits trailer_well_formed has_mark mark_of tail_in tail_of
    settings_well_formed zeros_well_formed
    some_malformed first_malformed leading well_at well_formed step_count steps_in trailer_in settings_in from_end settings_of step_at le32_at le32
crossing_files_lem = refl
