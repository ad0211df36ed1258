-- The worked listing and panel, by computation: unfolded, `listing_of` and `panel_of` compute.
use Prim.Native.Nat.{ℕ}
use mathlib.Core.Path.{◌≡◌, refl}
use mathlib.Core.List.{List, []}
use Rattle.section.specs.Refusal.{call_figure, index_of}
use Rattle.section.specs.Words.{said_by, letter, track_letter}
use Rattle.section.specs.Step.{well_formed}
use Rattle.rules.specs.Indications.{set_count, is_next_to_set, circulation, troncon, shown, lamps_at, dark, indications_on, indications}
use Rattle.layout.specs.Layout.{le16_bytes, le32, le32_bytes, le32_at, settings_bytes, trailer, step_count, file_of, from_end, trailer_in, settings_in}
use Rattle.layout.specs.Layout.{steps_in, settings_of, step_at, has_mark, mark_of, tail_in, tail_of, settings_part}
use Rattle.file_tests.specs.Tests.{length_wrong, length_suits, trailer_fits, trailer_well_formed, zeros_well_formed, settings_well_formed}
use Rattle.file_tests.specs.Tests.{well_at, leading, first_malformed}
use Rattle.file_tests.specs.Tests.{some_malformed}
use Rattle.dayfile.specs.Answers.{read_of}
use Rattle.rules.proofs.Days.{offered_as, refusals, fresh}
use Rattle.text.specs.Text.{decimal_digits, decimal, first_texts}
use Rattle.lines.specs.Lines.{word, refused_line, header, verdict_fields, fields, step_line}
use Rattle.lines.specs.PanelLine.{post_field, post_fields, track_name, panel_fields, panel_line}
use Rattle.judging_in_place.specs.Offered.{section_before, answer_to}
use Rattle.listing.specs.Printed.{lines, printed_day, printed_read, printed}
use Rattle.listing.specs.Listing.{listing}
use Rattle.listing.specs.Panel.{panel}
use Rattle.examples.specs.Worked.{settings, steps, day, worked_listing, worked_panel, listing_of_nothing}

unfoldable listing_of : List ℕ → List ℕ
unfolding refused_line header verdict_fields fields step_line section_before answer_to lines printed_day printed_read printed listing
    first_texts word letter track_letter
    decimal_digits decimal
    refusals fresh said_by call_figure index_of read_of length_wrong length_suits trailer_fits
    trailer_well_formed has_mark mark_of
    tail_in tail_of settings_well_formed zeros_well_formed some_malformed first_malformed leading well_at well_formed
    trailer_in settings_in steps_in from_end settings_of step_at le32_at le32
listing_of file = listing file

unfoldable panel_of : List ℕ → List ℕ
unfolding listing_of panel panel_line panel_fields track_name post_fields post_field
    indications indications_on lamps_at shown circulation troncon is_next_to_set set_count dark
panel_of file = panel file

unfoldable day_file : List ℕ
unfolding day settings steps offered_as file_of settings_part settings_bytes trailer mark_of tail_of le16_bytes le32_bytes step_count
day_file = day

pub worked_listing_lem : listing day ≡ worked_listing
unfolding day_file listing_of worked_listing
worked_listing_lem = refl

pub worked_panel_lem : panel day ≡ worked_panel
unfolding day_file panel_of worked_panel
worked_panel_lem = refl

pub worked_refusal : listing [] ≡ listing_of_nothing
unfolding listing_of listing_of_nothing
worked_refusal = refl
