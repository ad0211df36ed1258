-- Refused: never, for the buffer has room for every sheet.
use Rattle.std.proofs.Common.{arith, ℕ, ◌∙◌, ap, length}
use lib.ListN.{length-replicate}
use Rattle.layout.specs.Layout.{most_steps}
use Rattle.listing.specs.declared.sheets.Sheet.TheVariants.{Panel}
use Rattle.listing.specs.Sheet.{room}
use Rattle.agreement.proofs.Laws.{fits_the_panels_room, never_refused}
use Rattle.agreement.proofs.agrees.Goals as goal

pub returns-in_default : goal.returns-in_default
returns-in_default c =
    let room-is = ap length c.panel_room-buffer.ensures ∙ length-replicate {A = ℕ} (room Panel most_steps) 0 in
    let fits = fits_the_panels_room c.args.sheet c.args.file.now in
    absurd (never_refused _ _ _ c.print-copied.ensures.value (omega (arith, room-is, fits)) c.in_default.not-Ok)
