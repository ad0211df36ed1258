-- Either the sheet is put into the buffer itself, or into room of its own whose front is copied out. The sheet fits that room, since the room
-- keeps its length.
use Rattle.std.proofs.Common.{arith, ℕ, ◌∙◌, ap, length}
use lib.ListN.{length-replicate}
use Rattle.layout.specs.Layout.{most_steps}
use Rattle.listing.specs.declared.sheets.Sheet.TheVariants.{Panel}
use Rattle.listing.specs.Printed.{printed}
use Rattle.listing.specs.Sheet.{line_on, room}
use Rattle.listing.proofs.sheets.Front.{put_at_once}
use Rattle.listing.proofs.sheets.Laws.{most_room}
use Rattle.listing.proofs.sheets.print.Goals as goal

pub returns-then-room_for-buffer-clause-buffer_after : goal.returns-then-room_for-buffer-clause-buffer_after
returns-then-room_for-buffer-clause-buffer_after c =
    (put_at_once
    c.args.buffer.now
    _
    (printed (line_on c.args.sheet) c.args.file.now)
    c.put_sheet.result
    (c.put_sheet.ensures.value, c.put_sheet.ensures.buffer_after)
    c.put_sheet.auto.buffer).1

pub put_sheet-length-requires : goal.put_sheet-length-requires
put_sheet-length-requires c =
    let room-is = ap length c.panel_room-space.ensures ∙ length-replicate {A = ℕ} (room Panel most_steps) 0 in
    omega (arith, room-is, most_room c.args.sheet)
