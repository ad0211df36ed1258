use Rattle.section.proofs.Told.{told}
use Rattle.capi_preview.proofs.Lamps.{no_image, too_short, tried}
use Rattle.capi_preview.proofs.bsr_preview.Goals as goal

pub returns-then-not-image_well_formed-clause-buffer_after : goal.returns-then-not-image_well_formed-clause-buffer_after
returns-then-not-image_well_formed-clause-buffer_after c =
    (no_image c.args.bytes.now c.args.step.now c.args.buffer.now (told c.image_well_formed.ensures c.if-not-image_well_formed.true)).1

pub returns-then-buffer-lt-LAMPS-clause-buffer_after : goal.returns-then-buffer-lt-LAMPS-clause-buffer_after
returns-then-buffer-lt-LAMPS-clause-buffer_after c =
    (too_short c.args.bytes.now c.args.step.now c.args.buffer.now
    (told c.image_well_formed.ensures c.if-not-image_well_formed.false)
    c.section_of-s.ensures
    c.if-buffer-lt-LAMPS.true
    c.without_room.ensures).1

pub returns-clause-buffer_after : goal.returns-clause-buffer_after
returns-clause-buffer_after c =
    (tried c.args.bytes.now c.args.step.now c.args.buffer.now
    (told c.image_well_formed.ensures c.if-not-image_well_formed.false)
    c.section_of-s.ensures
    c.if-buffer-lt-LAMPS.false
    c.preview-tried.ensures
    c.packed_verdict.ensures
    c.put_lamps.ensures).1
