use borrow.Author.Tests.{lt-ltb, le-ltb}
use Rattle.section.proofs.Told.{told}
use Rattle.capi_sections.proofs.Images.{no_settings_lem, too_short, put}
use Rattle.capi_sections.proofs.bsr_fresh.Goals as goal

pub returns-then-not-lent_settings_well_formed-clause-buffer_after : goal.returns-then-not-lent_settings_well_formed-clause-buffer_after
returns-then-not-lent_settings_well_formed-clause-buffer_after c =
    (no_settings_lem c.args.settings.now c.args.buffer.now
    (told c.lent_settings_well_formed.ensures c.if-not-lent_settings_well_formed.true)).1

pub returns-then-buffer-lt-IMAGE_LENGTH-clause-buffer_after : goal.returns-then-buffer-lt-IMAGE_LENGTH-clause-buffer_after
returns-then-buffer-lt-IMAGE_LENGTH-clause-buffer_after c =
    (too_short c.args.settings.now c.args.buffer.now
    (told c.lent_settings_well_formed.ensures c.if-not-lent_settings_well_formed.false)
    (lt-ltb _ _ c.if-buffer-lt-IMAGE_LENGTH.true)).1

pub returns-clause-buffer_after : goal.returns-clause-buffer_after
returns-clause-buffer_after c =
    (put c.args.settings.now c.args.buffer.now
    (told c.lent_settings_well_formed.ensures c.if-not-lent_settings_well_formed.false)
    (le-ltb _ _ c.if-buffer-lt-IMAGE_LENGTH.false)
    c.settings_of.ensures
    c.fresh.ensures
    c.put_image.ensures).1
