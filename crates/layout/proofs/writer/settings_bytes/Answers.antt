use Rattle.std.proofs.Common.{arith, append-nil}
use Rattle.layout.specs.Layout.{settings_bytes, le16_bytes}
use Rattle.layout.proofs.Parts.{crossings_are}
use Rattle.layout.proofs.writer.settings_bytes.Goals as goal

pub returns : goal.returns
unfolding settings_bytes le16_bytes
returns c =
    let long = c.copy_from_slice-3.ensures.len in
    rw (
      c.copy_from_slice.ensures.after,
      c.copy_from_slice-2.ensures.after,
      c.copy_from_slice-3.ensures.after,
      c.to_le_bytes.ensures,
      c.to_le_bytes-2.ensures,
      append-nil,
      crossings_are c.args.c.crossings (omega arith),
    )
