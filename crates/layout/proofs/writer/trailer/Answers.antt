use Rattle.std.proofs.Common.{arith}
use Rattle.layout.specs.Layout.{trailer, le32_bytes}
use Rattle.layout.proofs.Parts.{mark_listed}
use Rattle.layout.proofs.writer.trailer.Goals as goal

pub slice_bounds-trailer-end-3 : goal.slice_bounds-trailer-end-3
slice_bounds-trailer-end-3 c =
    rw (c.copy_from_slice.ensures.after, c.mark_of.ensures, mark_listed c.args.tail, c.copy_from_slice-2.ensures.after, c.to_le_bytes.ensures)
    (omega arith)

pub slice_bounds-trailer-end-4 : goal.slice_bounds-trailer-end-4
slice_bounds-trailer-end-4 c =
    rw (
      c.copy_from_slice.ensures.after,
      c.mark_of.ensures,
      mark_listed c.args.tail,
      c.copy_from_slice-2.ensures.after,
      c.to_le_bytes.ensures,
      c.copy_from_slice-3.ensures.after,
      c.to_le_bytes-2.ensures,
    )
    (omega arith)

pub returns : goal.returns
unfolding trailer le32_bytes
returns c =
    rw (
      c.copy_from_slice.ensures.after,
      c.copy_from_slice-2.ensures.after,
      c.copy_from_slice-3.ensures.after,
      c.copy_from_slice-4.ensures.after,
      c.to_le_bytes.ensures,
      c.to_le_bytes-2.ensures,
      c.to_le_bytes-3.ensures,
      c.mark_of.ensures,
      mark_listed c.args.tail,
    )
