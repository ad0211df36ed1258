use Rattle.image.specs.Image.{track_a, track_b, track_length, section_of}
use Rattle.image.proofs.Places.{part_agrees, track_same}
use Rattle.image.proofs.reader.section_of.Goals as goal

pub returns : goal.returns
unfolding section_of
returns c =
    let l = c.args.bytes.now in
    rw (
      c.settings_of.ensures,
      c.track_of.ensures,
      c.track_of-2.ensures,
      track_same (part_agrees l track_a track_length),
      track_same (part_agrees l track_b track_length),
    )
