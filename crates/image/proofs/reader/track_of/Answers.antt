use Rattle.section.specs.Numbers.{most_posts, most_blocks}
use Rattle.image.specs.Image.{posts_length, numbers_length, track_from}
use Rattle.image.proofs.Places.{part_agrees, posts_same, numbers_same}
use Rattle.image.proofs.reader.track_of.Goals as goal

pub returns : goal.returns
unfolding track_from
returns c =
    let l = c.args.bytes.now in
    rw (
      c.posts_of.ensures,
      c.numbers_of.ensures,
      c.numbers_of-2.ensures,
      c.walk_of.ensures,
      posts_same most_posts (part_agrees l 4 posts_length),
      numbers_same most_blocks (part_agrees l 164 numbers_length),
      numbers_same most_blocks (part_agrees l 194 numbers_length),
    )
