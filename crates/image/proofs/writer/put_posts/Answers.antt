use Rattle.std.proofs.Common.{ℕ, get_or, arith}
use Rattle.text.proofs.Put.{room_for_more, one_more}
use Rattle.section.specs.Numbers.{most_posts}
use Rattle.section.specs.Post.{blank}
use Rattle.image.specs.Image.{post_length, post_image}
use Rattle.image.proofs.Laws.{post_length_lem}
use Rattle.image.proofs.writer.put_posts.Goals as goal

pub put_text-requires : goal.put_text-requires
put_text-requires c =
    let post = λ (p : ℕ). post_image (get_or c.args.posts.now p blank) in
    let fits = room_for_more _ post post_length most_posts (λ p. omega (arith, post_length_lem (get_or c.args.posts.now p blank))) c.requires c.loop-i.i
    c.loop-i-test.true c.loop-i.invariant in
    rw (c.post_bytes.ensures, post_length_lem (get_or c.args.posts.now c.loop-i.i blank)) fits

pub loop-i-preserved : goal.loop-i-preserved
loop-i-preserved c =
    one_more _ (λ (p : ℕ). post_image (get_or c.args.posts.now p blank)) post_length most_posts
    (λ p. omega (arith, post_length_lem (get_or c.args.posts.now p blank))) c.requires c.loop-i.i c.loop-i-test.true c.loop-i.invariant
    (rw c.post_bytes.ensures at c.put_text.ensures)
