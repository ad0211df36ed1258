-- After i turns the first i of them are put.
use Rattle.std.proofs.Common.{◌≡◌, ℕ, get_or}
use Rattle.text.specs.Put.{put}
use Rattle.text.specs.Text.{first_texts}
use Rattle.section.specs.Post.{blank}
use Rattle.image.specs.Image.{post_image}
use Rattle.image.proofs.writer.put_posts.Given as goal

abbrev pub invariant-loop-i : goal.invariant-loop-i
invariant-loop-i l = l.text ≡ put l.initial.text (first_texts (λ (p : ℕ). post_image (get_or l.posts p blank)) l.i)
