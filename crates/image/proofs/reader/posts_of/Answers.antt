use Rattle.std.proofs.Common.{ℕ, ◌≡◌, ◌+◌, ◌*◌, rules, refl}
use Rattle.section.specs.Post.{blank}
use Rattle.image.specs.Image.{post_length, post_at, posts_from}
use Rattle.image.proofs.Made.{made}
use Rattle.image.proofs.Places.{post_part, post_place}
use Rattle.image.proofs.reader.posts_of.Goals as goal

pub returns : goal.returns
unfolding posts_from
returns c =
    made _ (λ f. f.0.now ≡ c.args.bytes.now) (λ (p : ℕ). post_at c.args.bytes.now (0 + post_length * p)) blank
    (λ p q i y k h. let e : y ≡ post_at (post_part p.0.now i) 0 = search rules in (rw (← k) (post_place _ i e), search rules))
    c.from_fn.result 16 _ refl c.from_fn.ensures.items
