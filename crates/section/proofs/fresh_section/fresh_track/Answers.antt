-- The posts are set where the fresh track's definition sets them; past the end that changes nothing.
use Prim.Native.Nat.{ℕ, ◌-◌, ◌≤◌}
use mathlib.Core.Bool.{Bool, true, false, cond}
use mathlib.Core.List.{List}
use mathlib.Core.Path.{◌≡◌, ◌∙◌, ap, sym}
use lib.ListN.{set, replicate}
use lib.Seq.{set_out}
use Rattle.section.specs.declared.Post.{Post}
use Rattle.section.specs.declared.Track.{Track}
use Rattle.section.specs.declared.Walk.TheVariants.{Settled}
use Rattle.section.specs.Fresh.{fresh_track}
use Rattle.section.specs.Numbers.{most_posts, most_blocks}
use Rattle.section.specs.Post.{blank, permitted}
use Rattle.section.proofs.fresh_section.fresh_track.Goals as goal

abbrev with_posts : List Post → Track
with_posts l = record { posts = l; trains = replicate most_blocks 0; last = replicate most_blocks 0; cvt = false; walk = Settled }

module _ (n : ℕ) (track : Bool) {b : Post} {i : ℕ} (eb : b ≡ blank) (ei : i ≡ cond track (n - 1) 0) where
  in_place : {o : Post} → o ≡ permitted true blank → with_posts (set (replicate most_posts b) i o) ≡ fresh_track n track
  unfolding fresh_track
  in_place {o} eo =
      ap (λ (x : Post). with_posts (set (replicate most_posts x) i o)) eb
      ∙ ap (λ (k : ℕ). with_posts (set (replicate most_posts blank) k o)) ei
      ∙ ap (λ (x : Post). with_posts (set (replicate most_posts blank) (cond track (n - 1) 0) x)) eo

  past_the_end : most_posts ≤ i → with_posts (replicate most_posts b) ≡ fresh_track n track
  unfolding fresh_track
  past_the_end h = rw eb (ap with_posts (sym (set_out _ _ _ (rw ei at h))))

pub returns-then-start-lt-MOST_POSTS : goal.returns-then-start-lt-MOST_POSTS
returns-then-start-lt-MOST_POSTS c =
    in_place c.args.n c.args.track c.blank-posts.ensures c.fresh_start-start.ensures
    (c.permitted.ensures ∙ ap (permitted true) c.blank.ensures)

pub returns-else-start-lt-MOST_POSTS : goal.returns-else-start-lt-MOST_POSTS
returns-else-start-lt-MOST_POSTS c =
    past_the_end c.args.n c.args.track c.blank-posts.ensures c.fresh_start-start.ensures c.if-start-lt-MOST_POSTS.false
