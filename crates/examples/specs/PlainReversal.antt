-- The plain reversal, on each track and in each direction. That it is accepted to its end for n = 2, 3 and 16 is proved in
-- proofs/PlainReversal.antt.
use Rattle.std.specs.Prelude.{ℕ, zero, suc, ◌-◌, ◌^◌, Bool, true, false, cond, ◌&&◌, List, [], ◌∷◌, ◌++◌}
use Rattle.std.specs.Bool.{beq}
use Rattle.std.proofs.Math.Option.{Option, none, some}
use Rattle.section.specs.declared.Track.{Track}
use Rattle.section.specs.declared.Section.{Section}
use Rattle.section.specs.declared.TrackStep.{TrackStep}
use Rattle.section.specs.Geometry.{upward, rank}
use Rattle.section.specs.Store.{track_of, post_on}
use Rattle.rules.specs.Site.{is_settled}
use Rattle.rules.proofs.Days.{telephone, fresh, on, reversal, reversal_to_cvt, after}

-- n posts, all signalled
abbrev pub all_signalled : ℕ → ℕ
all_signalled n = 2 ^ n - 1

-- the posts of rank j, j + 1 and so on, m of them
unfoldable pub posts_from : (ℕ → ℕ) → ℕ → ℕ → List ℕ
posts_from post j zero = []
posts_from post j (suc m) = post j ∷ posts_from post (suc j) m

-- what is asked: the number of posts, the track, and the direction that the last reversal is to
pub record Reversal : Type 0 where
  pub posts : ℕ
  pub track : Bool
  pub cvt : Bool

-- the posts from the sending end of that running direction to the other end
unfoldable pub walked : Reversal → Bool → List ℕ
walked r cvt = posts_from (rank r.posts (upward r.track cvt)) 0 r.posts

-- to CVT from fresh; to VNS after that
unfoldable pub day_of : Reversal → List TrackStep
day_of r = on r.track (reversal_to_cvt (walked r false) ++ cond r.cvt [] (reversal (walked r true)))

-- the track ends settled on the direction, with permission at its sending end
unfoldable pub ends_on : Reversal → Track → Bool
ends_on r t =
    is_settled t.walk && (beq t.cvt r.cvt && (post_on t (rank r.posts (upward r.track r.cvt) 0)).permission)

-- no step is refused, and the track ends so
unfoldable pub ends_well : Reversal → Option Section → Bool
ends_well r none = false
ends_well r (some s) = ends_on r (track_of s r.track)

unfoldable pub completes : Reversal → Bool
completes r = ends_well r (after (fresh (telephone r.posts (all_signalled r.posts))) (day_of r))

unfoldable pub all_complete : List Reversal → Bool
all_complete [] = true
all_complete (r ∷ rs) = completes r && all_complete rs

unfoldable pub reversals_of : ℕ → List Reversal
reversals_of n =
    record { posts = n; track = false; cvt = true } ∷ record { posts = n; track = false; cvt = false }
    ∷ record { posts = n; track = true; cvt = true } ∷ record { posts = n; track = true; cvt = false } ∷ []

unfoldable pub reversals : List Reversal
reversals = reversals_of 2 ++ reversals_of 3 ++ reversals_of 16
