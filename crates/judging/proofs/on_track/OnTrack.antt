-- A step judged on its own track: what the code puts in its places.
use Prim.Native.Nat.{ℕ}
use mathlib.Core.Bool.{Bool, not}
use mathlib.Core.List.{List}
use mathlib.Core.Path.{◌≡◌, sym, ◌∙◌}
use lib.ListN.{set}
use Rattle.std.specs.Prelude.{Some}
use Rattle.rules.specs.declared.Line.{Line}
use Rattle.section.specs.declared.Track.{Track}
use Rattle.section.specs.declared.Section.{Section}
use Rattle.section.specs.declared.TrackStep.{TrackStep}
use Rattle.section.specs.Step.{decoded, post_of}
use Rattle.section.specs.Store.{track_of, with_track, post_on}
use Rattle.rules.specs.Line.{line_in}
use Rattle.rules.specs.Judge.{judge_in_range}
use Rattle.site.specs.declared.running.Running.{Running}
use Rattle.site.specs.Running.{running_of, on_vns, site_with}
use Rattle.judging.specs.declared.at_post.PostAnswer.{PostAnswer}
use Rattle.judging.specs.AtPost.{judged_at_post, trains_at, last_at, track_at}
use Rattle.judging.proofs.at_post.OnTrack as on_track_lem
use Rattle.judging.specs.OnTrack.{TrackAnswer, judged_on_track}

-- what the step leaves, put in its places
pub put_back :
    (c : Line) (x : TrackStep) (t : Track) (other : Running) {p : ℕ} {r : Running} {j : PostAnswer} {trains last : List ℕ}
    → p ≡ post_of x.step
    → r ≡ running_of t
    → j ≡ judged_at_post c (on_vns other) x.step (site_with x.track (post_of x.step) (post_on t p) r) t.trains t.last
    → trains ≡ trains_at c (on_vns other) x.step (site_with x.track (post_of x.step) (post_on t p) r) t.trains t.last
    → last ≡ last_at c (on_vns other) x.step (site_with x.track (post_of x.step) (post_on t p) r) t.trains t.last
    → record {
      verdict = j.verdict;
      track = record {
        posts = set t.posts p j.own;
        trains = trains;
        last = last;
        cvt = j.running.cvt;
        walk = j.running.walk;
      };
    } ≡ judged_on_track c x t other
unfolding judged_on_track track_at
put_back c x t other ep er ej et el = rw (ej, et, el, ep, er)

-- the section with the track that is put back
pub judged :
    (s : Section) (bytes : List ℕ) (x : TrackStep) → decoded s.settings.posts bytes ≡ Some x → (k : Bool) → x.track ≡ k
    → {line : Line} {t : Track} {other : Running} {w : TrackAnswer} → line ≡ line_in s
    → t ≡ track_of s x.track → other ≡ running_of (track_of s (not x.track))
    → w ≡ judged_on_track line x t other → record { verdict = w.verdict; section = with_track s k w.track } ≡ judge_in_range s bytes
unfolding judged_on_track
judged s bytes x well k ek el et eo ew = rw (sym ek, ew, el, et, eo) (on_track_lem.step_judged s x ∙ on_track_lem.judged s bytes x well)
