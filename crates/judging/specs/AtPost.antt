-- A step judged at its site, over the cells of its track: an accepted step leaves its effect, a refused one all as it was.
use Rattle.std.specs.Prelude.{ℕ, Bool, true, false, List, set}
use Rattle.rules.specs.declared.Line.{Line}
use Rattle.section.specs.declared.Step.{Step}
use Rattle.section.specs.declared.Track.{Track}
use Rattle.section.specs.Refusal.{Verdict}
use Rattle.rules.specs.declared.Site.{Site}
use Rattle.std.specs.Prelude.{Ok, Err}
use Rattle.site.specs.Ruling.{Ruling, ruling_at, cells_ruled}
use Rattle.judging.specs.declared.at_post.PostAnswer.{PostAnswer}

-- a refused step leaves what it found
abbrev pub as_before : Verdict → Site → PostAnswer
as_before verdict e = record { verdict = verdict; own = e.own; running = record { cvt = e.cvt; walk = e.walk } }

unfoldable pub judged_of : Ruling → Site → PostAnswer
judged_of (Ok f) e = record { verdict = Ok f.said; own = f.own; running = record { cvt = f.cvt; walk = f.walk } }
judged_of (Err k) e = as_before (Err k) e

module _ (c : Line) (other_on_vns : Bool) (x : Step) (e : Site) (trains last : List ℕ) where
  unfoldable pub judged_at_post : PostAnswer
  judged_at_post = judged_of (ruling_at c other_on_vns x e trains last) e

  unfoldable pub trains_at : List ℕ
  trains_at = cells_ruled c true (ruling_at c other_on_vns x e trains last) e trains

  unfoldable pub last_at : List ℕ
  last_at = cells_ruled c false (ruling_at c other_on_vns x e trains last) e last

-- the track with what a step judged at its site leaves in its places
unfoldable pub track_at : Line → Bool → Step → Site → Track → Track
track_at c other_on_vns x e t = record {
  posts = set t.posts e.post (judged_at_post c other_on_vns x e t.trains t.last).own;
  trains = trains_at c other_on_vns x e t.trains t.last;
  last = last_at c other_on_vns x e t.trains t.last;
  cvt = (judged_at_post c other_on_vns x e t.trains t.last).running.cvt;
  walk = (judged_at_post c other_on_vns x e t.trains t.last).running.walk;
}
