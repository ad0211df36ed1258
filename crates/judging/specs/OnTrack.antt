-- A step judged on its own track.
use Rattle.rules.specs.declared.Line.{Line}
use Rattle.section.specs.declared.Track.{Track}
use Rattle.section.specs.declared.TrackStep.{TrackStep}
use Rattle.section.specs.Refusal.{Verdict}
use Rattle.section.specs.Step.{post_of}
use Rattle.rules.specs.Site.{site_on}
use Rattle.site.specs.declared.running.Running.{Running}
use Rattle.site.specs.Running.{on_vns}
use Rattle.judging.specs.AtPost.{judged_at_post, track_at}

-- a step's verdict, and its track after it
pub record TrackAnswer : Type 0 where
  pub verdict : Verdict
  pub track : Track

abbrev pub answer_on : Track → Verdict → TrackAnswer
answer_on t v = record { verdict = v; track = t }

unfoldable pub judged_on_track : Line → TrackStep → Track → Running → TrackAnswer
judged_on_track c x t other = record {
  verdict = (judged_at_post c (on_vns other) x.step (site_on x.track (post_of x.step) t) t.trains t.last).verdict;
  track = track_at c (on_vns other) x.step (site_on x.track (post_of x.step) t) t;
}
