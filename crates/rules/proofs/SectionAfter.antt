-- The section after an accepted step, as it is stored: one track.
use mathlib.Core.Bool.{Bool, true, false}
use mathlib.Core.Path.{◌≡◌, refl}
use Rattle.section.specs.declared.Section.{Section}
use Rattle.section.specs.declared.TrackStep.{TrackStep}
use Rattle.section.specs.Store.{track_of, with_track}
use Rattle.rules.specs.Line.{line_in}
use Rattle.rules.specs.Table.{track_after}
use Rattle.rules.specs.Judge.{site_of, track_after_on, section_after}

pub one_track_after : (s : Section) (x : TrackStep)
    → section_after s x ≡ with_track s x.track (track_after (line_in s) x.step (site_of s x) (track_of s x.track))
unfolding section_after track_after_on
one_track_after s x = go x.track
  where
    on : Bool → TrackStep
    on b = record { track = b; step = x.step }

    go : (b : Bool) → section_after s (on b) ≡ with_track s b (track_after (line_in s) x.step (site_of s (on b)) (track_of s b))
    go true = refl
    go false = refl
