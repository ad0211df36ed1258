-- Judging an offered step: 6, then 4, then the table.
use Rattle.std.specs.Prelude.{ℕ, Bool, true, false, cond, not, List, [], ◌∷◌}
use Rattle.std.specs.Prelude.{Ok, Err, Some, None, Option}
use Rattle.section.specs.declared.Refusal.TheVariants.{Malformed, OutOfRange}
use Rattle.section.specs.declared.Said.{Said}
use Rattle.section.specs.Refusal.{Verdict}
use Rattle.section.specs.declared.Section.{Section}
use Rattle.section.specs.declared.Track.{Track}
use Rattle.section.specs.declared.Answer.{Answer}
use Rattle.section.specs.declared.TrackStep.{TrackStep}
use Rattle.section.specs.Range.{in_range}
use Rattle.section.specs.Step.{decoded, stands_on, kind_of, post_of, number_of}
use Rattle.section.specs.Store.{track_of}
use Rattle.rules.specs.declared.Site.{Site}
use Rattle.rules.specs.Line.{line_in}
use Rattle.rules.specs.Site.{site_on, other_on, Occupancy, occupancy_at}
use Rattle.rules.specs.Table.{Check, checks, effect, track_after}

-- "Figures are the refusals below. Every step not refused is accepted.": the first check that fails gives the refusal
unfoldable pub verdict_of : List Check → Said → Verdict
verdict_of [] said = Ok said
verdict_of (k ∷ ks) said = cond k.holds (verdict_of ks said) (Err k.refusal)

-- an accepted step leaves the new section, a refused one the old
unfoldable pub answer_of : Verdict → Section → Section → Answer
answer_of (Ok said) old new = record { verdict = Ok said; section = new }
answer_of (Err r) old new = record { verdict = Err r; section = old }

abbrev pub site_of : Section → TrackStep → Site
site_of s x = site_on x.track (post_of x.step) (track_of s x.track)

abbrev pub occupancy_of : Section → TrackStep → Occupancy
occupancy_of s x =
    occupancy_at (line_in s) (other_on (track_of s (not x.track))) (site_of s x) (number_of x.step)
    (track_of s x.track).trains (track_of s x.track).last

-- a step judged by the table
unfoldable pub verdict_on : Section → TrackStep → Verdict
verdict_on s x =
    verdict_of (checks (line_in s) x.step (site_of s x) (occupancy_of s x)) (effect (line_in s) x.step (site_of s x)).said

-- track b after an accepted step: changed where the step stands on it
unfoldable pub track_after_on : Section → TrackStep → Bool → Track
track_after_on s x b =
    cond (stands_on (kind_of x.step) x.track b)
    (track_after (line_in s) x.step (site_on b (post_of x.step) (track_of s b)) (track_of s b)) (track_of s b)

unfoldable pub section_after : Section → TrackStep → Section
section_after s x = record {
  settings = s.settings;
  a = track_after_on s x false;
  b = track_after_on s x true;
}

unfoldable pub judge_step : Section → TrackStep → Answer
judge_step s x = answer_of (verdict_on s x) s (section_after s x)

-- 4: "A single step offered to the engine is tested alike."
unfoldable pub judge_decoded : Section → Option TrackStep → Answer
judge_decoded s (Some x) = judge_step s x
judge_decoded s None = record { verdict = Err Malformed; section = s }

-- bytes offered to a section whose ranges hold
unfoldable pub judge_in_range : Section → List ℕ → Answer
judge_in_range s bytes = judge_decoded s (decoded s.settings.posts bytes)

-- 6: "engine only, before 4: the state handed in has settings or a field outside its range"
unfoldable pub judge : Section → List ℕ → Answer
judge s bytes = cond (in_range s) (judge_in_range s bytes) (record { verdict = Err OutOfRange; section = s })
