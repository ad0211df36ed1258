-- Judging keeps the ranges, in every section whose ranges hold, reachable or not: a refused step leaves the section, an accepted one keeps the
-- ranges of its own track and leaves the other.
use Prim.Native.Nat.{ℕ}
use mathlib.Core.Bool.{Bool, true, not}
use mathlib.Core.List.{List}
use mathlib.Core.Path.{◌≡◌, refl}
use Rattle.section.specs.declared.Answer.{Answer}
use Rattle.section.specs.declared.Section.{Section}
use Rattle.section.specs.Range.{in_range}
use Rattle.section.specs.Settings.{settings_in_range}
use Rattle.section.specs.Store.{track_of}
use Rattle.section.proofs.Laws.{settings_in_range_lem, track_in_range_lem, section_in_range}
use Rattle.rules.specs.Judge.{judge_in_range, judge}
use Rattle.rules.specs.RangesKept.{RangesKept}
use Rattle.rules.specs.Line.{line_in}
use Rattle.rules.specs.Site.{other_settled_on_vns}
use Rattle.rules.proofs.Facts.{by_track}
use Rattle.rules.proofs.View.{View, Seen, on}
use Rattle.rules.proofs.Accept.{AcceptedIn, section_after_step, Judged, refused, accepted, judged}
use Rattle.rules.proofs.Ranges.{InRange, track_in_lem, track_out, in_range_kept}
use Rattle.rules.proofs.Exchange.{here_after, there_after, settings_after}

-- ## The ranges of a section, track by track

pub record SectionInRange (s : Section) : Type 0 where
  pub settings : settings_in_range s.settings ≡ true
  pub tracks : (b : Bool) → InRange (line_in s) b (track_of s b)

pub section_in_lem : (s : Section) → in_range s ≡ true → SectionInRange s
section_in_lem s h =
    record { settings = settings_in_range_lem s h; tracks = λ b. track_in_lem (line_in s) b (track_of s b) (track_in_range_lem s h b) }

pub section_out : (s : Section) → SectionInRange s → in_range s ≡ true
section_out s r = section_in_range s r.settings (λ b. track_out (line_in s) b (track_of s b) (r.tracks b))

module _ (s : Section) where
  abbrev after : Seen → Section
  after x = section_after_step s.settings s x

  one_kept : (b : Bool) (p : ℕ) (k : View) → AcceptedIn s.settings s (on b p k) → SectionInRange s → SectionInRange (after (on b p k))
  unfolding AcceptedIn
  one_kept b p k h r = record {
    settings = rw (settings_after s.settings s (on b p k)) r.settings;
    tracks = rw (settings_after s.settings s (on b p k))
        (by_track (λ d. InRange (line_in s) d (track_of (after (on b p k)) d)) b
        (rw (here_after s.settings s b p k) (in_range_kept (line_in s) b (other_settled_on_vns s b) (track_of s b) p k h (r.tracks b)))
        (rw (there_after s.settings s b p k) (r.tracks (not b))));
  }

  section_kept : (x : Seen) → AcceptedIn s.settings s x → SectionInRange s → SectionInRange (after x)
  section_kept (on b p k) h r = one_kept b p k h r

pub ranges_kept : RangesKept
ranges_kept s bytes r = go (judged s.settings s refl r bytes)
  where
    go : Judged s.settings s refl r bytes → in_range (judge s bytes).section ≡ true
    go (refused k e) = rw e r
    go (accepted x d h e) = rw e (section_out (section_after_step s.settings s x) (section_kept s x h (section_in_lem s r)))

-- a step leaves the settings
pub settings_kept : (s : Section) (bytes : List ℕ) → in_range s ≡ true → (judge s bytes).section.settings ≡ s.settings
settings_kept s bytes r = go (judged s.settings s refl r bytes)
  where
    go : Judged s.settings s refl r bytes → (judge s bytes).section.settings ≡ s.settings
    go (refused k e) = rw e
    go (accepted x d h e) = rw e (settings_after s.settings s x)

-- ## In range, judging is judging by the bytes and the table

pub judged_in_range : (s : Section) (bytes : List ℕ) (after : Answer) → in_range s ≡ true → after ≡ judge_in_range s bytes → after ≡ judge s bytes
unfolding judge
judged_in_range s bytes after h e = rw h e
