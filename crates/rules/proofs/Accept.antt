-- What acceptance means: the bytes give a step, and every check of its row passed. Settings c are those of the section; they stand as a
-- parameter, and give the line, so that what follows is about tracks.
use Prim.Native.Nat.{ℕ}
use mathlib.Core.Bool.{Bool, true, false}
use mathlib.Core.Path.{◌≡◌, refl, sym, ap, ◌∙◌}
use mathlib.Core.List.{List, [], ◌∷◌}
use Rattle.std.specs.Prelude.{Ok, Err, Some, None, Option}
use Rattle.section.specs.declared.TrackStep.{TrackStep}
use Rattle.section.specs.declared.Refusal.{Refusal}
use Rattle.section.specs.declared.Refusal.TheVariants.{Malformed}
use Rattle.section.specs.declared.Settings.{Settings}
use Rattle.section.specs.declared.Track.{Track}
use Rattle.section.specs.declared.Section.{Section}
use Rattle.section.specs.declared.Said.{Said}
use Rattle.section.specs.Range.{in_range}
use Rattle.section.specs.Step.{decoded, number_of}
use Rattle.section.specs.Store.{track_of, with_track}
use Rattle.rules.specs.declared.Line.{Line}
use Rattle.rules.specs.Line.{line_of}
use Rattle.rules.specs.Site.{site_on, other_settled_on_vns, Other, Occupancy, occupancy_at}
use Rattle.rules.specs.Table.{Check, checks, effect, track_after}
use Rattle.rules.specs.Judge.{verdict_of, answer_of, verdict_on, track_after_on, section_after, judge_step, judge_decoded, judge_in_range, judge}
use Rattle.rules.proofs.View.{View, flat, post_flat, Seen, on, as_step, seen, as_step_seen}
use Rattle.rules.proofs.Reading.{Fits, SeenFits, decoded_says}

-- ## The row of checks

abbrev pub AllHold : List Check → Type 0
AllHold [] = Unit {0}
AllHold (k ∷ ks) = (k.holds ≡ true) × AllHold ks

pub all_accepted_lem : (ks : List Check) (w : Said) → AllHold ks → verdict_of ks w ≡ Ok w
unfolding verdict_of
all_accepted_lem [] w h = refl
all_accepted_lem (k ∷ ks) w h = rw h.0 (all_accepted_lem ks w h.1)

pub data Ruled (ks : List Check) (w : Said) : Type 0 where
  passed : AllHold ks → Ruled ks w
  failed : (r : Refusal) → verdict_of ks w ≡ Err r → Ruled ks w

pub ruled : (ks : List Check) (w : Said) → Ruled ks w
unfolding verdict_of
ruled [] w = passed tt
ruled (k ∷ ks) w = go k.holds refl (ruled ks w)
  where
    go : (x : Bool) → k.holds ≡ x → Ruled ks w → Ruled (k ∷ ks) w
    go true e (passed h) = passed (e, h)
    go true e (failed n q) = failed n (rw e q)
    go false e r = failed k.refusal (rw e refl)

-- ## A step on a track: its checks, the track after it

-- a step of one track asks only whether the other is settled on VNS
abbrev pub only_vns : Bool → Other
only_vns v = record { on_vns = v }

module _ (c : Line) where
  -- what its checks see of the trains, and of the other track: v, whether that is settled on VNS
  abbrev pub occupancy_on : Bool → Bool → ℕ → View → Track → Occupancy
  occupancy_on v b p k t = occupancy_at c (only_vns v) (site_on b p t) (number_of (flat p k)) t.trains t.last

  abbrev pub checks_at : Bool → Bool → ℕ → View → Track → List Check
  checks_at v b p k t = checks c (flat p k) (site_on b p t) (occupancy_on v b p k t)

  abbrev pub track_after_step : Bool → ℕ → View → Track → Track
  track_after_step b p k t = track_after c (flat p k) (site_on b p t) t

  pub record AcceptedOn (v b : Bool) (p : ℕ) (k : View) (t : Track) : Type 0 where
    pub fits : Fits c.posts p k
    pub held : AllHold (checks_at v b p k t)

module _ (c : Settings) where
  -- the line of a section
  abbrev pub line : Section → Line
  line s = line_of c

  -- ## A step on a section: that it is accepted, what it says, the section after it

  unfoldable pub AcceptedIn : Section → Seen → Type 0
  AcceptedIn s (on b p k) = AcceptedOn (line s) (other_settled_on_vns s b) b p k (track_of s b)

  unfoldable pub said_in : Section → Seen → Said
  said_in s (on b p k) = (effect (line s) (flat p k) (site_on b p (track_of s b))).said

  unfoldable pub section_after_step : Section → Seen → Section
  section_after_step s (on b p k) = with_track s b (track_after_step (line s) b p k (track_of s b))

  abbrev pub checks_of : Section → Seen → List Check
  checks_of s (on b p k) = checks_at (line s) (other_settled_on_vns s b) b p k (track_of s b)

  all_held : (s : Section) (x : Seen) → AcceptedIn s x → AllHold (checks_of s x)
  unfolding AcceptedIn
  all_held s (on b p k) h = h.held

  unfoldable pub held_accepted : (s : Section) (x : Seen) → SeenFits c.posts x → AllHold (checks_of s x) → AcceptedIn s x
  unfolding AcceptedIn
  held_accepted s (on b p k) f h = record { fits = f; held = h }

  module _ (s : Section) (e : s.settings ≡ c) where
    verdict_is : (x : Seen) → verdict_on s (as_step x) ≡ verdict_of (checks_of s x) (said_in s x)
    unfolding verdict_on said_in
    verdict_is (on b p k) = rw (e, post_flat p k) refl

    section_is : (x : Seen) → section_after s (as_step x) ≡ section_after_step s x
    unfolding section_after section_after_step track_after_on
    section_is (on true p k) = rw (e, post_flat p k) refl
    section_is (on false p k) = rw (e, post_flat p k) refl

    -- a step whose checks all pass
    step_accepted : (x : Seen) → AcceptedIn s x → judge_step s (as_step x) ≡ record { verdict = Ok (said_in s x); section = section_after_step s x }
    unfolding judge_step answer_of
    step_accepted x h =
        rw (verdict_is x, all_accepted_lem (checks_of s x) (said_in s x) (all_held s x h))
        (ap (λ n. record { verdict = Ok (said_in s x); section = n }) (section_is x))

    pub step_refused : (x : Seen) (k : Refusal) → verdict_of (checks_of s x) (said_in s x) ≡ Err k → judge_step s (as_step x) ≡ record {
      verdict = Err k;
      section = s;
    }
    unfolding judge_step answer_of
    step_refused x k q = rw (verdict_is x, q) refl

    -- bytes offered to a section in range
    module _ (r : in_range s ≡ true) where
      pub judge_well : (bytes : List ℕ) (x : Seen) → decoded c.posts bytes ≡ Some (as_step x) → judge s bytes ≡ judge_step s (as_step x)
      unfolding judge judge_in_range judge_decoded
      judge_well bytes x q = rw (r, e, q) refl

      pub accepted_judge : (bytes : List ℕ) (x : Seen) → decoded c.posts bytes ≡ Some (as_step x) → AcceptedIn s x
          → judge s bytes ≡ record { verdict = Ok (said_in s x); section = section_after_step s x }
      accepted_judge bytes x q h = judge_well bytes x q ∙ step_accepted x h

      pub judge_malformed : (bytes : List ℕ) → decoded c.posts bytes ≡ None → judge s bytes ≡ record { verdict = Err Malformed; section = s }
      unfolding judge judge_in_range judge_decoded
      judge_malformed bytes q = rw (r, e, q) refl

      -- they are refused, and nothing changes, or they say a step whose checks all pass
      pub data Judged (bytes : List ℕ) : Type 0 where
        refused : (k : Refusal) → judge s bytes ≡ record { verdict = Err k; section = s } → Judged bytes
        accepted : (x : Seen) → decoded c.posts bytes ≡ Some (as_step x) → AcceptedIn s x
            → judge s bytes ≡ record { verdict = Ok (said_in s x); section = section_after_step s x } → Judged bytes

      unfoldable pub judged : (bytes : List ℕ) → Judged bytes
      unfolding ruled held_accepted
      judged bytes = by_said (decoded c.posts bytes) refl
        where
          by_rule : (x : Seen) → decoded c.posts bytes ≡ Some (as_step x) → SeenFits c.posts x → Ruled (checks_of s x) (said_in s x)
              → Judged bytes
          by_rule x q f (passed h) = let ok : AcceptedIn s x = held_accepted s x f h in accepted x q ok (accepted_judge bytes x q ok)
          by_rule x q f (failed k z) = refused k (judge_well bytes x q ∙ step_refused x k z)

          by_said : (d : Option TrackStep) → decoded c.posts bytes ≡ d → Judged bytes
          by_said (Some y) q =
              by_rule (seen y) (q ∙ ap Some (sym (as_step_seen y))) (decoded_says c.posts bytes y q).fits
              (ruled (checks_of s (seen y)) (said_in s (seen y)))
          by_said None q = refused Malformed (judge_malformed bytes q)
