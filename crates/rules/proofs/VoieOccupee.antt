-- "Voie occupée" is never said: the block sections that the reversal has cleared are empty, and the announcer's and the acknowledger's is one of
-- them. So is every block section of the part in which the announcer's lies: the post where that part begins, found backward from the announcer,
-- has seen it free.
use Prim.Native.Nat.{ℕ, zero, suc, ◌-◌, ◌≤◌, ◌<◌}
use mathlib.Core.Bool.{Bool, true, false}
use mathlib.Core.Path.{◌≡◌, sym, subst}
use mathlib.Core.Logic.{◌⊎◌, inl, inr}
use mathlib.Core.List.{List}
use native.Mathlib.Omega.{arith}
use native.Mathlib.Decide.{ℕ_discrete}
use Rattle.section.specs.declared.Settings.{Settings}
use Rattle.section.specs.declared.Act.{Act}
use Rattle.section.specs.declared.Act.TheVariants as act
use Rattle.section.specs.declared.Walk.{Walk}
use Rattle.section.specs.declared.Walk.TheVariants.{Turn}
use Rattle.section.specs.declared.Track.{Track}
use Rattle.section.specs.declared.Section.{Section}
use Rattle.section.specs.Fresh.{fresh_section}
use Rattle.section.specs.Geometry.{upward}
use Rattle.section.specs.Settings.{settings_in_range}
use Rattle.section.specs.Store.{track_of}
use Rattle.section.proofs.Laws.{rank_lt}
use Rattle.rules.specs.declared.Line.{Line}
use Rattle.rules.specs.Line.{line_of}
use Rattle.rules.specs.Site.{part_ends}
use Rattle.rules.specs.Indications.{set_count}
use Rattle.rules.specs.Demand3.{state_after}
use Rattle.rules.specs.VoieOccupee.{SeenFree, FreeToAnnounce, VoieOccupeeNeverSaid}
use Rattle.rules.proofs.Facts.{true_or_false}
use Rattle.rules.proofs.Stretches.{NoEnd}
use Rattle.rules.proofs.Accept.{line}
use Rattle.rules.proofs.Parts.{LineRight}
use Rattle.rules.proofs.Ranges.{rank_on, TurnFits}
use Rattle.rules.proofs.Cleared.{cleared_turn, cleared_announcer}
use Rattle.rules.proofs.Invariant.{ClearedFree, Sound}
use Rattle.rules.proofs.Reached.{Reached, reached_right}
use Rattle.rules.proofs.Theorem.{reached_throughout}

-- ## Where the part of a rank begins

record BeginsAt (ends : ℕ → Bool) (r : ℕ) : Type 0 where
  rank : ℕ
  not_after : rank ≤ r
  begins : ends rank ≡ true
  same_part : NoEnd ends rank r

begins_at : (ends : ℕ → Bool) (r : ℕ) → ends 0 ≡ true → BeginsAt ends r
begins_at ends zero h = record { rank = 0; not_after = omega arith; begins = h; same_part = λ k above upto. absurd (omega arith) }
begins_at ends (suc r) h = go (true_or_false (ends (suc r))) (begins_at ends r h)
  where
    go : (ends (suc r) ≡ true) ⊎ (ends (suc r) ≡ false) → BeginsAt ends r → BeginsAt ends (suc r)
    go (inl u) w = record { rank = suc r; not_after = omega arith; begins = u; same_part = λ k above upto. absurd (omega arith) }
    go (inr u) w = record {
      rank = w.rank;
      not_after = omega (arith, w.not_after);
      begins = w.begins;
      same_part = λ k above upto. at k above upto (ℕ_discrete k (suc r));
    }
      where
        at : (k : ℕ) → w.rank < k → k ≤ suc r → Dec (k ≡ suc r) → ends k ≡ false
        at k above upto (yes e) = rw e u
        at k above upto (no ne) = w.same_part k above (omega arith)

-- ## Free to announce

module _ (c : Line) (right : LineRight c) (b : Bool) (t : Track) (s : Sound c b t) where
  abbrev ends : ℕ → Bool
  ends = part_ends c b t.cvt

  module _ (p : ℕ) (a : Act) (e : t.walk ≡ Turn p a) where
    fits : TurnFits c b t.cvt (Turn p a)
    fits = subst (TurnFits c b t.cvt) e s.ranges.turn

    clear : ClearedFree c b t.cvt (Turn p a) t.trains
    clear = subst (λ (w : Walk). ClearedFree c b t.cvt w t.trains) e s.clear

  seen_free : (p : ℕ) → t.walk ≡ Turn p act.Announce → SeenFree c b t (rank_on c b t.cvt p)
  unfolding set_count
  seen_free p e =
      let w = begins_at ends (rank_on c b t.cvt p) (right.part_first b t.cvt) in
      record {
        watcher = w.rank;
        not_after = w.not_after;
        begins = w.begins;
        has_set = rw e (omega (arith, w.not_after));
        same_part = w.same_part;
        free = λ j from jn same.
            clear p act.Announce e j
            (cleared_announcer c b t.cvt p w.rank j w.not_after same) jn;
      }

  free_to_announce : FreeToAnnounce c b t
  free_to_announce = record {
    seen = seen_free;
    ahead = λ p e.
        let r = rank_on c b t.cvt p in
        clear p act.Announce e r (cleared_announcer c b t.cvt p r r (omega arith) (λ k above upto. absurd (omega arith))) (fits p act.Announce e).1;
    before = λ p e.
        let f = fits p act.Acknowledge e in
        let r = rank_on c b t.cvt p in
        clear p act.Acknowledge e (r - 1) (cleared_turn c b t.cvt p act.Acknowledge (r - 1) (omega (arith, f.1)))
        (omega (arith, f.1, rank_lt c.posts (upward b t.cvt) p f.0));
  }

pub voie_occupee_never_said : (c : Settings) → settings_in_range c ≡ true → (offered : List (List ℕ)) → VoieOccupeeNeverSaid c offered
voie_occupee_never_said c right offered b =
    subst (λ (k : Settings). FreeToAnnounce (line_of k) b (track_of end b)) (sym reached.settings)
    (free_to_announce (line c end) (reached_right c right end reached) b (track_of end b) (reached.sound b))
  where
    end : Section
    end = state_after (fresh_section c) offered

    reached : Reached c end
    reached = reached_throughout c right offered
