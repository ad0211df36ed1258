-- The further theorems in plain words, each from the statement of its theorem alone: block sections by their numbers in each direction, lists by
-- induction. A section overwritten past its end agrees with the one before below it, so what is said of two such sections is said of these.
use Prim.Native.Nat.{ℕ, suc, ◌-◌, ◌≤◌, ◌<◌}
use mathlib.Core.Bool.{Bool, true, false}
use mathlib.Core.Path.{◌≡◌, refl, sym, ap, ap₂, ◌∙◌}
use mathlib.Core.List.{List, [], ◌∷◌}
use native.Mathlib.Omega.{arith}
use lib.ListN.{get_or, length-set}
use lib.Seq.{get_or-set_other}
use lib.Dec.{ltb}
use borrow.Author.Tests.{ltb-true, ltb-false, eq-eqb, ne_eqb}
use Rattle.section.specs.declared.Act.TheVariants.{Announce}
use Rattle.section.specs.declared.Post.{Post}
use Rattle.section.specs.declared.Section.{Section}
use Rattle.section.specs.declared.Settings.{Settings}
use Rattle.section.specs.declared.Track.{Track}
use Rattle.section.specs.declared.Walk.TheVariants.{Turn}
use Rattle.section.specs.Fresh.{fresh_section}
use Rattle.section.specs.Geometry.{upward, rank, block, is_last}
use Rattle.section.specs.Post.{blank}
use Rattle.section.specs.Settings.{settings_in_range}
use Rattle.section.specs.Store.{track_of}
use Rattle.rules.specs.declared.Line.{Line}
use Rattle.rules.specs.declared.Site.{Site}
use Rattle.rules.specs.Line.{line_in, is_materialised}
use Rattle.rules.specs.Site.{is_train, part_ends}
use Rattle.rules.specs.Table.{checks}
use Rattle.rules.specs.Judge.{judge_decoded, judge_in_range, judge}
use Rattle.rules.specs.Demand3.{state_after}
use Rattle.rules.specs.VoieOccupee.{SamePart, SeenFree, FreeToAnnounce}
use Rattle.rules.specs.Parts.{EarlierRule}
use Rattle.rules.specs.RangesKept.{RangesKept, NeverOutOfRange}
use Rattle.rules.specs.CellsPast.{CellsPastKept, SameBelow, AgreeBelow, CellsPastNotTested}
use Rattle.rules.specs.FurtherInPlainWords.{PartFree, ReplyNotNeeded, OneSectionAhead, InRangeAlong, NextIsJudged}
use Rattle.rules.specs.FurtherInPlainWords.{KeepsCellsPast, answers, overwritten_on, overwritten, SameToTheEye, NeverMatters}
use Rattle.rules.specs.FurtherInPlainWords.{CellsPastNeverMatter}
use Rattle.rules.proofs.VoieOccupee.{voie_occupee_never_said}
use Rattle.rules.proofs.Parts.{telephone_keeps_the_rule}
use Rattle.rules.proofs.RangeLaw.{ranges_kept}
use Rattle.rules.proofs.Theorem.{never_out_of_range}
use Rattle.rules.proofs.CellsKept.{cells_past_kept}
use Rattle.rules.proofs.CellsNotTested.{cells_past_not_tested}

-- ## "Voie occupée"

-- the block section ahead of a post, and the one before it, by number
ahead_up : (n i : ℕ) (up : Bool) → up ≡ true → block n up (rank n up i) ≡ i
unfolding block rank
ahead_up n i up e = rw e refl

ahead_down : (n i : ℕ) (up : Bool) → suc i < n → up ≡ false → block n up (rank n up (suc i)) ≡ i
unfolding block rank
ahead_down n i up h e = rw e (omega arith)

before_up : (n i : ℕ) (up : Bool) → up ≡ true → block n up (rank n up (suc i) - 1) ≡ i
unfolding block rank
before_up n i up e = rw e (omega arith)

before_down : (n i : ℕ) (up : Bool) → suc i < n → up ≡ false → block n up (rank n up i - 1) ≡ i
unfolding block rank
before_down n i up h e = rw e (omega arith)

module _ (s : Section) (b : Bool) (free : FreeToAnnounce (line_in s) b (track_of s b)) where
  abbrev n : ℕ
  n = s.settings.posts

  abbrev up : Bool
  up = upward b (track_of s b).cvt

  shows_none : (i j : ℕ) → j ≡ i → get_or (track_of s b).trains j 0 ≡ 0 → get_or (track_of s b).trains i 0 ≡ 0
  shows_none i j e h = rw e at h

  part_free : (p : ℕ) → (track_of s b).walk ≡ Turn p Announce → PartFree s b (rank n up p)
  part_free p e =
      let w = free.seen p e in
      record {
        first = w.watcher;
        begins = w.begins;
        has_set = w.has_set;
        not_after = w.not_after;
        none_between = w.same_part;
        free_before = λ j from upto inside. w.free j from inside (λ k above below. w.same_part k above (omega arith));
        free_beyond = λ j from inside none. w.free j (omega (arith, w.not_after)) inside (same w j none);
      }
    where
      same : (w : SeenFree (line_in s) b (track_of s b) (rank n up p)) (j : ℕ)
          → ((k : ℕ) → rank n up p < k → k ≤ j → part_ends (line_in s) b (track_of s b).cvt k ≡ false)
          → SamePart (line_in s) b (track_of s b) w.watcher j
      same w j none k above below = go (ltb (rank n up p) k) refl
        where
          go : (x : Bool) → ltb (rank n up p) k ≡ x → part_ends (line_in s) b (track_of s b).cvt k ≡ false
          go true h = none k (ltb-true (rank n up p) k h) below
          go false h = w.same_part k above (ltb-false (rank n up p) k h)

  reply_not_needed : ReplyNotNeeded s b
  reply_not_needed = record {
    track_free = record {
      announced_upward = λ i h u e. shows_none i _ (ahead_up n i up u) (free.ahead i e);
      announced_downward = λ i h u e. shows_none i _ (ahead_down n i up h u) (free.ahead (suc i) e);
      acknowledged_upward = λ i h u e. shows_none i _ (before_up n i up u) (free.before (suc i) e);
      acknowledged_downward = λ i h u e. shows_none i _ (before_down n i up h u) (free.before i e);
    };
    part_free = part_free;
  }

pub reply_never_needed : (c : Settings) → settings_in_range c ≡ true → (offered : List (List ℕ)) (b : Bool)
    → ReplyNotNeeded (state_after (fresh_section c) offered) b
reply_never_needed c right offered b = reply_not_needed (state_after (fresh_section c) offered) b (voie_occupee_never_said c right offered b)

-- ## By telephone

module _ (c : Line) (e : Site) (below : e.post < c.posts) (rule : EarlierRule c e) where
  abbrev toward : Bool
  toward = upward e.track e.cvt

  last_is : (up x : Bool) → toward ≡ up → is_last c.posts up e.post ≡ x → is_last c.posts toward e.post ≡ x
  last_is up x q h = rw q h

  up_inside : suc e.post < c.posts → is_last c.posts true e.post ≡ false
  unfolding is_last rank
  up_inside h = ne_eqb (suc e.post) c.posts (omega arith)

  up_end : suc e.post ≡ c.posts → is_last c.posts true e.post ≡ true
  unfolding is_last rank
  up_end h = eq-eqb (suc e.post) c.posts h

  down_inside : (i : ℕ) → e.post ≡ suc i → is_last c.posts false e.post ≡ false
  unfolding is_last rank
  down_inside i h = ne_eqb (suc (c.posts - suc e.post)) c.posts (omega arith)

  down_end : e.post ≡ 0 → is_last c.posts false e.post ≡ true
  unfolding is_last rank
  down_end h = eq-eqb (suc (c.posts - suc e.post)) c.posts (omega arith)

  one_section_ahead : OneSectionAhead c e
  one_section_ahead = record {
    upward_commands = λ q h. rule.commanded ∙ rw (last_is true false q (up_inside h)) refl;
    upward_watches = λ q h trains.
        rule.watched trains ∙ rw (last_is true false q (up_inside h))
        (ap (λ (i : ℕ). is_train (get_or trains i 0)) (ahead_up c.posts e.post toward q));
    downward_commands = λ q i h. rule.commanded ∙ rw (last_is false false q (down_inside i h)) refl;
    downward_watches = λ q i h trains.
        rule.watched trains ∙ rw (last_is false false q (down_inside i h))
        (ap (λ (j : ℕ). is_train (get_or trains j 0)) (rw h (ahead_down c.posts i toward (omega arith) q)));
    upward_end = λ q h. rule.commanded ∙ rw (last_is true true q (up_end h)) refl;
    downward_end = λ q h. rule.commanded ∙ rw (last_is false true q (down_end h)) refl;
    end_watches_none = λ h trains. rule.watched trains ∙ rw (sym rule.commanded ∙ h) refl;
  }

pub by_telephone : (c : Line) (e : Site) → c.form ≡ 0 → e.post < c.posts → OneSectionAhead c e
unfolding is_materialised
by_telephone c e form below = one_section_ahead c e below (telephone_keeps_the_rule c e (rw form refl) below)

-- ## Ranges

along : RangesKept → InRangeAlong
unfolding state_after
along kept s h [] = h
along kept s h (bytes ∷ offered) = along kept (judge s bytes).section (kept s bytes h) offered

pub in_range_along : InRangeAlong
in_range_along = along ranges_kept

module _ (c : Settings) (offered : List (List ℕ)) (never : NeverOutOfRange c offered) where
  abbrev reached : Section
  reached = state_after (fresh_section c) offered

  is_judged : NextIsJudged reached
  unfolding judge_in_range judge_decoded
  is_judged = record {
    malformed = λ bytes e. never bytes ∙ ap (judge_decoded reached) e;
    by_the_table = λ bytes x e. never bytes ∙ ap (judge_decoded reached) e;
  }

pub next_is_judged : (c : Settings) → settings_in_range c ≡ true → (offered : List (List ℕ)) → NextIsJudged (state_after (fresh_section c) offered)
next_is_judged c right offered = is_judged c offered (never_out_of_range c right offered)

-- ## Cells past the end

keeps : CellsPastKept → (s : Section) (bytes : List ℕ) → KeepsCellsPast s (judge s bytes).section
keeps kept s bytes = record {
  posts_a = ((kept s bytes).tracks false).posts;
  posts_b = ((kept s bytes).tracks true).posts;
  trains_a = ((kept s bytes).tracks false).trains;
  trains_b = ((kept s bytes).tracks true).trains;
  last_a = ((kept s bytes).tracks false).last;
  last_b = ((kept s bytes).tracks true).last;
}

pub keeps_cells_past : (s : Section) (bytes : List ℕ) → KeepsCellsPast s (judge s bytes).section
keeps_cells_past = keeps cells_past_kept

module _ (not_tested : CellsPastNotTested) where
  agree_along : (s u : Section) → AgreeBelow s u → (offered : List (List ℕ)) → AgreeBelow (state_after s offered) (state_after u offered)
  unfolding state_after
  agree_along s u a [] = a
  agree_along s u a (bytes ∷ offered) =
      agree_along (judge s bytes).section (judge u bytes).section ((not_tested s u a).sections bytes) offered

  answers_along : (s u : Section) → AgreeBelow s u → (offered : List (List ℕ)) → answers s offered ≡ answers u offered
  answers_along s u a [] = refl
  answers_along s u a (bytes ∷ offered) =
      ap₂ (λ v l. v ∷ l) ((not_tested s u a).verdicts bytes)
      (answers_along (judge s bytes).section (judge u bytes).section ((not_tested s u a).sections bytes) offered)

  seen_same : (s u : Section) → AgreeBelow s u → SameToTheEye s u
  seen_same s u a = record {
    settings = a.settings;
    cvt = λ b. (a.tracks b).cvt;
    walk = λ b. (a.tracks b).walk;
    posts = λ b. (a.tracks b).cells.posts;
    trains = λ b. (a.tracks b).cells.trains;
    last = λ b. (a.tracks b).cells.last;
  }

  module _ (s : Section) (b : Bool) (p : ℕ) (o : Post) (i train last : ℕ) (past : s.settings.posts ≤ p) (beyond : s.settings.posts ≤ suc i) where
    abbrev u : Section
    u = overwritten s b p o i train last

    here : (t : Track) → SameBelow s.settings.posts (overwritten_on t p o i train last) t
    here t = record {
      cvt = refl;
      walk = refl;
      cells = record {
        posts = λ q h. get_or-set_other t.posts p q o blank (omega arith);
        trains = λ j h. get_or-set_other t.trains i j train 0 (omega arith);
        last = λ j h. get_or-set_other t.last i j last 0 (omega arith);
      };
      sizes = record {
        posts = length-set t.posts p o;
        trains = length-set t.trains i train;
        last = length-set t.last i last;
      };
    }

    there : (t : Track) → SameBelow s.settings.posts t t
    there t = record {
      cvt = refl;
      walk = refl;
      cells = record { posts = λ q h. refl; trains = λ j h. refl; last = λ j h. refl };
      sizes = record { posts = refl; trains = refl; last = refl };
    }

    agree : AgreeBelow u s
    agree = record { settings = refl; tracks = go b }
      where
        go : (b d : Bool) → SameBelow s.settings.posts (track_of (overwritten s b p o i train last) d) (track_of s d)
        go true true = here s.b
        go true false = there s.a
        go false true = there s.b
        go false false = here s.a

    never_matters : NeverMatters s u
    never_matters = record {
      same_answers = answers_along u s agree;
      same_afterwards = λ offered. seen_same (state_after u offered) (state_after s offered) (agree_along u s agree offered);
      same_shown = λ offered. (not_tested (state_after u offered) (state_after s offered) (agree_along u s agree offered)).shows;
      same_checks = λ x h. ap₂ (checks (line_in s) x.step) ((not_tested u s agree).sites x h) ((not_tested u s agree).occupancies x h);
    }

pub cells_past_never_matter : CellsPastNeverMatter
cells_past_never_matter = never_matters cells_past_not_tested
