-- The further theorems of docs/SAFETY.md in plain words: "Voie occupée", telephone lines, ranges, cells past the last post and block section.
-- proofs/FurtherInPlainWords.antt draws each from the statement of its theorem alone, and every field of that statement is used by one of them.
use Rattle.std.specs.Prelude.{ℕ, suc, ◌≤◌, ◌<◌, Bool, true, false, ◌≡◌, List, [], ◌∷◌, get_or, set}
use Rattle.std.specs.Prelude.{Err, Some, None}
use Rattle.section.specs.declared.Refusal.TheVariants.{Malformed}
use Rattle.section.specs.declared.Act.TheVariants.{Announce, Acknowledge}
use Rattle.section.specs.declared.Post.{Post}
use Rattle.section.specs.declared.Section.{Section}
use Rattle.section.specs.declared.Track.{Track}
use Rattle.section.specs.declared.TrackStep.{TrackStep}
use Rattle.section.specs.Refusal.{Verdict}
use Rattle.section.specs.declared.Walk.TheVariants.{Turn}
use Rattle.section.specs.Geometry.{upward, rank, block}
use Rattle.section.specs.Range.{in_range}
use Rattle.section.specs.Step.{decoded, post_of}
use Rattle.section.specs.Store.{track_of, with_track, post_on}
use Rattle.rules.specs.declared.Line.{Line}
use Rattle.rules.specs.declared.Site.{Site}
use Rattle.rules.specs.Line.{line_in}
use Rattle.rules.specs.Site.{is_train, part_ends, commands, watched_occupied}
use Rattle.rules.specs.Table.{checks}
use Rattle.rules.specs.Indications.{set_count, indications}
use Rattle.rules.specs.Judge.{site_of, occupancy_of, judge_step, judge}
use Rattle.rules.specs.Demand3.{state_after}

-- ## "Voie occupée"

module _ (s : Section) (b : Bool) where
  abbrev pub posts : ℕ
  posts = s.settings.posts

  abbrev pub of_track : Track
  of_track = track_of s b

  -- trains run upward, from post 0
  abbrev pub runs_up : Bool
  runs_up = upward b of_track.cvt

  -- "the block section between the post that announces and the one that acknowledges is free": block section i lies between posts i and i+1
  pub record TrackFree : Type 0 where
    pub announced_upward : (i : ℕ) → suc i < posts → runs_up ≡ true → of_track.walk ≡ Turn i Announce → get_or of_track.trains i 0 ≡ 0
    pub announced_downward : (i : ℕ) → suc i < posts → runs_up ≡ false → of_track.walk ≡ Turn (suc i) Announce → get_or of_track.trains i 0 ≡ 0
    pub acknowledged_upward : (i : ℕ) → suc i < posts → runs_up ≡ true → of_track.walk ≡ Turn (suc i) Acknowledge → get_or of_track.trains i 0 ≡ 0
    pub acknowledged_downward : (i : ℕ) → suc i < posts → runs_up ≡ false → of_track.walk ≡ Turn i Acknowledge → get_or of_track.trains i 0 ≡ 0

  -- "and so is the whole part in which it lies, which begins at the announcing post or at one before it that has set": by ranks
  pub record PartFree (announcer : ℕ) : Type 0 where
    pub first : ℕ
    pub begins : part_ends (line_in s) b of_track.cvt first ≡ true
    pub has_set : first < set_count posts runs_up of_track.walk
    pub not_after : first ≤ announcer
    pub none_between : (k : ℕ) → first < k → k ≤ announcer → part_ends (line_in s) b of_track.cvt k ≡ false
    pub free_before : (j : ℕ) → first ≤ j → j ≤ announcer → suc j < posts → get_or of_track.trains (block posts runs_up j) 0 ≡ 0
    pub free_beyond : (j : ℕ) → announcer ≤ j → suc j < posts → ((k : ℕ) → announcer < k → k ≤ j → part_ends (line_in s) b of_track.cvt k ≡ false)
        → get_or of_track.trains (block posts runs_up j) 0 ≡ 0

  pub record ReplyNotNeeded : Type 0 where
    pub track_free : TrackFree
    pub part_free : (p : ℕ) → of_track.walk ≡ Turn p Announce → PartFree (rank posts runs_up p)

-- ## By telephone

module _ (c : Line) (e : Site) where
  -- "by telephone every post but the receiving end commands a part, and it is the block section ahead": i of post i upward, of post i+1 downward
  pub record OneSectionAhead : Type 0 where
    pub upward_commands : upward e.track e.cvt ≡ true → suc e.post < c.posts → commands c e ≡ true
    pub upward_watches : upward e.track e.cvt ≡ true → suc e.post < c.posts
        → (trains : List ℕ) → watched_occupied c e trains ≡ is_train (get_or trains e.post 0)
    pub downward_commands : upward e.track e.cvt ≡ false → (i : ℕ) → e.post ≡ suc i → commands c e ≡ true
    pub downward_watches : upward e.track e.cvt ≡ false → (i : ℕ) → e.post ≡ suc i
        → (trains : List ℕ) → watched_occupied c e trains ≡ is_train (get_or trains i 0)
    -- the receiving end: the last post upward, post 0 downward
    pub upward_end : upward e.track e.cvt ≡ true → suc e.post ≡ c.posts → commands c e ≡ false
    pub downward_end : upward e.track e.cvt ≡ false → e.post ≡ 0 → commands c e ≡ false
    pub end_watches_none : commands c e ≡ false → (trains : List ℕ) → watched_occupied c e trains ≡ false

-- ## Ranges

-- a section in its ranges stays so along every list
abbrev pub InRangeAlong : Type 0
InRangeAlong = (s : Section) → in_range s ≡ true → (offered : List (List ℕ)) → in_range (state_after s offered) ≡ true

-- "a reached state never gives 6": malformed bytes get 4, a step is judged by the table
pub record NextIsJudged (end : Section) : Type 0 where
  pub malformed : (bytes : List ℕ) → decoded end.settings.posts bytes ≡ None
      → judge end bytes ≡ record { verdict = Err Malformed; section = end }
  pub by_the_table : (bytes : List ℕ) (x : TrackStep) → decoded end.settings.posts bytes ≡ Some x → judge end bytes ≡ judge_step end x

-- ## Cells past post n−1 or block section n−2

-- "a cell past post n−1 or block section n−2 is never changed"
pub record KeepsCellsPast (s after : Section) : Type 0 where
  pub posts_a : (p : ℕ) → s.settings.posts ≤ p → post_on after.a p ≡ post_on s.a p
  pub posts_b : (p : ℕ) → s.settings.posts ≤ p → post_on after.b p ≡ post_on s.b p
  pub trains_a : (i : ℕ) → s.settings.posts ≤ suc i → get_or after.a.trains i 0 ≡ get_or s.a.trains i 0
  pub trains_b : (i : ℕ) → s.settings.posts ≤ suc i → get_or after.b.trains i 0 ≡ get_or s.b.trains i 0
  pub last_a : (i : ℕ) → s.settings.posts ≤ suc i → get_or after.a.last i 0 ≡ get_or s.a.last i 0
  pub last_b : (i : ℕ) → s.settings.posts ≤ suc i → get_or after.b.last i 0 ≡ get_or s.b.last i 0

-- the answers to a list, one after another
abbrev pub answers : Section → List (List ℕ) → List Verdict
answers s [] = []
answers s (bytes ∷ offered) = (judge s bytes).verdict ∷ answers (judge s bytes).section offered

-- anything at all in the cells of a post p and a block section i: of a track, and of that track of a section
abbrev pub overwritten_on : Track → ℕ → Post → ℕ → ℕ → ℕ → Track
overwritten_on t p o i train last = record {
  posts = set t.posts p o;
  trains = set t.trains i train;
  last = set t.last i last;
  cvt = t.cvt;
  walk = t.walk;
}

abbrev pub overwritten : Section → Bool → ℕ → Post → ℕ → ℕ → ℕ → Section
overwritten s b p o i train last = with_track s b (overwritten_on (track_of s b) p o i train last)

-- what two sections have in common: settings, direction, walk, and every cell below
pub record SameToTheEye (s u : Section) : Type 0 where
  pub settings : s.settings ≡ u.settings
  pub cvt : (b : Bool) → (track_of s b).cvt ≡ (track_of u b).cvt
  pub walk : (b : Bool) → (track_of s b).walk ≡ (track_of u b).walk
  pub posts : (b : Bool) (p : ℕ) → p < s.settings.posts → post_on (track_of s b) p ≡ post_on (track_of u b) p
  pub trains : (b : Bool) (i : ℕ) → suc i < s.settings.posts → get_or (track_of s b).trains i 0 ≡ get_or (track_of u b).trains i 0
  pub last : (b : Bool) (i : ℕ) → suc i < s.settings.posts → get_or (track_of s b).last i 0 ≡ get_or (track_of u b).last i 0

-- "two sections that differ only in such cells get the same verdicts, differ only there afterwards, and show the same at every post"
pub record NeverMatters (s u : Section) : Type 0 where
  pub same_answers : (offered : List (List ℕ)) → answers u offered ≡ answers s offered
  pub same_afterwards : (offered : List (List ℕ)) → SameToTheEye (state_after u offered) (state_after s offered)
  pub same_shown : (offered : List (List ℕ)) (track post : ℕ)
      → indications (state_after u offered) track post ≡ indications (state_after s offered) track post
  -- every check of a step at a post of the section finds the same
  pub same_checks : (x : TrackStep) → post_of x.step < s.settings.posts
      → checks (line_in s) x.step (site_of u x) (occupancy_of u x) ≡ checks (line_in s) x.step (site_of s x) (occupancy_of s x)

-- a cell past the end may hold anything
abbrev pub CellsPastNeverMatter : Type 0
CellsPastNeverMatter =
    (s : Section) (b : Bool) (p : ℕ) (o : Post) (i train last : ℕ) → s.settings.posts ≤ p → s.settings.posts ≤ suc i
    → NeverMatters s (overwritten s b p o i train last)
