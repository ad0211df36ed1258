-- "Cells past post n−1 or block section n−2 are neither tested nor changed.": of every section, reachable or not, in range or not, and all
-- bytes. `cells_past_kept` (proofs/CellsKept.antt) and `cells_past_not_tested` (proofs/CellsNotTested.antt) prove it.
use Rattle.std.specs.Prelude.{ℕ, suc, ◌≤◌, ◌<◌, Bool, ◌≡◌, List, get_or, length}
use Rattle.section.specs.declared.Section.{Section}
use Rattle.section.specs.declared.Track.{Track}
use Rattle.section.specs.declared.TrackStep.{TrackStep}
use Rattle.section.specs.Step.{post_of}
use Rattle.section.specs.Store.{track_of, post_on}
use Rattle.rules.specs.Indications.{indications}
use Rattle.rules.specs.Judge.{site_of, occupancy_of, judge}

-- two states of a track keep the same at the posts that `At` picks, and in the block section just below each: block section i lies between
-- posts i and i+1
pub record SameCells (At : ℕ → Type 0) (t u : Track) : Type 0 where
  pub posts : (p : ℕ) → At p → post_on t p ≡ post_on u p
  pub trains : (i : ℕ) → At (suc i) → get_or t.trains i 0 ≡ get_or u.trains i 0
  pub last : (i : ℕ) → At (suc i) → get_or t.last i 0 ≡ get_or u.last i 0

-- ## Not changed

-- from post n and block section n−1 on
abbrev pub SamePast : ℕ → Track → Track → Type 0
SamePast n = SameCells (λ p. n ≤ p)

pub record KeptPast (n : ℕ) (s u : Section) : Type 0 where
  pub tracks : (b : Bool) → SamePast n (track_of s b) (track_of u b)

abbrev pub CellsPastKept : Type 0
CellsPastKept = (s : Section) (bytes : List ℕ) → KeptPast s.settings.posts (judge s bytes).section s

-- ## Not tested

-- in the code the lists of a track are arrays, each of one length; a list that is too short would not take a store
pub record SameSizes (t u : Track) : Type 0 where
  pub posts : length t.posts ≡ length u.posts
  pub trains : length t.trains ≡ length u.trains
  pub last : length t.last ≡ length u.last

-- two states of a track differ only in cells past post n−1 or block section n−2
pub record SameBelow (n : ℕ) (t u : Track) : Type 0 where
  pub cvt : t.cvt ≡ u.cvt
  pub walk : t.walk ≡ u.walk
  pub cells : SameCells (λ p. p < n) t u
  pub sizes : SameSizes t u

-- two sections differ only there
pub record AgreeBelow (s u : Section) : Type 0 where
  pub settings : s.settings ≡ u.settings
  pub tracks : (b : Bool) → SameBelow s.settings.posts (track_of s b) (track_of u b)

pub record TestedAlike (s u : Section) : Type 0 where
  -- what a step at a post of the section looks at
  pub sites : (x : TrackStep) → post_of x.step < s.settings.posts → site_of s x ≡ site_of u x
  pub occupancies : (x : TrackStep) → post_of x.step < s.settings.posts → occupancy_of s x ≡ occupancy_of u x
  -- what is answered to all bytes, and the sections afterwards
  pub verdicts : (bytes : List ℕ) → (judge s bytes).verdict ≡ (judge u bytes).verdict
  pub sections : (bytes : List ℕ) → AgreeBelow (judge s bytes).section (judge u bytes).section
  -- what every post shows
  pub shows : (track post : ℕ) → indications s track post ≡ indications u track post

abbrev pub CellsPastNotTested : Type 0
CellsPastNotTested = (s u : Section) → AgreeBelow s u → TestedAlike s u
