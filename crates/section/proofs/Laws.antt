-- Laws that other crates cite: of ranks and block sections; what the ranges of a state say of each post and block section, both ways; that the
-- fresh section is in its ranges.
use Prim.Native.Nat.{ℕ, zero, suc, ◌-◌, ◌≤◌, ◌<◌}
use mathlib.Core.Bool.{Bool, true, false, cond, ◌&&◌, and-eq-true_iff}
use mathlib.Core.List.{List, [], ◌∷◌}
use mathlib.Core.Path.{◌≡◌, refl, sym, ◌∙◌}
use native.Mathlib.Nat.{not-suc-le-zero}
use native.Mathlib.Numerals.{add-one}
use native.Mathlib.Omega.{arith}
use lib.ListN.{get_or, set, replicate, get_or-replicate}
use lib.Dec.{ltb, leb, lit≤}
use borrow.Author.Count.{below_more}
use borrow.Author.Tests.{leb-true, le-leb, ltb-true, not-true}
use Rattle.section.specs.declared.Act.{Act}
use Rattle.section.specs.declared.Act.TheVariants.{Announce}
use Rattle.section.specs.declared.Post.{Post}
use Rattle.section.specs.declared.Section.{Section}
use Rattle.section.specs.declared.Settings.{Settings}
use Rattle.section.specs.declared.Track.{Track}
use Rattle.section.specs.declared.Walk.TheVariants.{Turn}
use Rattle.section.specs.Bytes.{within}
use Rattle.section.specs.Fresh.{fresh_track, fresh_section}
use Rattle.section.specs.Geometry.{upward, rank, block, is_last}
use Rattle.section.specs.Numbers.{least_posts, most_posts, most_blocks, most_seals, largest_train}
use Rattle.section.specs.Post.{blank, permitted}
use Rattle.section.specs.Range.{post_in_range, posts_in_range, numbers_in_range, act_in_range, walk_in_range, track_in_range, in_range}
use Rattle.section.specs.Settings.{settings_in_range}
use Rattle.section.specs.Store.{track_of}

-- ## Ranks and block sections

pub rank_lt : (n : ℕ) (up : Bool) (p : ℕ) → p < n → rank n up p < n
unfolding rank
rank_lt n true p h = h
rank_lt n false p h = omega arith

pub rank_rank : (n : ℕ) (up : Bool) (p : ℕ) → p < n → rank n up (rank n up p) ≡ p
unfolding rank
rank_rank n true p h = refl
rank_rank n false p h = omega arith

pub rank_inj : (n : ℕ) (up : Bool) (p q : ℕ) → p < n → q < n → rank n up p ≡ rank n up q → p ≡ q
unfolding rank
rank_inj n true p q h k e = e
rank_inj n false p q h k e = omega arith

pub block_inj : (n : ℕ) (up : Bool) (i j : ℕ) → suc i < n → suc j < n → block n up i ≡ block n up j → i ≡ j
unfolding block
block_inj n true i j h k e = e
block_inj n false i j h k e = omega arith

pub block_lt : (n : ℕ) (up : Bool) (i : ℕ) → suc i < n → suc (block n up i) < n
unfolding block
block_lt n true i h = h
block_lt n false i h = omega arith

pub block_block : (n : ℕ) (up : Bool) (i : ℕ) → suc i < n → block n up (block n up i) ≡ i
unfolding block
block_block n true i h = refl
block_block n false i h = omega arith

-- ## Two tests

-- they both hold
pub both : {a b : Bool} → a ≡ true → b ≡ true → (a && b) ≡ true
both {a} {b} h k = (and-eq-true_iff a b).1 (h, k)

pub and_parts : (a b : Bool) → (a && b) ≡ true → (a ≡ true) × (b ≡ true)
and_parts a b h = (and-eq-true_iff a b).0 h

pub and_left : (a b : Bool) → (a && b) ≡ true → a ≡ true
and_left a b h = (and_parts a b h).0

pub and_right : (a b : Bool) → (a && b) ≡ true → b ≡ true
and_right a b h = (and_parts a b h).1

-- ## A test of the first m cells

-- `fits m` says that `test` holds of each cell below m
module _ (test fits : ℕ → Bool) (none : fits zero ≡ true) (more : (m : ℕ) → fits (suc m) ≡ (test m && fits m)) where
  each : (m : ℕ) → fits m ≡ true → (i : ℕ) → i < m → test i ≡ true
  each zero h i k = absurd (not-suc-le-zero k)
  each (suc m) h i k =
      let parts = and_parts (test m) (fits m) (sym (more m) ∙ h) in
      below_more (λ (j : ℕ). test j ≡ true) m (each m parts.1) parts.0 i (rw add-one k)

  all : (m : ℕ) → ((i : ℕ) → i < m → test i ≡ true) → fits m ≡ true
  all zero h = none
  all (suc m) h = more m ∙ both (h m (omega arith)) (all m (λ i k. h i (omega arith)))

module _ (l : List Post) where
  post_test : ℕ → Bool
  post_test i = post_in_range (get_or l i blank)

  pub posts_each : (m : ℕ) → posts_in_range m l ≡ true → (p : ℕ) → p < m → post_in_range (get_or l p blank) ≡ true
  unfolding posts_in_range post_test
  posts_each m h p k = each post_test (λ (j : ℕ). posts_in_range j l) refl (λ j. refl) m h p k

  pub posts_all : (m : ℕ) → ((p : ℕ) → p < m → post_in_range (get_or l p blank) ≡ true) → posts_in_range m l ≡ true
  unfolding posts_in_range post_test
  posts_all m h = all post_test (λ (j : ℕ). posts_in_range j l) refl (λ j. refl) m h

-- what the range of a post's record says, both ways
module _ (o : Post) where
  pub seals_right : post_in_range o ≡ true → o.seals ≤ most_seals
  unfolding post_in_range
  seals_right h = leb-true _ _ (and_left (leb o.seals most_seals) (leb o.caution largest_train) h)

  pub caution_right : post_in_range o ≡ true → o.caution ≤ largest_train
  unfolding post_in_range
  caution_right h = leb-true _ _ (and_right (leb o.seals most_seals) (leb o.caution largest_train) h)

  pub post_in_range_lem : o.seals ≤ most_seals → o.caution ≤ largest_train → post_in_range o ≡ true
  unfolding post_in_range
  post_in_range_lem seals caution = both (le-leb _ _ seals) (le-leb _ _ caution)

module _ (l : List ℕ) where
  number_test : ℕ → Bool
  number_test i = leb (get_or l i 0) largest_train

  pub numbers_each : (m : ℕ) → numbers_in_range m l ≡ true → (i : ℕ) → i < m → get_or l i 0 ≤ largest_train
  unfolding numbers_in_range number_test
  numbers_each m h i k = leb-true _ _ (each number_test (λ (j : ℕ). numbers_in_range j l) refl (λ j. refl) m h i k)

  pub numbers_all : (m : ℕ) → ((i : ℕ) → i < m → get_or l i 0 ≤ largest_train) → numbers_in_range m l ≡ true
  unfolding numbers_in_range number_test
  numbers_all m h = all number_test (λ (j : ℕ). numbers_in_range j l) refl (λ j. refl) m (λ i k. le-leb _ _ (h i k))

-- ## The cells of a track

module _ (t : Track) where
  -- post i and the block section beside it
  abbrev pub cell_test : ℕ → Bool
  cell_test i = post_in_range (get_or t.posts i blank) && (leb (get_or t.trains i 0) largest_train && leb (get_or t.last i 0) largest_train)

  abbrev pub cells : ℕ → Bool
  cells m = posts_in_range m t.posts && (numbers_in_range m t.trains && numbers_in_range m t.last)

-- ## What the ranges say

regroup : (a b c d : Bool) → (a && (b && (c && d))) ≡ ((a && (b && c)) && d)
regroup true true c d = refl
regroup true false c d = refl
regroup false b c d = refl

pub track_cells :
    (n : ℕ) (track : Bool) (t : Track) →
    track_in_range n track t
    ≡ ((posts_in_range n t.posts && (numbers_in_range (n - 1) t.trains && numbers_in_range (n - 1) t.last))
    && walk_in_range n (upward track t.cvt) t.walk)
unfolding track_in_range
track_cells n track t =
    regroup (posts_in_range n t.posts) (numbers_in_range (n - 1) t.trains) (numbers_in_range (n - 1) t.last)
    (walk_in_range n (upward track t.cvt) t.walk)

pub posts_right : (c : Settings) → settings_in_range c ≡ true → (least_posts ≤ c.posts) × (c.posts ≤ most_posts)
unfolding settings_in_range within
posts_right c h =
    let least = leb least_posts c.posts in
    let most = leb c.posts most_posts in
    let r : (least && most) ≡ true = and_left _ _ h in
    (leb-true _ _ (and_left least most r), leb-true _ _ (and_right least most r))

-- a track in its ranges
pub record TrackRanges (n : ℕ) (track : Bool) (t : Track) : Type 0 where
  pub posts : (p : ℕ) → p < n → post_in_range (get_or t.posts p blank) ≡ true
  pub trains : (i : ℕ) → i < n - 1 → get_or t.trains i 0 ≤ largest_train
  pub last : (i : ℕ) → i < n - 1 → get_or t.last i 0 ≤ largest_train
  pub walk : walk_in_range n (upward track t.cvt) t.walk ≡ true

module _ (n : ℕ) (track : Bool) (t : Track) where
  pub track_ranges : track_in_range n track t ≡ true → TrackRanges n track t
  unfolding track_in_range
  track_ranges h =
      let walk = walk_in_range n (upward track t.cvt) t.walk in
      let last = numbers_in_range (n - 1) t.last in
      let trains = numbers_in_range (n - 1) t.trains in
      let one = and_parts (posts_in_range n t.posts) (trains && (last && walk)) h in
      let two = and_parts trains (last && walk) one.1 in
      let three = and_parts last walk two.1 in
      record {
        posts = posts_each t.posts n one.0;
        trains = numbers_each t.trains (n - 1) two.0;
        last = numbers_each t.last (n - 1) three.0;
        walk = three.1;
      }

  pub ranges_hold : TrackRanges n track t → track_in_range n track t ≡ true
  unfolding track_in_range
  ranges_hold r =
      both (posts_all t.posts n r.posts)
      (both (numbers_all t.trains (n - 1) r.trains) (both (numbers_all t.last (n - 1) r.last) r.walk))

-- the turn's post, and its act there
module _ (n : ℕ) (up : Bool) (p : ℕ) (act : Act) where
  pub turn_right : walk_in_range n up (Turn p act) ≡ true → (p < n) × (act_in_range n up p act ≡ true)
  unfolding walk_in_range
  turn_right h =
      let parts = and_parts (ltb p n) (act_in_range n up p act) h in
      (ltb-true _ _ parts.0, parts.1)

module _ (n : ℕ) (up : Bool) (p : ℕ) where
  pub announce_right : act_in_range n up p Announce ≡ true → is_last n up p ≡ false
  unfolding act_in_range
  announce_right h = not-true (is_last n up p) h

-- a section in its ranges: its settings, and each track
module _ (s : Section) where
  pub settings_in_range_lem : in_range s ≡ true → settings_in_range s.settings ≡ true
  unfolding in_range
  settings_in_range_lem h = and_left _ _ h

  tracks_in_range :
      in_range s ≡ true → (track_in_range s.settings.posts false s.a ≡ true) × (track_in_range s.settings.posts true s.b ≡ true)
  unfolding in_range
  tracks_in_range h =
      let a = track_in_range s.settings.posts false s.a in
      let b = track_in_range s.settings.posts true s.b in
      and_parts a b (and_right (settings_in_range s.settings) (a && b) h)

  pub track_in_range_lem : in_range s ≡ true → (track : Bool) → track_in_range s.settings.posts track (track_of s track) ≡ true
  track_in_range_lem h true = (tracks_in_range h).1
  track_in_range_lem h false = (tracks_in_range h).0

  pub section_in_range :
      settings_in_range s.settings ≡ true → ((track : Bool) → track_in_range s.settings.posts track (track_of s track) ≡ true) → in_range s ≡ true
  unfolding in_range
  section_in_range h tracks = both h (both (tracks false) (tracks true))

-- ## The fresh section

-- what holds of a cell and of what is put into a list holds of that cell afterwards
pub set_keeps {κ} :
    {A : Type 0} (P : A → Type κ) (l : List A) (i j : ℕ) (a d : A) → P (get_or l j d) → P a → P (get_or (set l i a) j d)
set_keeps P [] i j a d h k = h
set_keeps P (x ∷ l) zero zero a d h k = k
set_keeps P (x ∷ l) zero (suc j) a d h k = h
set_keeps P (x ∷ l) (suc i) zero a d h k = h
set_keeps P (x ∷ l) (suc i) (suc j) a d h k = set_keeps P l i j a d h k

fresh_track_ranges : (n : ℕ) (track : Bool) → n ≤ most_posts → TrackRanges n track (fresh_track n track)
unfolding fresh_track walk_in_range post_in_range
fresh_track_ranges n track h = record {
  posts = λ p k. set_keeps (λ (o : Post). post_in_range o ≡ true) (replicate most_posts blank) (cond track (n - 1) 0) p (permitted true blank) blank
      (rw (get_or-replicate most_posts p blank blank (omega arith)) refl) refl;
  trains = λ i k. rw (get_or-replicate {A = ℕ} most_blocks i 0 0 (omega arith)) (lit≤ tt);
  last = λ i k. rw (get_or-replicate {A = ℕ} most_blocks i 0 0 (omega arith)) (lit≤ tt);
  walk = refl;
}

fresh_tracks : (c : Settings) → c.posts ≤ most_posts → (track : Bool) → track_in_range c.posts track (track_of (fresh_section c) track) ≡ true
unfolding fresh_section
fresh_tracks c h true = ranges_hold c.posts true (fresh_track c.posts true) (fresh_track_ranges c.posts true h)
fresh_tracks c h false = ranges_hold c.posts false (fresh_track c.posts false) (fresh_track_ranges c.posts false h)

pub fresh_in_range : (c : Settings) → settings_in_range c ≡ true → in_range (fresh_section c) ≡ true
unfolding fresh_section
fresh_in_range c h = section_in_range (fresh_section c) h (fresh_tracks c (posts_right c h).1)
