-- Cells past post n−1 or block section n−2 are not tested. Every test over cells asks only for those that the section has, so two sections
-- that agree on these are both in range or both out of it, a post sees the same in both, and a step gets the same verdict and the same effect.
-- Stored in both, that effect leaves them in agreement.
use Prim.Native.Nat.{ℕ, zero, suc, ◌+◌, ◌-◌, ◌<◌}
use mathlib.Core.Bool.{Bool, true, false, cond, not, ◌&&◌, ◌||◌}
use mathlib.Core.Path.{◌≡◌, refl, sym, ap, ap₂, ◌∙◌, subst}
use mathlib.Core.List.{List}
use native.Mathlib.Omega.{arith}
use lib.ListN.{get_or, length, length-set}
use lib.Dec.{eqb, ltb, leb}
use borrow.Author.Tests.{ltb-true}
use Rattle.std.specs.Prelude.{Ok, Err, Some, None, Option}
use Rattle.section.specs.declared.Refusal.TheVariants.{OutOfRange}
use Rattle.section.specs.declared.Answer.{Answer}
use Rattle.section.specs.declared.Post.{Post}
use Rattle.section.specs.declared.Section.{Section}
use Rattle.section.specs.declared.Settings.{Settings}
use Rattle.section.specs.declared.Step.{Step}
use Rattle.section.specs.declared.Track.{Track}
use Rattle.section.specs.declared.TrackStep.{TrackStep}
use Rattle.section.specs.Refusal.{Verdict}
use Rattle.section.proofs.Codec.{decoded_post_below}
use Rattle.section.specs.Numbers.{largest_train}
use Rattle.section.specs.Post.{blank}
use Rattle.section.specs.Range.{post_in_range, posts_in_range, numbers_in_range, track_in_range, in_range}
use Rattle.section.specs.Step.{decoded, stands_on, kind_of, post_of, number_of}
use Rattle.section.specs.Store.{track_of, post_on}
use Rattle.section.proofs.Laws.{rank_lt, block_lt, and_right}
use Rattle.rules.specs.declared.Line.{Line}
use Rattle.rules.specs.declared.Site.{Site}
use Rattle.rules.specs.declared.Movement.{Movement}
use Rattle.rules.specs.declared.Movement.TheVariants.{Stays, Enters, Moves, Leaves}
use Rattle.rules.specs.Line.{line_of, line_in}
use Rattle.rules.specs.Site.{site_on, Other, other_on, is_train, is_number, any_of, reach, holds_train, up_at, rank_at, at_sending_end}
use Rattle.rules.specs.Site.{at_receiving_end, block_ahead, block_before, stretch_ends, train_at}
use Rattle.rules.specs.Site.{watched_occupied, train_before, last_entered, Occupancy, occupancy_at}
use Rattle.rules.specs.Table.{effect, vacated, cells_after, track_after}
use Rattle.rules.specs.Judge.{answer_of, site_of, occupancy_of, verdict_on, track_after_on, section_after, judge_step, judge_decoded, judge_in_range, judge}
use Rattle.rules.specs.Indications.{lamps_at, shown, indications_on, indications, dark}
use Rattle.rules.specs.CellsPast.{SameBelow, AgreeBelow, CellsPastNotTested}
use Rattle.rules.proofs.Facts.{by_track, ahead_lt, before_lt, first_cells, set_alike}
use Rattle.rules.proofs.Frame.{vacated_length, cells_length}

-- ## Tests over cells

-- the same in the first m cells
abbrev AlikeFirst : ℕ → List ℕ → List ℕ → Type 0
AlikeFirst m l k = (i : ℕ) → i < m → get_or l i 0 ≡ get_or k i 0

-- the same in every block section that a section of n posts has
abbrev AlikeBelow : ℕ → List ℕ → List ℕ → Type 0
AlikeBelow n l k = (i : ℕ) → suc i < n → get_or l i 0 ≡ get_or k i 0

posts_alike : (m : ℕ) (l k : List Post) → ((p : ℕ) → p < m → get_or l p blank ≡ get_or k p blank) → posts_in_range m l ≡ posts_in_range m k
unfolding posts_in_range
posts_alike = first_cells posts_in_range blank (λ o rest. post_in_range o && rest) (λ l k. refl) (λ m l. refl)

numbers_alike : (m : ℕ) (l k : List ℕ) → AlikeFirst m l k → numbers_in_range m l ≡ numbers_in_range m k
unfolding numbers_in_range
numbers_alike = first_cells numbers_in_range 0 (λ z rest. leb z largest_train && rest) (λ l k. refl) (λ m l. refl)

any_alike : (test : ℕ → Bool) (m : ℕ) (l k : List ℕ) → AlikeFirst m l k → any_of test m l ≡ any_of test m k
unfolding any_of
any_alike test = first_cells (any_of test) 0 (λ z rest. test z || rest) (λ l k. refl) (λ m l. refl)

holds_alike : (ends : ℕ → Bool) (f g : ℕ → ℕ) (m j : ℕ) → ((i : ℕ) → i < j + m → f i ≡ g i) → holds_train ends f m j ≡ holds_train ends g m j
unfolding reach
holds_alike ends f g zero j h = refl
holds_alike ends f g (suc m) j h = rw (h j (omega arith), holds_alike ends f g m (suc j) (λ i k. h i (omega arith))) refl

-- a value that is looked at only where the test says so
where_true : {A : Type 0} (x y : Bool) (a b d : A) → (x ≡ true → a ≡ b) → x ≡ y → cond x a d ≡ cond y b d
where_true true y a b d h e = rw (← e) (h refl)
where_true false y a b d h e = rw (← e) refl

where_false : {A : Type 0} (x : Bool) (d a b : A) → (x ≡ false → a ≡ b) → cond x d a ≡ cond x d b
where_false true d a b h = refl
where_false false d a b h = h refl

-- ## What a post sees

module _ (c : Line) (e : Site) (below : e.post < c.posts) (l k : List ℕ) (same : AlikeBelow c.posts l k) where
  ahead_alike : at_receiving_end c e ≡ false → get_or l (block_ahead c e) 0 ≡ get_or k (block_ahead c e) 0
  ahead_alike q = same _ (ahead_lt c.posts (up_at c e) e.post below q)

  -- a stretch or a part that begins at the post
  reach_alike : (ends : ℕ → Bool) → holds_train ends (train_at c e.track e.cvt l) (c.posts - suc (rank_at c e)) (rank_at c e)
      ≡ holds_train ends (train_at c e.track e.cvt k) (c.posts - suc (rank_at c e)) (rank_at c e)
  reach_alike ends =
      holds_alike ends (train_at c e.track e.cvt l) (train_at c e.track e.cvt k) _ _
      (λ i h. same _ (block_lt c.posts (up_at c e) i (omega (arith, rank_lt c.posts (up_at c e) e.post below))))

  watched_alike : watched_occupied c e l ≡ watched_occupied c e k
  unfolding watched_occupied
  watched_alike = simp reach_alike refl

  occupied_alike : (lamps_at c e l).occupied ≡ (lamps_at c e k).occupied
  unfolding lamps_at
  occupied_alike = watched_alike

  lamps_alike : lamps_at c e l ≡ lamps_at c e k
  unfolding lamps_at
  lamps_alike = rw occupied_alike refl

  before_alike : train_before c e l ≡ train_before c e k
  unfolding train_before
  before_alike = where_false (at_sending_end c e) 0 _ _ (λ q. same _ (before_lt c.posts (up_at c e) e.post below q))

  entered_alike : last_entered c e l ≡ last_entered c e k
  unfolding last_entered
  entered_alike = where_false (at_receiving_end c e) 0 _ _ ahead_alike

module _ (c : Line) (o : Other) (e : Site) (below : e.post < c.posts) (number : ℕ) (trains trains' last last' : List ℕ)
    (same : AlikeBelow c.posts trains trains') (same-last : AlikeBelow c.posts last last') where
  abbrev one : Occupancy
  one = occupancy_at c o e number trains last

  abbrev other : Occupancy
  other = occupancy_at c o e number trains' last'

  anywhere_alike : one.anywhere ≡ other.anywhere
  unfolding occupancy_at
  anywhere_alike = any_alike is_train _ trains trains' (λ i h. same i (omega arith))

  number_alike : one.number_on_track ≡ other.number_on_track
  unfolding occupancy_at
  number_alike = any_alike (is_number number) _ trains trains' (λ i h. same i (omega arith))

  stretch_alike : one.stretch_occupied ≡ other.stretch_occupied
  unfolding occupancy_at
  stretch_alike = reach_alike c e below trains trains' same (stretch_ends c e.track e.cvt)

  occupancy_alike : one ≡ other
  unfolding occupancy_at
  occupancy_alike =
      rw (watched_alike c e below trains trains' same, before_alike c e below trains trains' same, entered_alike c e below last last' same-last)
      (rw (anywhere_alike, stretch_alike, number_alike) refl)

-- ## The ranges

track_alike : (n : ℕ) (b : Bool) (t u : Track) → SameBelow n t u → track_in_range n b t ≡ track_in_range n b u
unfolding track_in_range
track_alike n b t u a =
    rw (
      posts_alike n t.posts u.posts a.cells.posts,
      numbers_alike (n - 1) t.trains u.trains (λ i h. a.cells.trains i (omega arith)),
      numbers_alike (n - 1) t.last u.last (λ i h. a.cells.last i (omega arith)),
      a.cvt,
      a.walk,
    ) refl

-- ## What a step stores

module _ (c : Line) (e : Site) where
  vacated_alike : (clears : Bool) (l k : List ℕ) → length l ≡ length k → (i : ℕ) → get_or l i 0 ≡ get_or k i 0
      → get_or (vacated c clears e l) i 0 ≡ get_or (vacated c clears e k) i 0
  vacated_alike true l k q i h = set_alike l k (block_before c e) i 0 0 q h
  vacated_alike false l k q i h = h

  cells_alike : (clears : Bool) (m : Movement) (l k : List ℕ) → length l ≡ length k → (i : ℕ) → get_or l i 0 ≡ get_or k i 0
      → get_or (cells_after c clears m e l) i 0 ≡ get_or (cells_after c clears m e k) i 0
  unfolding cells_after
  cells_alike clears Stays l k q i h = h
  cells_alike clears (Enters z) l k q i h = set_alike l k _ i _ 0 q h
  cells_alike clears (Moves z) l k q i h =
      set_alike (vacated c clears e l) (vacated c clears e k) (block_ahead c e) i z 0
      (vacated_length c clears e l ∙ q ∙ sym (vacated_length c clears e k)) (vacated_alike clears l k q i h)
  cells_alike clears Leaves l k q i h = vacated_alike clears l k q i h

  after_alike : (x : Step) (t u : Track) → SameBelow c.posts t u → SameBelow c.posts (track_after c x e t) (track_after c x e u)
  unfolding track_after
  after_alike x t u a = record {
    cvt = refl;
    walk = refl;
    cells = record {
      posts = λ p h. set_alike t.posts u.posts _ p _ blank a.sizes.posts (a.cells.posts p h);
      trains = λ i h. cells_alike true (effect c x e).train t.trains u.trains a.sizes.trains i (a.cells.trains i h);
      last = λ i h. cells_alike false (effect c x e).train t.last u.last a.sizes.last i (a.cells.last i h);
    };
    sizes = record {
      posts = simp length-set a.sizes.posts;
      trains = simp (cells_length c true (effect c x e).train e) a.sizes.trains;
      last = simp (cells_length c false (effect c x e).train e) a.sizes.last;
    };
  }

-- ## Two sections that agree

record AnsweredAlike (y z : Answer) : Type 0 where
  verdict : y.verdict ≡ z.verdict
  section : AgreeBelow y.section z.section

module _ (s u : Section) (a : AgreeBelow s u) where
  abbrev n : ℕ
  n = s.settings.posts

  range_alike : in_range s ≡ in_range u
  unfolding in_range
  range_alike =
      rw (track_alike n false s.a u.a (a.tracks false), track_alike n true s.b u.b (a.tracks true)) (rw a.settings refl)

  own_alike : (b : Bool) (p : ℕ) → p < s.settings.posts → post_on (track_of s b) p ≡ post_on (track_of u b) p
  own_alike b p h = (a.tracks b).cells.posts _ h

  site_alike : (b : Bool) (p : ℕ) → p < s.settings.posts → site_on b p (track_of s b) ≡ site_on b p (track_of u b)
  site_alike b p h = rw (own_alike b p h, (a.tracks b).cvt, (a.tracks b).walk) refl

  other_alike : (b : Bool) → other_on (track_of s b) ≡ other_on (track_of u b)
  other_alike b = rw ((a.tracks b).cvt, (a.tracks b).walk) refl

  answer_alike : (v : Verdict) (s₁ u₁ : Section) → AgreeBelow s₁ u₁ → AnsweredAlike (answer_of v s s₁) (answer_of v u u₁)
  unfolding answer_of
  answer_alike (Ok said) s₁ u₁ h = record { verdict = refl; section = h }
  answer_alike (Err k) s₁ u₁ h = record { verdict = refl; section = a }

  module _ (x : TrackStep) (below : post_of x.step < s.settings.posts) where
    sites : site_of s x ≡ site_of u x
    sites = site_alike x.track (post_of x.step) below

    occupancies : occupancy_of s x ≡ occupancy_of u x
    occupancies =
        occupancy_alike (line_in s) (other_on (track_of s (not x.track))) (site_of s x) below (number_of x.step)
        (track_of s x.track).trains (track_of u x.track).trains
        (track_of s x.track).last (track_of u x.track).last (a.tracks x.track).cells.trains (a.tracks x.track).cells.last
        ∙ rw (other_alike (not x.track), sites, a.settings) refl

    verdict_alike : verdict_on s x ≡ verdict_on u x
    unfolding verdict_on
    verdict_alike = rw (occupancies, sites, a.settings) refl

    track_after_lem : (b : Bool) → SameBelow n (track_after_on s x b) (track_after_on u x b)
    unfolding track_after_on
    track_after_lem b = go (stands_on (kind_of x.step) x.track b)
      where
        p : ℕ
        p = post_of x.step

        e : Site
        e = site_on b p (track_of s b)

        same_line : track_after (line_in s) x.step e (track_of u b) ≡ track_after (line_in u) x.step (site_on b p (track_of u b)) (track_of u b)
        same_line =
            ap₂ (λ (k : Settings) (y : Site). track_after (line_of k) x.step y (track_of u b)) a.settings (site_alike b p below)

        go : (stands : Bool) → SameBelow n (cond stands (track_after (line_in s) x.step e (track_of s b)) (track_of s b))
            (cond stands (track_after (line_in u) x.step (site_on b p (track_of u b)) (track_of u b)) (track_of u b))
        go true = subst (SameBelow n (track_after (line_in s) x.step e (track_of s b))) same_line
            (after_alike (line_in s) e x.step (track_of s b) (track_of u b) (a.tracks b))
        go false = a.tracks b

    section_after_lem : AgreeBelow (section_after s x) (section_after u x)
    unfolding section_after
    section_after_lem = record {
      settings = a.settings;
      tracks =
          by_track (λ b. SameBelow n (track_of (section_after s x) b) (track_of (section_after u x) b)) true (track_after_lem true)
          (track_after_lem false);
    }

    step_alike : AnsweredAlike (judge_step s x) (judge_step u x)
    unfolding judge_step
    step_alike = rw verdict_alike (answer_alike (verdict_on u x) (section_after s x) (section_after u x) section_after_lem)

  -- ## Judging

  decoded_alike : (d : Option TrackStep) → ((x : TrackStep) → d ≡ Some x → post_of x.step < s.settings.posts)
      → AnsweredAlike (judge_decoded s d) (judge_decoded u d)
  unfolding judge_decoded
  decoded_alike (Some x) h = step_alike x (h x refl)
  decoded_alike None h = record { verdict = refl; section = a }

  judge_alike : (bytes : List ℕ) → AnsweredAlike (judge s bytes) (judge u bytes)
  unfolding judge judge_in_range
  judge_alike bytes = rw (range_alike, ap (λ (c : Settings). decoded c.posts bytes) a.settings) (go (in_range u))
    where
      said : Option TrackStep
      said = decoded u.settings.posts bytes

      go : (r : Bool) → AnsweredAlike (cond r (judge_decoded s said) (record { verdict = Err OutOfRange; section = s }))
          (cond r (judge_decoded u said) (record { verdict = Err OutOfRange; section = u }))
      go true = decoded_alike said (λ x d. rw a.settings (decoded_post_below u.settings.posts bytes x d))
      go false = record { verdict = refl; section = a }

  -- ## What a post shows

  on_track_alike : (b : Bool) (p : ℕ) → p < s.settings.posts → indications_on s b p ≡ indications_on u b p
  unfolding indications_on
  on_track_alike b p h =
      ap shown (lamps_alike (line_in s) (site_on b p (track_of s b)) h (track_of s b).trains (track_of u b).trains (a.tracks b).cells.trains
      ∙ rw (site_alike b p h, a.settings) refl)

  indications_alike : (track post : ℕ) → indications s track post ≡ indications u track post
  unfolding indications
  indications_alike track post =
      where_true _ _ _ _ dark
      (λ q. on_track_alike (eqb track 1) post (ltb-true post s.settings.posts (and_right (ltb track 2) _ (and_right (in_range s) _ q))))
      (ap₂ (λ (r : Bool) (c : Settings). r && (ltb track 2 && ltb post c.posts)) range_alike a.settings)

pub cells_past_not_tested : CellsPastNotTested
cells_past_not_tested s u a = record {
  sites = sites s u a;
  occupancies = occupancies s u a;
  verdicts = λ bytes. (judge_alike s u a bytes).verdict;
  sections = λ bytes. (judge_alike s u a bytes).section;
  shows = indications_alike s u a;
}
