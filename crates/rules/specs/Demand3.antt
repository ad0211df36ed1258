-- Demand 3, in the words of document 01's section "The words of demand 3". `demand3` (proofs/Theorem.antt) proves `Demand3 c offered` for all
-- well-formed settings c and all lists of offered byte strings.
use Rattle.std.specs.Prelude.{ℕ, zero, suc, ◌-◌, ◌<◌, Bool, true, false, cond, not, ◌&&◌, ◌||◌, ◌≡◌, ◌⊎◌, List, [], ◌∷◌, ◌++◌, get_or, length, eqb}
use Rattle.std.proofs.Math.Option.{Option, none, some}
use Rattle.std.specs.Prelude.{Ok, Err}
use Rattle.section.specs.declared.Settings.{Settings}
use Rattle.section.specs.declared.Said.{Said}
use Rattle.section.specs.declared.Said.TheVariants.{Nothing, Cvt, Cvtz, Vns, Vnsz}
use Rattle.section.specs.Refusal.{Verdict}
use Rattle.section.specs.declared.Track.{Track}
use Rattle.section.specs.declared.Section.{Section}
use Rattle.section.specs.Bytes.{byte, le16}
use Rattle.section.specs.Fresh.{fresh_section}
use Rattle.section.specs.Geometry.{upward, rank}
use Rattle.section.specs.Numbers.{order_kind, set_kind, start_kind, pass_kind, key_kind}
use Rattle.section.specs.Step.{is_train_kind, stands_on}
use Rattle.section.specs.Store.{track_of, post_on}
use Rattle.rules.specs.Judge.{judge}
use Rattle.rules.specs.Site.{is_settled}

-- ## The list, and what was accepted of it

-- "The first step gets the fresh section, each later one the state returned for the step before it, accepted or refused."
unfoldable pub state_after : Section → List (List ℕ) → Section
state_after s [] = s
state_after s (bytes ∷ offered) = state_after (judge s bytes).section offered

-- an accepted step: the bytes offered, and what was said
pub record AcceptedStep : Type 0 where
  pub bytes : List ℕ
  pub said : Said

-- by the answer alone
abbrev pub accepted_of : List ℕ → Verdict → List AcceptedStep
accepted_of bytes (Ok said) = record { bytes = bytes; said = said } ∷ []
accepted_of bytes (Err refusal) = []

unfoldable pub accepted_steps : Section → List (List ℕ) → List AcceptedStep
accepted_steps s [] = []
accepted_steps s (bytes ∷ offered) = accepted_of bytes (judge s bytes).verdict ++ accepted_steps (judge s bytes).section offered

-- ## What the bytes of a step say: its kind, its track (true for B), its post and its number

abbrev pub kind : AcceptedStep → ℕ
kind d = byte d.bytes 0

abbrev pub track : AcceptedStep → Bool
track d = eqb (byte d.bytes 1) 1

abbrev pub post : AcceptedStep → ℕ
post d = byte d.bytes 2

abbrev pub number : AcceptedStep → ℕ
number d = le16 (byte d.bytes 4) (byte d.bytes 5)

-- on one track
abbrev pub is_on_track : Bool → AcceptedStep → Bool
is_on_track b d = stands_on (kind d) (track d) b

-- "A train's own steps are its starts, passes and leaves"
abbrev pub is_step_of_train : ℕ → AcceptedStep → Bool
is_step_of_train z d = is_train_kind (kind d) && eqb (number d) z

-- those on one track
abbrev pub is_of_train : Bool → ℕ → AcceptedStep → Bool
is_of_train b z d = is_on_track b d && is_step_of_train z d

-- "every step, these too, is its post's own": on one track
abbrev pub is_of_post : Bool → ℕ → AcceptedStep → Bool
is_of_post b p d = is_on_track b d && eqb (post d) p

-- an announcement: something is said
abbrev pub is_spoken : Said → Bool
is_spoken Nothing = false
is_spoken Cvt = true
is_spoken Cvtz = true
is_spoken Vns = true
is_spoken Vnsz = true

abbrev pub is_announcement : AcceptedStep → Bool
is_announcement d = is_spoken d.said

-- ## Lists

module _ {A : Type 0} where
  -- the elements that pass a test, in sequence
  abbrev pub keep : (A → Bool) → List A → List A
  keep test [] = []
  keep test (x ∷ l) = cond (test x) (x ∷ keep test l) (keep test l)

  abbrev pub All : (A → Type 0) → List A → Type 0
  All P [] = Unit {0}
  All P (x ∷ l) = P x × All P l

  -- the same steps, each as often, in another order
  pub data Reordering : List A → List A → Type 0 where
    none_left : Reordering [] []
    same : (x : A) {l m : List A} → Reordering l m → Reordering (x ∷ l) (x ∷ m)
    swapped : (x y : A) (l : List A) → Reordering (x ∷ y ∷ l) (y ∷ x ∷ l)
    chained : {l m k : List A} → Reordering l m → Reordering m k → Reordering l k

-- ## Runs

-- "A train's run on a track begins with an accepted start of its number there and ends with the next accepted leave of that number there."
pub record Run : Type 0 where
  pub from : ℕ  -- the post of its start
  pub passed : List ℕ  -- the posts of its passes
  pub left : Option ℕ  -- the post of its leave

abbrev pub note_pass : ℕ → Option ℕ → Run → Run
note_pass p none r = record { from = r.from; passed = r.passed ++ (p ∷ []); left = none }
note_pass p (some q) r = r

abbrev pub note_leave : ℕ → Option ℕ → Run → Run
note_leave p none r = record { from = r.from; passed = r.passed; left = some p }
note_leave p (some q) r = r

abbrev pub latest : (Run → Run) → List Run → List Run
latest f [] = []
latest f (r ∷ earlier) = f r ∷ earlier

-- a step of the train, noted in its runs, the latest first: kind 5 starts one, 6 passes, 7 leaves
abbrev pub note_step : ℕ → ℕ → List Run → List Run
note_step k p runs =
    cond (eqb k start_kind) (record { from = p; passed = []; left = none } ∷ runs)
    (cond (eqb k pass_kind) (latest (λ r. note_pass p r.left r) runs)
    (latest (λ r. note_leave p r.left r) runs))

abbrev pub runs_from : List Run → List AcceptedStep → List Run
runs_from runs [] = runs
runs_from runs (d ∷ ds) = runs_from (note_step (kind d) (post d) runs) ds

-- the runs of the train z on a track, the latest first
unfoldable pub runs_of : Bool → ℕ → List AcceptedStep → List Run
runs_of b z ds = runs_from [] (keep (is_of_train b z) ds)

abbrev pub has_ended : Option ℕ → Bool
has_ended none = false
has_ended (some p) = true

-- "A number may have several runs, one after another": all but the latest have ended
abbrev pub OneAfterAnother : List Run → Type 0
OneAfterAnother [] = Unit {0}
OneAfterAnother (r ∷ earlier) = All (λ (q : Run). has_ended q.left ≡ true) earlier

-- ## Under way

-- the other end post
abbrev pub other_end : ℕ → ℕ → ℕ
other_end n p = cond (eqb p 0) (n - 1) 0

-- "from an accepted order to the accepted set or key at the last post": the last post of the reversal that runs, if one does. An order,
-- kind 1, is at the old sending end, so the last post is the other end; set is kind 2, key is kind 13.
abbrev pub ends_at : ℕ → Option ℕ → Option ℕ
ends_at p none = none
ends_at p (some q) = cond (eqb p q) none (some q)

abbrev pub note_reversal : ℕ → AcceptedStep → Option ℕ → Option ℕ
note_reversal n d r =
    cond (eqb (kind d) order_kind) (some (other_end n (post d)))
    (cond (eqb (kind d) set_kind || eqb (kind d) key_kind) (ends_at (post d) r) r)

abbrev pub reversal_from : ℕ → Option ℕ → List AcceptedStep → Option ℕ
reversal_from n r [] = r
reversal_from n r (d ∷ ds) = reversal_from n (note_reversal n d r) ds

abbrev pub runs? : Option ℕ → Bool
runs? none = false
runs? (some p) = true

-- a reversal is under way on the track after these accepted steps
unfoldable pub under_way : ℕ → Bool → List AcceptedStep → Bool
under_way n b ds = runs? (reversal_from n none (keep (is_on_track b) ds))

module _ (c : Settings) where
  -- ## Between the posts

  -- "in the block section beside the post of its start, or one further from that post for each accepted pass of its run"
  abbrev pub place_of : ℕ → ℕ → ℕ
  place_of from passes = cond (eqb from 0) passes (from - suc passes)

  -- the sending end of a track: the post of rank 0
  abbrev pub sending_end : Bool → Track → ℕ
  sending_end b t = rank c.posts (upward b t.cvt) 0

  -- a train whose run hasn't ended
  pub record BetweenThePosts (b : Bool) (t : Track) (z : ℕ) (r : Run) : Type 0 where
    -- "Trains run one way if all those on the track started at the same post, the sending end."
    pub one_way : r.from ≡ sending_end b t
    pub inside : suc (length r.passed) < c.posts
    -- "That block section, and no other on the track, keeps its number as its train"
    pub there : get_or t.trains (place_of r.from (length r.passed)) 0 ≡ z
    pub only : (i : ℕ) → suc i < c.posts → get_or t.trains i 0 ≡ z → i ≡ place_of r.from (length r.passed)

  -- "one without such a train keeps 0": block section i keeps 0, or the number of a train that is there
  pub record TrainThere (b : Bool) (t : Track) (ds : List AcceptedStep) (i : ℕ) : Type 0 where
    pub train : ℕ
    pub run : Run
    pub earlier : List Run
    pub runs_are : runs_of b train ds ≡ run ∷ earlier
    pub open_run : run.left ≡ none
    pub place : i ≡ place_of run.from (length run.passed)
    pub shown : get_or t.trains i 0 ≡ train

  -- ## Left at the far end

  -- the posts 1 .. m places from the post of the start, in turn
  abbrev pub in_turn : ℕ → ℕ → List ℕ
  in_turn from zero = []
  in_turn from (suc m) = in_turn from m ++ (rank c.posts (eqb from 0) (suc m) ∷ [])

  -- "its run has one accepted pass at each post between the ends, in turn, and its leave was at the end post where it didn't start"
  pub record LeftAtTheFarEnd (r : Run) (leave : ℕ) : Type 0 where
    pub began : (r.from ≡ 0) ⊎ (r.from ≡ c.posts - 1)
    pub through : r.passed ≡ in_turn r.from (c.posts - 2)
    pub far : leave ≡ other_end c.posts r.from

  -- "each train started is between the posts or has left at the far end"
  abbrev pub Fate : Bool → Track → ℕ → Run → Option ℕ → Type 0
  Fate b t z r none = BetweenThePosts b t z r
  Fate b t z r (some leave) = LeftAtTheFarEnd r leave

  -- ## May start trains

  -- "if it has start permission, or if a start with some number, offered there next, would be accepted"
  pub data MayStart (s : Section) (b : Bool) (p : ℕ) : Type 0 where
    permission : p < c.posts → (post_on (track_of s b) p).permission ≡ true → MayStart s b p
    start : (d : AcceptedStep) → kind d ≡ start_kind → track d ≡ b → post d ≡ p → (judge s d.bytes).verdict ≡ Ok d.said → MayStart s b p

  -- ## The claim for one track

  pub record OnTrack (s : Section) (ds : List AcceptedStep) (b : Bool) : Type 0 where
    pub fates : (z : ℕ) → All (λ (r : Run). Fate b (track_of s b) z r r.left) (runs_of b z ds)
    pub one_after_another : (z : ℕ) → OneAfterAnother (runs_of b z ds)
    pub kept : (i : ℕ) → suc i < c.posts → (get_or (track_of s b).trains i 0 ≡ 0) ⊎ TrainThere b (track_of s b) ds i
    pub one_starter : (p q : ℕ) → MayStart s b p → MayStart s b q → p ≡ q
    -- that post is the sending end, and there is none while a reversal is under way
    pub starter : (p : ℕ) → MayStart s b p → (p ≡ sending_end b (track_of s b)) × (under_way c.posts b ds ≡ false)
    -- "under way", over the accepted steps, agrees with the walk that the state keeps
    pub walk_agrees : under_way c.posts b ds ≡ not (is_settled (track_of s b).walk)

  -- ## The new order

  -- "after each step a track on which a reversal then runs holds no train"
  pub record NoTrainInReversal (done : List AcceptedStep) (s : Section) : Type 0 where
    pub empty :
        (b : Bool) → under_way c.posts b done ≡ true → (i : ℕ) → suc i < c.posts → get_or (track_of s b).trains i 0 ≡ 0

  -- from s, after the steps `done`, each step is accepted and says what it said; the end is `end`
  unfoldable pub Performs : Section → List AcceptedStep → List AcceptedStep → Section → Type 0
  Performs s done [] end = s ≡ end
  Performs s done (d ∷ ds) end =
      ((judge s d.bytes).verdict ≡ Ok d.said)
      × NoTrainInReversal (done ++ (d ∷ [])) (judge s d.bytes).section
      × Performs (judge s d.bytes).section (done ++ (d ∷ [])) ds end

  pub record NewOrder (ds : List AcceptedStep) (s : Section) : Type 0 where
    pub order : List AcceptedStep
    -- "each accepted step stands once and nothing else does"
    pub each_once : Reordering order ds
    -- per track, each post's own steps in sequence
    pub posts_in_sequence : (b : Bool) (p : ℕ) → keep (is_of_post b p) order ≡ keep (is_of_post b p) ds
    -- each train's own steps in sequence, those of both tracks together
    pub trains_in_sequence : (z : ℕ) → keep (is_step_of_train z) order ≡ keep (is_step_of_train z) ds
    -- the announcements in the same sequence
    pub announcements : keep is_announcement order ≡ keep is_announcement ds
    -- "It begins on the same fresh section; the end state is the same in every field"
    pub performs : Performs (fresh_section c) [] order s

  -- ## The whole claim

  pub record Claim (s : Section) (ds : List AcceptedStep) : Type 0 where
    pub tracks : (b : Bool) → OnTrack s ds b
    pub reordered : ((b : Bool) → under_way c.posts b ds ≡ false) → NewOrder ds s

  unfoldable pub Demand3 : List (List ℕ) → Type 0
  Demand3 offered = Claim (state_after (fresh_section c) offered) (accepted_steps (fresh_section c) offered)
