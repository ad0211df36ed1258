-- Demand 3 in plain words (docs/SAFETY.md, "In plain words"): a record for each of its points, in the bytes of steps and the cells of tracks.
-- `in_plain_words` (proofs/InPlainWords.antt) draws them from the statement `Demand3` alone, and every clause of that statement is used by one of
-- them: where a clause is dropped or says less, one of these falls.
use Rattle.std.specs.Prelude.{ℕ, suc, ◌+◌, ◌-◌, ◌*◌, ◌<◌, Bool, true, false, cond, ◌&&◌, ◌≡◌, ◌⊎◌, ◌≢◌, get_or, length, take, eqb, leb}
use mathlib.Core.List.{List, [], ◌∷◌, ◌++◌, map, Memᴰ}
use Rattle.std.proofs.Math.Option.{none, some}
use Rattle.std.specs.Prelude.{Ok}
use Rattle.section.specs.declared.Act.{Act}
use Rattle.section.specs.declared.Said.{Said}
use Rattle.section.specs.declared.Said.TheVariants.{Nothing, Cvt, Cvtz, Vns, Vnsz}
use Rattle.section.specs.declared.Section.{Section}
use Rattle.section.specs.declared.Settings.{Settings}
use Rattle.section.specs.declared.Track.{Track}
use Rattle.section.specs.declared.Walk.TheVariants.{Settled, Turn}
use Rattle.section.specs.Bytes.{byte}
use Rattle.section.specs.Fresh.{fresh_section}
use Rattle.section.specs.Store.{track_of, post_on}
use Rattle.rules.specs.Judge.{judge}
use Rattle.rules.specs.Demand3.{state_after, AcceptedStep, accepted_steps, keep, Run, runs_of, under_way}

-- ## Words

-- the end post from which trains enter a track of n posts: post 0 on A in VNS and on B in CVT, else the last
abbrev pub entry_post : ℕ → Bool → Bool → ℕ
entry_post n false false = 0
entry_post n false true = n - 1
entry_post n true false = n - 1
entry_post n true true = 0

-- the byte of a track
abbrev pub track_byte : Bool → ℕ
track_byte false = 0
track_byte true = 1

-- byte 1 is the track, byte 2 the post
abbrev pub is_at_post : Bool → ℕ → AcceptedStep → Bool
is_at_post b p d = eqb (byte d.bytes 1) (track_byte b) && eqb (byte d.bytes 2) p

-- byte 0 is 5, 6 or 7, a start, a pass or a leave; bytes 4 and 5 are the number
abbrev pub moves_train : ℕ → AcceptedStep → Bool
moves_train z d = (leb 5 (byte d.bytes 0) && leb (byte d.bytes 0) 7) && eqb (byte d.bytes 4 + byte d.bytes 5 * 256) z

-- the steps at which something is said, in sequence
abbrev pub spoken_at : Said → AcceptedStep → List AcceptedStep
spoken_at Nothing d = []
spoken_at Cvt d = d ∷ []
spoken_at Cvtz d = d ∷ []
spoken_at Vns d = d ∷ []
spoken_at Vnsz d = d ∷ []

abbrev pub spoken : List AcceptedStep → List AcceptedStep
spoken [] = []
spoken (d ∷ ds) = spoken_at d.said d ++ spoken ds

-- how many of the steps pass a test
abbrev pub how_many : (AcceptedStep → Bool) → List AcceptedStep → ℕ
how_many test [] = 0
how_many test (d ∷ ds) = cond (test d) 1 0 + how_many test ds

-- the bytes of steps, to be offered again
abbrev pub bytes_of_all : List AcceptedStep → List (List ℕ)
bytes_of_all ds = map (λ (d : AcceptedStep). d.bytes) ds

-- two tracks keep the same in every field
pub record SameTrack (t u : Track) : Type 0 where
  pub posts : t.posts ≡ u.posts
  pub trains : t.trains ≡ u.trains
  pub last : t.last ≡ u.last
  pub cvt : t.cvt ≡ u.cvt
  pub walk : t.walk ≡ u.walk

module _ (c : Settings) (offered : List (List ℕ)) where
  -- at the end of the list, from fresh: the section, and what was accepted
  abbrev pub end : Section
  end = state_after (fresh_section c) offered

  abbrev pub accepted : List AcceptedStep
  accepted = accepted_steps (fresh_section c) offered

  -- the number that block section i of a track shows
  abbrev pub shown_in : Bool → ℕ → ℕ
  shown_in b i = get_or (track_of end b).trains i 0

  -- r is a run of train z on the track, and it has not left
  pub record OnTrackNow (b : Bool) (z : ℕ) (r : Run) : Type 0 where
    pub a_run : Memᴰ r (runs_of b z accepted)
    pub not_left : r.left ≡ none

  -- ## Trains on the track

  -- "A train that has started on a track and has not left stands in exactly one block section: the one beside the post where it started, or
  -- one further for each pass. No other block section of that track shows its number"
  pub record StandsInOne (b : Bool) (z : ℕ) (r : Run) : Type 0 where
    pub section : ℕ
    pub of_the_line : suc section < c.posts
    pub shows : shown_in b section ≡ z
    pub no_other : (i : ℕ) → suc i < c.posts → shown_in b i ≡ z → i ≡ section
    pub from_an_end : (r.from ≡ 0) ⊎ (r.from ≡ c.posts - 1)
    pub from_first : r.from ≡ 0 → section ≡ length r.passed
    pub from_last : r.from ≡ c.posts - 1 → section + length r.passed ≡ c.posts - 2

  -- "and a block section without such a train shows none": a number that is shown is that of a train that stands there
  pub record IsThere (b : Bool) (i z : ℕ) : Type 0 where
    pub run : Run
    pub on_track : OnTrackNow b z run
    pub stands : StandsInOne b z run
    pub here : i ≡ stands.section

  pub record NoTrainLost : Type 0 where
    pub in_one : (b : Bool) (z : ℕ) (r : Run) → OnTrackNow b z r → StandsInOne b z r
    pub none_else : (b : Bool) (i z : ℕ) → suc i < c.posts → shown_in b i ≡ z → z ≢ 0 → IsThere b i z
    -- "doubled": no number stands in two block sections
    pub not_twice : (b : Bool) (i j : ℕ) → suc i < c.posts → suc j < c.posts → shown_in b i ≢ 0 → shown_in b i ≡ shown_in b j → i ≡ j
    -- one run after another: where a number has a later run, the earlier has left
    pub one_at_a_time : (b : Bool) (z : ℕ) (r q : Run) (earlier : List Run)
        → runs_of b z accepted ≡ r ∷ earlier → Memᴰ q earlier → (p : ℕ) × (q.left ≡ some p)

  -- ## Trains that have left

  -- "A train that has left passed each post between the ends, once, in turn, and left at the other end."
  pub record WentUp (r : Run) (leave : ℕ) : Type 0 where
    pub began : r.from ≡ 0
    pub passes : length r.passed ≡ c.posts - 2
    pub in_turn : (k : ℕ) → k < c.posts - 2 → get_or r.passed k 0 ≡ suc k
    pub ended : leave ≡ c.posts - 1

  pub record WentDown (r : Run) (leave : ℕ) : Type 0 where
    pub began : r.from ≡ c.posts - 1
    pub passes : length r.passed ≡ c.posts - 2
    pub in_turn : (k : ℕ) → k < c.posts - 2 → get_or r.passed k 0 ≡ c.posts - 2 - k
    pub ended : leave ≡ 0

  abbrev pub LeftAtTheOtherEnd : Type 0
  LeftAtTheOtherEnd =
      (b : Bool) (z : ℕ) (r : Run) (leave : ℕ) → Memᴰ r (runs_of b z accepted) → r.left ≡ some leave → WentUp r leave ⊎ WentDown r leave

  -- ## One way

  -- "All trains on a track started at the same end, so two trains never face each other."
  pub record NeverFaceEachOther : Type 0 where
    pub same_start : (b : Bool) (y z : ℕ) (r q : Run) → OnTrackNow b y r → OnTrackNow b z q → r.from ≡ q.from
    pub at_the_entry : (b : Bool) (z : ℕ) (r : Run) → OnTrackNow b z r → r.from ≡ entry_post c.posts b (track_of end b).cvt

  -- ## Who may start trains

  abbrev pub HasPermission : Bool → ℕ → Type 0
  HasPermission b p = (p < c.posts) × ((post_on (track_of end b) p).permission ≡ true)

  -- a start (byte 0 is 5) with some number, offered next, is accepted
  pub record StartsNext (b : Bool) (p : ℕ) : Type 0 where
    pub bytes : List ℕ
    pub said : Said
    pub a_start : byte bytes 0 ≡ 5
    pub on_track : byte bytes 1 ≡ track_byte b
    pub at_post : byte bytes 2 ≡ p
    pub is_accepted : (judge end bytes).verdict ≡ Ok said

  -- "At most one post of a track has permission, or could start a train next. It is the sending end; in a reversal there is none."
  pub record OneMayStart : Type 0 where
    pub one_permission : (b : Bool) (p q : ℕ) → HasPermission b p → HasPermission b q → p ≡ q
    pub one_start : (b : Bool) (p q : ℕ) → StartsNext b p → StartsNext b q → p ≡ q
    pub same_post : (b : Bool) (p q : ℕ) → StartsNext b p → HasPermission b q → p ≡ q
    pub permission_at_entry : (b : Bool) (p : ℕ) → HasPermission b p → p ≡ entry_post c.posts b (track_of end b).cvt
    pub start_at_entry : (b : Bool) (p : ℕ) → StartsNext b p → p ≡ entry_post c.posts b (track_of end b).cvt
    pub no_permission_in_reversal : (b : Bool) (p q : ℕ) (act : Act) → (track_of end b).walk ≡ Turn q act → HasPermission b p → ⊥
    pub no_start_in_reversal : (b : Bool) (p q : ℕ) (act : Act) → (track_of end b).walk ≡ Turn q act → StartsNext b p → ⊥
    -- by the accepted steps a reversal is under way where the state says so
    pub reversal_under_way : (b : Bool) (q : ℕ) (act : Act) → (track_of end b).walk ≡ Turn q act → under_way c.posts b accepted ≡ true
    pub not_under_way : (b : Bool) → (track_of end b).walk ≡ Settled → under_way c.posts b accepted ≡ false

  -- ## Another order

  -- "every train does the same things in the same sequence, every post does on each track, the posts say the same words in the same sequence,
  -- the end is the same, and in that telling every reversal finds its track empty from its order to its last set."
  pub record ToldAnew : Type 0 where
    pub order : List AcceptedStep
    -- the same steps, each as often
    pub same_steps : (test : AcceptedStep → Bool) → how_many test order ≡ how_many test accepted
    pub same_at_posts : (b : Bool) (p : ℕ) → keep (is_at_post b p) order ≡ keep (is_at_post b p) accepted
    pub same_of_trains : (z : ℕ) → keep (moves_train z) order ≡ keep (moves_train z) accepted
    pub same_words : spoken order ≡ spoken accepted
    -- offered from fresh, each is accepted again and says what it said
    pub accepted_again : accepted_steps (fresh_section c) (bytes_of_all order) ≡ order
    -- the end, field by field
    pub same_settings : (state_after (fresh_section c) (bytes_of_all order)).settings ≡ end.settings
    pub same_a : SameTrack (state_after (fresh_section c) (bytes_of_all order)).a end.a
    pub same_b : SameTrack (state_after (fresh_section c) (bytes_of_all order)).b end.b
    -- after each of its steps: where a reversal is under way, no block section shows a train
    pub track_empty : (k : ℕ) (b : Bool) (q : ℕ) (act : Act) → (track_of (state_after (fresh_section c) (bytes_of_all (take k order))) b).walk ≡ Turn q act
        → (i : ℕ) → suc i < c.posts → get_or (track_of (state_after (fresh_section c) (bytes_of_all (take k order))) b).trains i 0 ≡ 0

  -- "If no reversal is under way, the day can be told in another order"
  abbrev pub InAnotherOrder : Type 0
  InAnotherOrder = ((b : Bool) → (track_of end b).walk ≡ Settled) → ToldAnew

  -- ## All of it

  pub record InPlainWords : Type 0 where
    pub trains_stand_in_one : NoTrainLost
    pub trains_leave_at_the_other_end : LeftAtTheOtherEnd
    pub trains_never_face_each_other : NeverFaceEachOther
    pub one_post_may_start : OneMayStart
    pub told_in_another_order : InAnotherOrder
