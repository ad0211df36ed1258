-- What a reversal has cleared of its track, apart from how many posts have set: a post that commands a part has set only when it saw all of it
-- free; one that commands none relies on the post before it. So a block section is cleared where no part ends from the first post that has not
-- set up to it. The proofs use it by its laws alone: nothing is cleared on a settled track or at an order; all is up to the turn; a set adds
-- the part that its post commands, an announcement and an acknowledgement nothing; before the last set it is all there is.
use Prim.Native.Nat.{ℕ, suc, ◌≤◌, ◌<◌}
use mathlib.Core.Bool.{Bool, true, false, false≢true}
use mathlib.Core.Path.{◌≡◌, refl, sym, ◌∙◌}
use mathlib.Core.Logic.{◌⊎◌, inl, inr}
use native.Mathlib.Omega.{arith}
use native.Mathlib.Decide.{ℕ_discrete, dec_lt}
use Rattle.section.specs.declared.Act.{Act}
use Rattle.section.specs.declared.Act.TheVariants as act
use Rattle.section.specs.declared.Walk.{Walk}
use Rattle.section.specs.declared.Walk.TheVariants.{Settled, Turn}
use Rattle.section.specs.Geometry.{upward}
use Rattle.rules.specs.declared.Line.{Line}
use Rattle.rules.specs.Site.{part_ends}
use Rattle.rules.specs.Indications.{set_count}
use Rattle.rules.proofs.Facts.{true_or_false}
use Rattle.rules.proofs.Stretches.{NoEnd}
use Rattle.rules.proofs.NextPost.{NextOpen}
use Rattle.rules.proofs.Parts.{LineRight, only_open_ends}
use Rattle.rules.proofs.Ranges.{rank_on}

module _ (c : Line) (b : Bool) where
  -- the block section that follows the post of rank j
  unfoldable pub Cleared : Bool → Walk → ℕ → Type 0
  Cleared cvt w j = (k : ℕ) → set_count c.posts (upward b cvt) w ≤ k → k ≤ j → part_ends c b cvt k ≡ false

  pub cleared_back : (cvt : Bool) (w : Walk) (i j : ℕ) → i ≤ j → Cleared cvt w j → Cleared cvt w i
  unfolding Cleared
  cleared_back cvt w i j ij h k count ki = h k count (omega arith)

  -- ## Nothing: a part begins at the sending end

  from_first : LineRight c → (cvt : Bool) (w : Walk) (j : ℕ) → set_count c.posts (upward b cvt) w ≡ 0 → Cleared cvt w j → ⊥
  unfolding Cleared
  from_first right cvt w j e h = false≢true (sym (h 0 (omega arith) (omega arith)) ∙ right.part_first b cvt)

  pub cleared_settled : LineRight c → (cvt : Bool) (j : ℕ) → Cleared cvt Settled j → ⊥
  unfolding set_count
  cleared_settled right cvt j h = from_first right cvt Settled j refl h

  pub cleared_order : LineRight c → (cvt : Bool) (p j : ℕ) → rank_on c b cvt p ≡ 0 → Cleared cvt (Turn p act.Set) j → ⊥
  unfolding set_count
  cleared_order right cvt p j e h = from_first right cvt (Turn p act.Set) j e h

  -- ## At a turn

  -- all before its post
  pub cleared_turn : (cvt : Bool) (p : ℕ) (a : Act) (j : ℕ) → j < rank_on c b cvt p → Cleared cvt (Turn p a) j
  unfolding Cleared set_count
  cleared_turn cvt p act.Set j h k count kj = absurd (omega arith)
  cleared_turn cvt p act.Announce j h k count kj = absurd (omega arith)
  cleared_turn cvt p act.Acknowledge j h k count kj = absurd (omega arith)

  -- the turn to set at the receiving end
  pub cleared_all : (cvt : Bool) (p j : ℕ) → suc (rank_on c b cvt p) ≡ c.posts → suc j < c.posts → Cleared cvt (Turn p act.Set) j
  cleared_all cvt p j e h = cleared_turn cvt p act.Set j (omega arith)

  -- the turn to announce: what is in one part with a block section up to the post's own
  pub cleared_announcer : (cvt : Bool) (p i j : ℕ) → i ≤ rank_on c b cvt p → NoEnd (part_ends c b cvt) i j → Cleared cvt (Turn p act.Announce) j
  unfolding Cleared set_count
  cleared_announcer cvt p i j h none k count kj = none k (omega arith) kj

  -- ## From a turn to the next

  -- in the part that begins at post p
  pub record OwnPart (cvt : Bool) (p j : ℕ) : Type 0 where
    pub begins : part_ends c b cvt (rank_on c b cvt p) ≡ true
    pub not_before : rank_on c b cvt p ≤ j
    pub same_part : NoEnd (part_ends c b cvt) (rank_on c b cvt p) j

  -- a set: what was cleared before it, and the post's own part
  pub cleared_set : (cvt : Bool) (p j : ℕ) → Cleared cvt (Turn p act.Announce) j → Cleared cvt (Turn p act.Set) j ⊎ OwnPart cvt p j
  unfolding Cleared set_count
  cleared_set cvt p j h = go (dec_lt j r) (true_or_false (part_ends c b cvt r))
    where
      r : ℕ
      r = rank_on c b cvt p

      at : part_ends c b cvt r ≡ false → (k : ℕ) → r ≤ k → k ≤ j → Dec (k ≡ r) → part_ends c b cvt k ≡ false
      at u k rk kj (yes e) = rw e u
      at u k rk kj (no ne) = h k (omega arith) kj

      go : Dec (j < r) → (part_ends c b cvt r ≡ true) ⊎ (part_ends c b cvt r ≡ false) → Cleared cvt (Turn p act.Set) j ⊎ OwnPart cvt p j
      go (yes l) d = inl (λ k rk kj. absurd (omega arith))
      go (no l) (inl u) = inr (record { begins = u; not_before = omega arith; same_part = λ k above upto. h k above upto })
      go (no l) (inr u) = inl (λ k rk kj. at u k rk kj (ℕ_discrete k r))

  -- an announcement: posts that the walk leaves out end no part
  pub cleared_announced : (cvt : Bool) (p q j : ℕ) → NextOpen c b cvt (rank_on c b cvt p) q
      → Cleared cvt (Turn q act.Acknowledge) j → Cleared cvt (Turn p act.Announce) j
  unfolding Cleared set_count
  cleared_announced cvt p q j next h k count kj = go (dec_lt k (rank_on c b cvt q))
    where
      go : Dec (k < rank_on c b cvt q) → part_ends c b cvt k ≡ false
      go (yes l) = only_open_ends c b cvt k (next.none_between k count l)
      go (no l) = h k (omega arith) kj

  pub cleared_acknowledged : (cvt : Bool) (p j : ℕ) → Cleared cvt (Turn p act.Set) j → Cleared cvt (Turn p act.Acknowledge) j
  unfolding Cleared set_count
  cleared_acknowledged cvt p j h = h
