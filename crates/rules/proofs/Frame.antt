-- What a step leaves alone, by its kind: its effect is computed, once for each kind. A step of a reversal moves no train; any other step leaves
-- the walk and the running direction.
use Prim.Native.Nat.{ℕ}
use mathlib.Core.Bool.{Bool, true, false, false≢true}
use mathlib.Core.Path.{◌≡◌, refl, ◌∙◌}
use mathlib.Core.List.{List}
use lib.ListN.{length, length-set}
use lib.Dec.{eqb}
use borrow.Author.Tests.{eqb-true}
use Rattle.section.specs.declared.Fault.TheVariants.{One, Two, Three, Four}
use Rattle.section.specs.declared.Act.{Act}
use Rattle.section.specs.declared.Act.TheVariants as act
use Rattle.section.specs.declared.Walk.{Walk}
use Rattle.section.specs.declared.Walk.TheVariants.{Settled, Turn}
use Rattle.section.specs.declared.Said.TheVariants.{Nothing}
use Rattle.section.proofs.Laws.{and_left, and_right}
use Rattle.rules.specs.declared.Line.{Line}
use Rattle.rules.specs.declared.Site.{Site}
use Rattle.rules.specs.declared.Effect.{Effect}
use Rattle.rules.specs.declared.Movement.{Movement}
use Rattle.rules.specs.declared.Movement.TheVariants.{Stays, Enters, Moves, Leaves}
use Rattle.rules.specs.Site.{same_act, is_turn, is_settled, block_ahead, block_before}
use Rattle.rules.specs.Table.{effect, vacated, cells_after}
use Rattle.rules.proofs.View.{order, set_device, announce, acknowledge, key, Motion, start, pass, leave, measures, fault, caution, View, walks, runs}
use Rattle.rules.proofs.View.{notes, releases, flat}

-- moves no train
abbrev pub moves_no_train : View → Bool
moves_no_train (walks r) = true
moves_no_train (runs m z) = false
moves_no_train (notes k) = true
moves_no_train (releases z) = true

-- leaves the walk, the running direction and the permission alone, and says nothing
abbrev pub keeps_running : View → Bool
keeps_running (walks r) = false
keeps_running (runs m z) = true
keeps_running (notes k) = true
keeps_running (releases z) = true

-- goes on with a train that is on the track already
abbrev pub onward : Motion → Bool
onward start = false
onward pass = true
onward leave = true

-- ## Tests on the walk

same_act_lem : (a a' : Act) → same_act a a' ≡ true → a ≡ a'
same_act_lem act.Set act.Set h = refl
same_act_lem act.Set act.Announce h = absurd (false≢true h)
same_act_lem act.Set act.Acknowledge h = absurd (false≢true h)
same_act_lem act.Announce act.Set h = absurd (false≢true h)
same_act_lem act.Announce act.Announce h = refl
same_act_lem act.Announce act.Acknowledge h = absurd (false≢true h)
same_act_lem act.Acknowledge act.Set h = absurd (false≢true h)
same_act_lem act.Acknowledge act.Announce h = absurd (false≢true h)
same_act_lem act.Acknowledge act.Acknowledge h = refl

pub is_turn_lem : (w : Walk) (p : ℕ) (a : Act) → is_turn w p a ≡ true → w ≡ Turn p a
is_turn_lem Settled p a h = absurd (false≢true h)
is_turn_lem (Turn q a') p a h =
    rw (eqb-true q p (and_left (eqb q p) (same_act a' a) h), same_act_lem a' a (and_right (eqb q p) (same_act a' a) h)) refl

pub is_settled_lem : (w : Walk) → is_settled w ≡ true → w ≡ Settled
is_settled_lem Settled h = refl
is_settled_lem (Turn p a) h = absurd (false≢true h)

-- ## Lengths

module _ (c : Line) where
  pub vacated_length : (clears : Bool) (e : Site) (l : List ℕ) → length (vacated c clears e l) ≡ length l
  vacated_length true e l = length-set l (block_before c e) 0
  vacated_length false e l = refl

  pub cells_length : (clears : Bool) (m : Movement) (e : Site) (l : List ℕ) → length (cells_after c clears m e l) ≡ length l
  unfolding cells_after
  cells_length clears Stays e l = refl
  cells_length clears (Enters z) e l = length-set l (block_ahead c e) z
  cells_length clears (Moves z) e l = length-set (vacated c clears e l) (block_ahead c e) z ∙ vacated_length clears e l
  cells_length clears Leaves e l = vacated_length clears e l

  -- ## Effects

  pub no_movement : (p : ℕ) (k : View) (e : Site) → moves_no_train k ≡ true → (effect c (flat p k) e).train ≡ Stays
  unfolding effect flat
  no_movement p (walks order) e i = refl
  no_movement p (walks set_device) e i = refl
  no_movement p (walks announce) e i = refl
  no_movement p (walks acknowledge) e i = refl
  no_movement p (walks key) e i = refl
  no_movement p (runs m z) e i = absurd (false≢true i)
  no_movement p (notes (measures true)) e i = refl
  no_movement p (notes (measures false)) e i = refl
  no_movement p (notes (fault true f)) e i = refl
  no_movement p (notes (fault false f)) e i = refl
  no_movement p (notes (caution z)) e i = refl
  no_movement p (releases z) e i = refl

  pub record KeepsRunning (e : Site) (x : Effect) : Type 0 where
    pub walk : x.walk ≡ e.walk
    pub cvt : x.cvt ≡ e.cvt
    pub said : x.said ≡ Nothing
    pub permission : x.own.permission ≡ e.own.permission
    pub seals : x.own.seals ≡ e.own.seals

  pub running_kept : (p : ℕ) (k : View) (e : Site) → keeps_running k ≡ true → KeepsRunning e (effect c (flat p k) e)
  unfolding effect flat
  running_kept p (walks r) e i = absurd (false≢true i)
  running_kept p (runs start z) e i = record { walk = refl; cvt = refl; said = refl; permission = refl; seals = refl }
  running_kept p (runs pass z) e i = record { walk = refl; cvt = refl; said = refl; permission = refl; seals = refl }
  running_kept p (runs leave z) e i = record { walk = refl; cvt = refl; said = refl; permission = refl; seals = refl }
  running_kept p (notes (measures true)) e i = record { walk = refl; cvt = refl; said = refl; permission = refl; seals = refl }
  running_kept p (notes (measures false)) e i = record { walk = refl; cvt = refl; said = refl; permission = refl; seals = refl }
  running_kept p (notes (fault true f)) e i = record { walk = refl; cvt = refl; said = refl; permission = refl; seals = refl }
  running_kept p (notes (fault false One)) e i = record { walk = refl; cvt = refl; said = refl; permission = refl; seals = refl }
  running_kept p (notes (fault false Two)) e i = record { walk = refl; cvt = refl; said = refl; permission = refl; seals = refl }
  running_kept p (notes (fault false Three)) e i = record { walk = refl; cvt = refl; said = refl; permission = refl; seals = refl }
  running_kept p (notes (fault false Four)) e i = record { walk = refl; cvt = refl; said = refl; permission = refl; seals = refl }
  running_kept p (notes (caution z)) e i = record { walk = refl; cvt = refl; said = refl; permission = refl; seals = refl }
  running_kept p (releases z) e i = record { walk = refl; cvt = refl; said = refl; permission = refl; seals = refl }
