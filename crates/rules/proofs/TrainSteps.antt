-- A train's own steps, as the statement of demand 3 reads them off the bytes, in terms of the step's view: the bytes of a well-formed step give
-- its kind, track, post and number back, so each test of the statement is a test of the view.
use Prim.Native.Nat.{ℕ}
use mathlib.Core.Bool.{Bool, true, false, cond, ◌&&◌, beq}
use mathlib.Core.Path.{◌≡◌, refl, sym, ap, ◌∙◌}
use mathlib.Core.List.{List}
use lib.Dec.{eqb}
use Rattle.section.specs.Bytes.{within}
use Rattle.section.specs.Step.{is_train_kind, kind_of, number_of}
use Rattle.rules.specs.Demand3.{AcceptedStep, kind, post, number, is_on_track, is_step_of_train, is_of_train, is_of_post, Run, note_step}
use Rattle.rules.proofs.View.{order, set_device, announce, acknowledge, key, Motion, start, pass, leave, measures, fault, caution}
use Rattle.rules.proofs.View.{View, walks, runs, notes, releases, flat, post_flat, on, as_step}
use Rattle.rules.proofs.Reading.{Says}
use Rattle.rules.proofs.Runs.{note_motion}

-- a step of train z
abbrev pub of_train : ℕ → View → Bool
of_train z (walks r) = false
of_train z (runs m y) = eqb y z
of_train z (notes k) = false
of_train z (releases y) = false

-- a train's step at post p, noted in its runs
abbrev pub note_view : View → ℕ → List Run → List Run
note_view (walks r) p rs = rs
note_view (runs m y) p rs = note_motion m p rs
note_view (notes k) p rs = rs
note_view (releases y) p rs = rs

note_kind : (p : ℕ) (m : Motion) (y : ℕ) (rs : List Run) → note_step (kind_of (flat p (runs m y))) p rs ≡ note_motion m p rs
unfolding kind_of flat
note_kind p start y rs = refl
note_kind p pass y rs = refl
note_kind p leave y rs = refl

-- kinds 5 to 7 are the motions
train_kind : (p z number : ℕ) (k : View) → number_of (flat p k) ≡ number → (is_train_kind (kind_of (flat p k)) && eqb number z) ≡ of_train z k
unfolding within kind_of number_of flat
train_kind p z number (walks order) e = refl
train_kind p z number (walks set_device) e = refl
train_kind p z number (walks announce) e = refl
train_kind p z number (walks acknowledge) e = refl
train_kind p z number (walks key) e = refl
train_kind p z number (runs start y) e = rw e refl
train_kind p z number (runs pass y) e = rw e refl
train_kind p z number (runs leave y) e = rw e refl
train_kind p z number (notes (measures true)) e = refl
train_kind p z number (notes (measures false)) e = refl
train_kind p z number (notes (fault true f)) e = refl
train_kind p z number (notes (fault false f)) e = refl
train_kind p z number (notes (caution y)) e = refl
train_kind p z number (releases y) e = refl

module _ (n : ℕ) (d : AcceptedStep) (t : Bool) (q : ℕ) (v : View) (h : Says n d.bytes (as_step (on t q v))) where
  post_said : post d ≡ q
  post_said = sym h.fields.post_is ∙ post_flat q v

  pub own_test : (z : ℕ) → is_step_of_train z d ≡ of_train z v
  own_test z = rw (← h.fields.kind_is) (train_kind q z (number d) v h.fields.number_is)

  -- on its track alone
  pub track_test : (b : Bool) → is_on_track b d ≡ beq t b
  track_test b = rw (← h.track_is) refl

  pub post_test_lem : (b : Bool) (p : ℕ) → is_of_post b p d ≡ (beq t b && eqb q p)
  post_test_lem b p = rw (track_test b, post_said) refl

  train_test : (b : Bool) (z : ℕ) → is_of_train b z d ≡ (beq t b && of_train z v)
  train_test b z = rw (track_test b, own_test z) refl

  -- one that is of no train counts for nothing
  pub note_test : (b : Bool) (z : ℕ) (rs : List Run)
      → cond (is_of_train b z d) (note_step (kind d) (post d) rs) rs ≡ cond (beq t b && of_train z v) (note_view v q rs) rs
  note_test b z rs = rw (train_test b z, post_said, ← h.fields.kind_is) (go v (beq t b))
    where
      go : (k : View) (w : Bool) → cond (w && of_train z k) (note_step (kind_of (flat q k)) q rs) rs ≡ cond (w && of_train z k) (note_view k q rs) rs
      go (walks r) false = refl
      go (walks r) true = refl
      go (runs m y) w = ap (λ l. cond (w && eqb y z) l rs) (note_kind q m y rs)
      go (notes k) false = refl
      go (notes k) true = refl
      go (releases y) false = refl
      go (releases y) true = refl
