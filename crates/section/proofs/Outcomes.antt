-- The index of an outcome, and what an outcome is not.
use Prim.Native.Nat.{ℕ}
use mathlib.Core.Bool.{Bool, true, false, cond}
use mathlib.Core.Path.{◌≡◌, refl}
use native.Mathlib.Omega.{arith}
use Rattle.std.specs.Prelude.{Result, Ok, Err}
use Rattle.section.specs.declared.CallRefusal.{CallRefusal}
use Rattle.section.specs.declared.CallRefusal.TheVariants.{WrongLength, WrongTrailer, WrongSettings, MalformedStep, NoRoom, StateOutOfRange}
use Rattle.section.specs.Refusal.{call_figure, index_of, refusal_by}
use Rattle.section.specs.Outcome.{refusal_number, refusal_index, IndexOnlyForFour}

no_other_index : (refusal : CallRefusal) → (call_figure refusal ≡ 4 → ⊥) → index_of refusal ≡ 0
unfolding call_figure index_of
no_other_index WrongLength e = refl
no_other_index WrongTrailer e = refl
no_other_index WrongSettings e = refl
no_other_index (MalformedStep index) e = absurd (e refl)
no_other_index NoRoom e = refl
no_other_index StateOutOfRange e = refl

pub index_only_for_four : {A : Type 0} → IndexOnlyForFour A
unfolding refusal_by refusal_index
index_only_for_four (Ok done) e = refl
index_only_for_four (Err refusal) e = no_other_index refusal e

-- ## 4 comes with its index, along an order of tests

module _ {A : Type 0} (index : ℕ) where
  abbrev pub FourHasIt : Result A CallRefusal → Type 0
  FourHasIt outcome = refusal_number outcome ≡ 4 → refusal_index outcome ≡ index

  -- a test that refuses by another number
  pub other_refusal :
      (b : Bool) (refusal : CallRefusal) (rest : Result A CallRefusal) → (call_figure refusal ≡ 4 → ⊥) → FourHasIt rest → FourHasIt (cond b (Err refusal) rest)
  unfolding refusal_by
  other_refusal true refusal rest other later e = absurd (other e)
  other_refusal false refusal rest other later e = later e

  -- that of the steps
  pub step_refusal : (b : Bool) (rest : Result A CallRefusal) → FourHasIt rest → FourHasIt (cond b (Err (MalformedStep index)) rest)
  unfolding refusal_index index_of
  step_refusal true rest later e = refl
  step_refusal false rest later e = later e

  pub no_refusal : (done : A) → FourHasIt (Ok done)
  unfolding refusal_by
  no_refusal done e = absurd (omega arith)

-- ## A call that is done, with whatever value, has passed its tests

module _ {A : Type 0} where
  pub refused_not_done : (refusal : CallRefusal) (done : A) → ◌≡◌ {A = Result A CallRefusal} (Err refusal) (Ok done) → ⊥
  refused_not_done refusal done e = let z : ◌≡◌ {A = ℕ} 0 1 = cc in omega arith

  pub same_done : (one other : A) → ◌≡◌ {A = Result A CallRefusal} (Ok one) (Ok other) → one ≡ other
  same_done one other e = cc

  pub past_refusal :
      (b : Bool) (refusal : CallRefusal) (done : A) (rest : Result A CallRefusal) → cond b (Err refusal) rest ≡ Ok done
      → (b ≡ false) × (rest ≡ Ok done)
  past_refusal true refusal done rest e = absurd (refused_not_done refusal done e)
  past_refusal false refusal done rest e = (refl, e)
