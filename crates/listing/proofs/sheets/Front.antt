-- A text put at the front of a buffer.
use Prim.Native.Nat.{ℕ, ◌-◌, ◌≤◌}
use mathlib.Core.Path.{◌≡◌, refl, sym, ◌∙◌, ap}
use mathlib.Core.List.{List}
use native.Mathlib.Omega.{arith}
use lib.ListN.{length, take, drop, length-append}
use lib.Seq.{take_at}
use Rattle.std.specs.Prelude.{Ok}
use Rattle.section.specs.Outcome.{if_done}
use Rattle.text.specs.Text.{written}
use Rattle.text.proofs.CopiedOut.{copied_whole}
use Rattle.text.proofs.Laws.{at_front}
use Rattle.text.specs.Copied.{copied, copied_out}

-- ## At the front of a buffer

-- what was put at the front of a buffer that kept its length: it fits, and is the buffer's front
module _ (l m s : List ℕ) (r : ℕ) (put : (r ≡ length s) × (m ≡ written l 0 s)) where
  pub front_fits : length m ≡ length l → r ≤ length m
  front_fits e = omega (arith, put.0, simp length-append at (ap length (sym (put.1 ∙ at_front l s)) ∙ refl))

  pub front_taken : take (r - 0) (drop 0 m) ≡ s
  front_taken =
      let e : r - 0 ≡ length s = omega (arith, put.0) in
      ap (λ (k : ℕ). take k m) e ∙ ap (take (length s)) (put.1 ∙ at_front l s) ∙ take_at s (drop (length s) l) (length s) refl

-- ## What is copied out

-- a text put at its front
pub put_at_once :
    (l m s : List ℕ) (r : ℕ) → (r ≡ length s) × (m ≡ written l 0 s) → length m ≡ length l
    → (Ok r ≡ copied s l) × (m ≡ copied_out s l)
unfolding copied_out if_done
put_at_once l m s r put e =
    let h : length s ≤ length l = omega (arith, put.0, front_fits l m s r put e) in
    rw (copied_whole s l h) (ap Ok put.0, put.1 ∙ at_front l s)
