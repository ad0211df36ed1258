-- A text that was copied to the front of a buffer: what the answer tells of it, and what stands in the buffer.
use Prim.Native.Nat.{ℕ, ◌-◌, ◌≤◌}
use mathlib.Core.Path.{◌≡◌, refl, sym, ◌∙◌}
use mathlib.Core.Bool.{Bool, true, false, cond}
use mathlib.Core.List.{List}
use native.Mathlib.Omega.{arith}
use lib.Dec.{ltb}
use lib.ListN.{length, take, drop, length-append}
use lib.Seq.{take-append_seam, length-take-le}
use borrow.Author.Tests.{ltb-false, le-ltb}
use Rattle.std.specs.Prelude.{Ok, Err}
use Rattle.section.specs.declared.CallRefusal.TheVariants.{NoRoom}
use Rattle.section.specs.Refusal.{Outcome}
use Rattle.section.specs.Outcome.{if_done}
use Rattle.section.proofs.Outcomes.{refused_not_done, same_done}
use Rattle.text.specs.Copied.{copied, copied_out}

-- a text that fits is copied
pub copied_whole : (t b : List ℕ) → length t ≤ length b → copied t b ≡ Ok (length t)
unfolding copied
copied_whole t b h = rw (le-ltb (length b) (length t) h)

module _ (t b : List ℕ) (r : Outcome) (e : r ≡ copied t b) where
  -- the answer Done: it counts the text, which fits
  pub fits : (k : ℕ) → r ≡ Ok k → (k ≡ length t) × (length t ≤ length b)
  unfolding copied
  fits k p = go (ltb (length b) (length t)) refl (sym p ∙ e) where
    go : (v : Bool) → ltb (length b) (length t) ≡ v → Ok k ≡ cond v (Err NoRoom) (Ok (length t)) → (k ≡ length t) × (length t ≤ length b)
    go true q h = absurd (refused_not_done NoRoom k (sym h))
    go false q h = (same_done k (length t) h, ltb-false (length b) (length t) q)

  -- so many bytes are there
  pub within : (k : ℕ) (b' : List ℕ) → r ≡ Ok k → b' ≡ copied_out t b → k ≤ length b'
  unfolding copied_out if_done
  within k b' p q = rw (q, (fits k p).0, copied_whole t b (fits k p).1) (simp length-append (omega arith))

  -- the text stands at the buffer's front, so a part of its length is the text
  pub part : (k : ℕ) (b' : List ℕ) → r ≡ Ok k → b' ≡ copied_out t b → take (k - 0) (drop 0 b') ≡ t
  unfolding copied_out if_done
  part k b' p q =
      let z : k - 0 ≡ k = omega arith in
      rw (z, q, (fits k p).0, copied_whole t b (fits k p).1) (take-append_seam t (drop (length t) b))

  -- so many bytes lie within a buffer that kept its length
  pub bytes_counted : (after : List ℕ) (k : ℕ) → r ≡ Ok k → length after ≡ length b → (k ≤ length after) × (k ≡ length (take k after))
  bytes_counted after k p q =
      let h : k ≤ length after = omega (arith, (fits k p).0, (fits k p).1) in
      (h, sym (length-take-le k after h))
