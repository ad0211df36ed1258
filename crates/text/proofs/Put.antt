-- Texts put one after another are one text, while they fit the buffer.
use mathlib.Core.Path.{◌≡◌, refl, ◌∙◌, ap}
use mathlib.Core.List.{List, [], ◌++◌, append_assoc}
use Prim.Native.Nat.{ℕ, ◌+◌, ◌*◌, ◌<◌, ◌≤◌}
use native.Mathlib.Omega.{arith}
use native.Mathlib.Nat.{add_assoc, add-zero, mul-suc, mul-le-mul_left}
use native.Mathlib.Numerals.{add-one}
use lib.ListN.{length, take, drop, take-append-drop, length-append}
use Rattle.text.specs.declared.Text.{Text}
use Rattle.text.specs.Put.{HasRoom, put}
use Rattle.text.specs.Text.{decimal_digits, written, first_texts}
use Rattle.text.proofs.Laws.{written_twice, written_length, first_texts_length, decimal_length}

module _ (t : Text) where
  pub put_length : (s : List ℕ) → (put t s).length ≡ t.length + length s
  unfolding put
  put_length s = refl

  pub same_buffer : (s : List ℕ) → HasRoom t (length s) → length (put t s).buffer.now ≡ length t.buffer.now
  unfolding put
  same_buffer s h = written_length t.buffer.now t.length s h

  pub put_twice : (s u : List ℕ) → HasRoom t (length s) → put (put t s) u ≡ put t (s ++ u)
  unfolding put
  put_twice s u h = rw (written_twice t.buffer.now t.length s u h, length-append s u, add_assoc t.length (length s) (length u))

  put_nothing : put t [] ≡ t
  unfolding put written
  put_nothing =
      let same : written t.buffer.now t.length [] ≡ t.buffer.now =
      ap (λ (k : ℕ). take t.length t.buffer.now ++ drop k t.buffer.now) (add-zero t.length) ∙ take-append-drop t.length t.buffer.now in
      rw (same, add-zero t.length)

  -- no digits
  pub put_no_digits : (most x : ℕ) → most ≡ 0 → put t (decimal_digits most x) ≡ t
  unfolding decimal_digits
  put_no_digits most x e = rw e put_nothing

  -- the first texts of many: none yet
  pub first_none : (f : ℕ → List ℕ) → put t (first_texts f 0) ≡ t
  unfolding first_texts
  first_none f = put_nothing

  -- m texts of at most w bytes fit: there is room for one more, and then that is put too
  module _ (f : ℕ → List ℕ) (w m : ℕ) (short : (k : ℕ) → length (f k) ≤ w) (room : HasRoom t (w * m)) (i : ℕ) (more : i < m) where
    first_fit : HasRoom t (length (first_texts f i) + w)
    first_fit = omega (arith, room, first_texts_length f w i short, rw (mul-suc w i) at (mul-le-mul_left w more))

    pub room_for_more : {u : Text} → u ≡ put t (first_texts f i) → HasRoom u w
    room_for_more e = rw e (omega (arith, first_fit, put_length (first_texts f i), same_buffer (first_texts f i) (omega (arith, first_fit))))

    pub one_more : {u v : Text} → u ≡ put t (first_texts f i) → v ≡ put u (f i) → v ≡ put t (first_texts f (i + 1))
    unfolding first_texts
    one_more e p = rw (p, e, add-one i) (put_twice (first_texts f i) (f i) (omega (arith, first_fit)))

-- what a function needs to put texts and numbers one after another
pub ruleset texts = (put_twice, put_length, same_buffer, append_assoc, length-append, decimal_length)
