-- A text written at a place, and another after it: what is put after a text continues it (`then`), so texts put one after another are one text.
-- A number is its digits but the last, then the last.
use mathlib.Core.Path.{◌≡◌, refl, sym, ◌∙◌, ap}
use mathlib.Core.List.{List, [], ◌∷◌, ◌++◌, append_assoc}
use Prim.Native.Nat.{ℕ, zero, suc, ◌+◌, ◌-◌, ◌*◌, ◌/◌, ◌%◌, ◌≤◌, ◌<◌}
use mathlib.Core.Bool.{Bool, true, false, cond}
use native.Mathlib.Omega.{arith}
use native.Mathlib.Nat.{zero-add, add_assoc, add-zero, mul-suc, add-sub_cancel_left}
use native.Mathlib.Numerals.{add-one}
use lib.ListN.{length, take, drop, set, take-append-drop, length-append, length-drop}
use lib.Seq.{length-take-le, take_at, drop-drop, set_split, drop-append-add}
use lib.Dec.{ltb}
use borrow.Author.Tests.{lt-ltb, le-ltb}
use Rattle.text.specs.Text.{digit, decimal_digits, most_digits, decimal, written, first_texts}

-- a text at the front
pub at_front : (l s : List ℕ) → written l 0 s ≡ s ++ drop (length s) l
unfolding written
at_front l s = ap (λ (k : ℕ). s ++ drop k l) (zero-add (length s))

-- a byte is a text of one
pub one_byte : (l : List ℕ) (at b : ℕ) → at < length l → set l at b ≡ written l at (b ∷ [])
unfolding written
one_byte l at b h =
    let e : suc at ≡ at + 1 = omega arith in
    set_split l at b h ∙ ap (λ (k : ℕ). take at l ++ (b ∷ drop k l)) e

-- a text that fills a part of the buffer
pub part_filled :
    (l s part : List ℕ) (at : ℕ) → part ≡ s → take at l ++ (part ++ drop (at + length s - at) (drop at l)) ≡ written l at s
unfolding written
part_filled l s part at e =
    let k : at + length s - at ≡ length s = add-sub_cancel_left at (length s) in
    rw (e, k, drop-drop)

-- the length stays
pub written_length : (l : List ℕ) (at : ℕ) (s : List ℕ) → at + length s ≤ length l → length (written l at s) ≡ length l
unfolding written
written_length l at s h = simp (length-append, length-drop) (omega (arith, length-take-le at l (omega arith)))

-- a text, and another after it, are one text
pub written_twice :
    (l : List ℕ) (at : ℕ) (s t : List ℕ) → at + length s ≤ length l
    → written (written l at s) (at + length s) t ≡ written l at (s ++ t)
unfolding written
written_twice l at s t h =
    let n : length (take at l ++ s) ≡ at + length s =
    length-append (take at l) s ∙ ap (λ (k : ℕ). k + length s) (length-take-le at l (omega arith)) in
    let front : take at l ++ (s ++ drop (at + length s) l) ≡ (take at l ++ s) ++ drop (at + length s) l =
    sym (append_assoc (take at l) s (drop (at + length s) l)) in
    let a : take (at + length s) (take at l ++ (s ++ drop (at + length s) l)) ≡ take at l ++ s =
    ap (take (at + length s)) front ∙ take_at (take at l ++ s) (drop (at + length s) l) (at + length s) n in
    let b : drop (at + length s + length t) (take at l ++ (s ++ drop (at + length s) l)) ≡ drop (at + length (s ++ t)) l =
    ap (drop (at + length s + length t)) front
    ∙ ap (λ (k : ℕ). drop (k + length t) ((take at l ++ s) ++ drop (at + length s) l)) (sym n)
    ∙ drop-append-add (take at l ++ s) (drop (at + length s) l) (length t)
    ∙ drop-drop (length t) (at + length s) l
    ∙ ap (λ (k : ℕ). drop k l) (add_assoc at (length s) (length t) ∙ ap (λ (k : ℕ). at + k) (sym (length-append s t))) in
    rw (a, b) (simp append_assoc)

-- what a function that puts a text ensures: the next place, and the buffer afterwards
abbrev pub Putting : List ℕ → ℕ → List ℕ → ℕ → List ℕ → Type 0
Putting l at text r m = (r ≡ at + length text) × (m ≡ written l at text)

-- a text, then another
pub then :
    (l m k : List ℕ) (at r q : ℕ) (s t : List ℕ) → at + length s ≤ length l → Putting l at s r m → Putting m r t q k
    → Putting l at (s ++ t) q k
then l m k at r q s t room a b = (
  b.0 ∙ ap (λ (i : ℕ). i + length t) a.0 ∙ simp length-append (omega arith),
  b.1
      ∙ ap (λ (x : List ℕ). written x r t) a.1
      ∙ ap (λ (i : ℕ). written (written l at s) i t) a.0
      ∙ written_twice l at s t room,
)

-- no text
nothing_put : (l : List ℕ) (at : ℕ) → Putting l at [] at l
unfolding written
nothing_put l at = (omega arith, sym (ap (λ (k : ℕ). take at l ++ drop k l) (add-zero at) ∙ take-append-drop at l))

-- ## The first of many texts

-- as long as that many of the longest
pub first_texts_length : (f : ℕ → List ℕ) (w m : ℕ) → ((k : ℕ) → length (f k) ≤ w) → length (first_texts f m) ≤ w * m
unfolding first_texts
first_texts_length f w zero h = omega arith
first_texts_length f w (suc m) h = simp (length-append, mul-suc) (omega (arith, first_texts_length f w m h, h m))

-- texts of one length
pub first_texts_whole : (f : ℕ → List ℕ) (w m : ℕ) → ((k : ℕ) → length (f k) ≡ w) → length (first_texts f m) ≡ m * w
unfolding first_texts
first_texts_whole f w zero h = omega arith
first_texts_whole f w (suc m) h = simp length-append (omega (arith, first_texts_whole f w m h, h m))

-- none yet
pub none_put : (f : ℕ → List ℕ) (l : List ℕ) (at : ℕ) → Putting l at (first_texts f 0) at l
unfolding first_texts
none_put f l at = nothing_put l at

-- one more
pub one_more_put :
    (f : ℕ → List ℕ) (l m k : List ℕ) (at i r q : ℕ) → at + length (first_texts f i) ≤ length l → Putting l at (first_texts f i) r m
    → Putting m r (f i) q k → Putting l at (first_texts f (i + 1)) q k
unfolding first_texts
one_more_put f l m k at i r q room a b = rw (add-one i) (then l m k at r q (first_texts f i) (f i) room a b)

-- the same texts
pub same_texts : (f g : ℕ → List ℕ) (m : ℕ) → ((i : ℕ) → i < m → f i ≡ g i) → first_texts f m ≡ first_texts g m
unfolding first_texts
same_texts f g zero same = refl
same_texts f g (suc m) same = rw (same_texts f g m (λ i. λ h. same i (omega arith)), same m (omega arith)) refl

-- ## The digits of a number

pub small : (most x : ℕ) → 0 < most → x < 10 → decimal_digits most x ≡ digit x ∷ []
unfolding decimal_digits
small zero x p h = absurd (omega arith)
small (suc most) x p h = rw (lt-ltb x 10 h)

pub large : (most x : ℕ) → 0 < most → 10 ≤ x → decimal_digits most x ≡ decimal_digits (most - 1) (x / 10) ++ (digit (x % 10) ∷ [])
unfolding decimal_digits
large zero x p h = absurd (omega arith)
large (suc most) x p h =
    let e : suc most - 1 ≡ most = omega arith in
    rw (le-ltb x 10 h, e)

-- at most so many digits
pub digits_length : (most x : ℕ) → length (decimal_digits most x) ≤ most
unfolding decimal_digits
digits_length zero x = omega arith
digits_length (suc most) x = go (ltb x 10) (digits_length most (x / 10))
  where
    go :
        (b : Bool) → length (decimal_digits most (x / 10)) ≤ most
        → length (cond b (digit x ∷ []) (decimal_digits most (x / 10) ++ (digit (x % 10) ∷ []))) ≤ suc most
    go true h = omega arith
    go false h = simp length-append (omega arith)

pub decimal_length : (x : ℕ) → length (decimal x) ≤ most_digits
unfolding decimal
decimal_length x = digits_length most_digits x
