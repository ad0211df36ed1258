-- The bytes of the level crossings: each is tested by itself, and after the one before it. So all are in range where each is in its range and their
-- orders never fall.
use Rattle.std.proofs.Common.{ℕ, zero, suc, ◌+◌, ◌<◌, ◌≤◌, Bool, true, false, ◌&&◌, ◌↔◌, ⊎_elim, List, length, take, leb}
use Rattle.std.proofs.Common.{◌≡◌, ◌∙◌, refl, sym, ap, add-one, true≢false, arith}
use Rattle.std.proofs.lemmas.Bool.{cases_lt, le-leb, leb-true}
use Rattle.std.proofs.lemmas.List.{take_all, get_or_default}
use Rattle.std.proofs.lemmas.List.Folds.{list_all_more}
use Rattle.std.proofs.lemmas.List.Sorted.{IsNonDecreasingBy-from_all_adjacent}
use Rattle.std.specs.List.{list_all, IsAllAdjacentAnswer}
use Rattle.std.specs.List.Sorted.{IsNonDecreasingBy}
use Rattle.std.specs.Ordering.{is_le, nat_cmp}
use Rattle.section.proofs.Laws.{both, and_left, and_right}
use Rattle.section.specs.Bytes.{byte}
use Rattle.section.specs.Crossings.{crossing_in_range, crossing_order, never_falls, crossings_in_range}

-- ## The order

le_is : (x y : ℕ) → is_le (nat_cmp x y) ≡ leb x y
le_is x y = grind arith

same_truth : (a b : Bool) → (a ≡ true → b ≡ true) → (b ≡ true → a ≡ true) → a ≡ b
same_truth true b h k = sym (h refl)
same_truth false true h k = k refl
same_truth false false h k = refl

module _ (l : List ℕ) where
  -- what the library says of bytes that it finds sorted, or not
  pub sorted_where :
      (r : Bool) → IsAllAdjacentAnswer (λ x y b. b ≡ is_le (nat_cmp (crossing_order x) (crossing_order y))) l r →
      (r ≡ true) ↔ IsNonDecreasingBy crossing_order l
  sorted_where true a =
      (λ e. IsNonDecreasingBy-from_all_adjacent crossing_order l (λ k d h. leb-true _ _ (sym (a k d h ∙ le_is _ _))), λ h. refl)
  sorted_where false a =
      (λ e. absurd (true≢false (sym e)), λ h. a.2 0 ∙ le_is _ _ ∙ le-leb _ _ (h a.0 (a.0 + 1) 0 (omega arith) a.1))

  -- among the first m bytes the order never falls
  rises : ℕ → Bool
  rises zero = true
  rises (suc m) = never_falls l m && rises m

  rises_all : IsNonDecreasingBy crossing_order l → (m : ℕ) → m ≤ length l → rises m ≡ true
  unfolding rises
  rises_all up zero h = refl
  rises_all up (suc zero) h = refl
  rises_all up (suc (suc m)) h = both (le-leb _ _ (up m (suc m) 0 (omega arith) (omega arith))) (rises_all up (suc m) (omega arith))

  rises_each : (m : ℕ) → rises m ≡ true → (k : ℕ) → k + 1 < m → crossing_order (byte l k) ≤ crossing_order (byte l (k + 1))
  unfolding rises
  rises_each zero e k h = absurd (omega arith)
  rises_each (suc m) e k h =
      let before : k + 1 < m → crossing_order (byte l k) ≤ crossing_order (byte l (k + 1)) =
      λ j. rises_each m (and_right (never_falls l m) (rises m) e) k j in
      let last : m ≤ k + 1 → crossing_order (byte l k) ≤ crossing_order (byte l (k + 1)) =
      λ j. let same : m ≡ suc k = omega arith in
      let here : never_falls l (suc k) ≡ true = sym (ap (never_falls l) same) ∙ and_left (never_falls l m) (rises m) e in
      leb-true _ _ (ap (λ (i : ℕ). leb (crossing_order (byte l k)) (crossing_order (byte l i))) (add-one k) ∙ here) in
      ⊎_elim before last (cases_lt (k + 1) m)

-- ## Both tests

swap_middle : (a b c d : Bool) → ((a && b) && (c && d)) ≡ ((c && a) && (b && d))
swap_middle a b c d = grind arith

module _ (n : ℕ) (l : List ℕ) where
  parts : (m : ℕ) → m ≤ length l → crossings_in_range n m l ≡ (list_all (crossing_in_range n) (take m l) && rises l m)
  unfolding crossings_in_range rises
  parts zero h = refl
  parts (suc m) h =
      ap (λ (b : Bool). (crossing_in_range n (byte l m) && never_falls l m) && b) (parts m (omega arith))
      ∙ swap_middle (crossing_in_range n (byte l m)) (never_falls l m) (list_all (crossing_in_range n) (take m l)) (rises l m)
      ∙ ap (λ (b : Bool). b && (never_falls l m && rises l m)) (sym (list_all_more (crossing_in_range n) l m 0 (omega arith)))
      ∙ ap (λ (k : ℕ). list_all (crossing_in_range n) (take k l) && (never_falls l m && rises l m)) (add-one m)

  both_tests :
      (m : ℕ) → length l ≡ m → (r : Bool) → (r ≡ true) ↔ IsNonDecreasingBy crossing_order l →
      crossings_in_range n m l ≡ (list_all (crossing_in_range n) l && r)
  both_tests m long r h =
      let up : rises l m ≡ true → IsNonDecreasingBy crossing_order l =
      λ e. IsNonDecreasingBy-from_all_adjacent crossing_order l
      (λ k d j. rw (get_or_default l k d 0 (omega arith), get_or_default l (k + 1) d 0 j) (rises_each l m e k (omega (arith, long)))) in
      let same : rises l m ≡ r = same_truth (rises l m) r (λ e. h.1 (up e)) (λ e. rises_all l (h.0 e) m (omega (arith, long))) in
      parts m (omega (arith, long)) ∙ rw (take_all m l (omega (arith, long)), same) refl

  pub not_each : (m : ℕ) → length l ≡ m → (b : Bool) → b ≡ list_all (crossing_in_range n) l → b ≡ false → b ≡ crossings_in_range n m l
  not_each m long b e f = f ∙ sym (parts m (omega (arith, long)) ∙ rw (take_all m l (omega (arith, long)), sym e ∙ f) refl)

  pub each :
      (m : ℕ) → length l ≡ m → (b r : Bool) → b ≡ list_all (crossing_in_range n) l → b ≡ true → (r ≡ true) ↔ IsNonDecreasingBy crossing_order l →
      r ≡ crossings_in_range n m l
  each m long b r e f h = sym (both_tests m long r h ∙ rw (sym e ∙ f) refl)
