-- The smallest clock offset. A message that was sent at second x of the sender's book and received at second y of the receiver's arrives in time
-- exactly where y − x lies in an interval [A, B] that the offset gives; so all of a list do exactly where A is at most the least and B at least the
-- most of these differences. Of the four bounds that the two lists put on the offset, two are lower and two are upper ones: where the greater lower
-- bound satisfies the upper ones it is the smallest offset that fits, and where it does not, no offset at or above it does.
use mathlib.Core.Path.{◌≡◌, refl, sym, ap}
use mathlib.Core.Bool.{Bool, true, false, not, cond, ◌&&◌, ◌||◌}
use mathlib.Core.List.{List, [], ◌∷◌}
use Prim.Native.Nat.{ℕ, suc, ◌+◌, ◌-◌, ◌<◌, ◌≤◌}
use Rattle.std.specs.Prelude.{Option, Some, None, Result, Ok, Err}
use native.Mathlib.Omega.{arith}
use lib.Dec.{leb, ltb}
use borrow.Author.Tests.{le-leb, leb-true, lt-ltb, ltb-true, ltb-false}
use Rattle.section.proofs.Laws.{and_parts}
use Rattle.file_tests.specs.Tests.{leading}
use Rattle.file_tests.proofs.Laws.{leading_is}
use Rattle.registers.specs.declared.Entry.{Entry}
use Rattle.registers.specs.declared.TravelRange.{TravelRange}
use Rattle.registers.specs.Books.{longest_travel, largest_offset, same_message, same_list, first_difference}
use Rattle.registers.specs.Books.{arrives, all_arrive, first_clock, second_clock}
use Rattle.registers.specs.Walk.{wide, travel, with_message, walked, lower_end, none_left, offset_within}

-- ## A walk over two lists

-- every second of a list is a second of the day, and so below `wide`
unfoldable pub Early : List Entry → Type 0
Early [] = 0 ≤ 0
Early (a ∷ l) = (a.second ≤ wide) × Early l

both : (a b : Bool) → a ≡ true → b ≡ true → a && b ≡ true
both a b p q = rw (p, q)

-- what a walk says of its lists, for the clocks of the sender and of the receiver and the interval that they leave for the travel
unfoldable pub Says : (ℕ → ℕ) → (ℕ → ℕ) → ℕ → ℕ → ℕ → TravelRange → List Entry → List Entry → Result TravelRange ℕ → Type 0
Says f g A B i t xs ys (Ok all) =
    (same_list xs ys ≡ true)
    × ((A ≤ t.least → t.most ≤ B → all_arrive f g xs ys ≡ true → (A ≤ all.least) × (all.most ≤ B))
    × (A ≤ all.least → all.most ≤ B → (all_arrive f g xs ys ≡ true) × ((A ≤ t.least) × (t.most ≤ B))))
Says f g A B i t xs ys (Err n) = (same_list xs ys ≡ false) × (n ≡ i + first_difference xs ys)

module _
    (f g : ℕ → ℕ)
    (A B : ℕ)
    (inside : (x y : Entry) → x.second ≤ wide → arrives (f x.second) (g y.second) ≡ true → (A ≤ travel x y) × (travel x y ≤ B))
    (arriving : (x y : Entry) → x.second ≤ wide → A ≤ travel x y → travel x y ≤ B → arrives (f x.second) (g y.second) ≡ true) where
  -- a message more at the front
  one_more :
      (x y : Entry) (xs ys : List Entry) (i : ℕ) (t : TravelRange) (w : Result TravelRange ℕ) → x.second ≤ wide → same_message x y ≡ true →
      Says f g A B (suc i) (with_message t (travel x y)) xs ys w → Says f g A B i t (x ∷ xs) (y ∷ ys) w
  unfolding Says same_list first_difference all_arrive
  one_more x y xs ys i t (Err n) early e h = rw e (h.0, omega (arith, h.1))
  one_more x y xs ys i t (Ok all) early e h =
      let d = travel x y in (
        rw e h.0,
        (
          λ p q both_arrive.
              let now = and_parts (arrives (f x.second) (g y.second)) (all_arrive f g xs ys) both_arrive in
              let here = inside x y early now.0 in
              h.1.0 (omega (arith, here.0)) (omega (arith, here.1)) now.1,
          λ p q.
              let later = h.1.1 p q in (
                both (arrives (f x.second) (g y.second)) (all_arrive f g xs ys)
                    (arriving x y early (omega (arith, later.1.0)) (omega (arith, later.1.1))) later.0,
                (omega (arith, later.1.0), omega (arith, later.1.1)),
              ),
        ),
      )

  -- messages at the front that are not the same
  unlike_here :
      (x y : Entry) (xs ys : List Entry) (i : ℕ) (t : TravelRange) → same_message x y ≡ false → Says f g A B i t (x ∷ xs) (y ∷ ys) (Err i)
  unfolding Says same_list first_difference
  unlike_here x y xs ys i t e = rw e (refl, omega arith)

  pub says : (xs ys : List Entry) (i : ℕ) (t : TravelRange) → Early xs → Says f g A B i t xs ys (walked i t xs ys)
  unfolding Says walked same_list first_difference all_arrive Early
  says [] [] i t early = (refl, (λ p q all. (p, q), λ p q. (refl, (p, q))))
  says [] (y ∷ ys) i t early = (refl, omega arith)
  says (x ∷ xs) [] i t early = (refl, omega arith)
  says (x ∷ xs) (y ∷ ys) i t early =
      go (same_message x y) refl (says xs ys (suc i) (with_message t (travel x y)) early.1)
    where
      go :
          (b : Bool) → same_message x y ≡ b →
          Says f g A B (suc i) (with_message t (travel x y)) xs ys (walked (suc i) (with_message t (travel x y)) xs ys) →
          Says f g A B i t (x ∷ xs) (y ∷ ys) (cond b (walked (suc i) (with_message t (travel x y)) xs ys) (Err i))
      go true e h = one_more x y xs ys i t (walked (suc i) (with_message t (travel x y)) xs ys) early.0 e h
      go false e h = unlike_here x y xs ys i t e

-- ## The interval that an offset leaves

module _ (k : ℕ) (few : k ≤ 240) (x y : Entry) (early : x.second ≤ wide) where
  -- for what the first book sent
  pub first_inside :
      arrives (first_clock x.second) (second_clock k y.second) ≡ true →
      (wide + largest_offset - k ≤ travel x y) × (travel x y ≤ wide + largest_offset + longest_travel - k)
  unfolding arrives first_clock second_clock travel
  first_inside t =
      let p = and_parts (leb (x.second + largest_offset) (y.second + k)) (leb (y.second + k) (x.second + largest_offset + longest_travel)) t in
      let a = leb-true (x.second + largest_offset) (y.second + k) p.0 in
      let b = leb-true (y.second + k) (x.second + largest_offset + longest_travel) p.1 in
      (omega arith, omega arith)

  pub first_arriving :
      wide + largest_offset - k ≤ travel x y → travel x y ≤ wide + largest_offset + longest_travel - k →
      arrives (first_clock x.second) (second_clock k y.second) ≡ true
  unfolding arrives first_clock second_clock travel
  first_arriving p q =
      rw (
        le-leb (x.second + largest_offset) (y.second + k) (omega arith),
        le-leb (y.second + k) (x.second + largest_offset + longest_travel) (omega arith),
      )

  -- for what the second book sent
  pub second_inside :
      arrives (second_clock k x.second) (first_clock y.second) ≡ true →
      (wide + k - largest_offset ≤ travel x y) × (travel x y ≤ wide + k + longest_travel - largest_offset)
  unfolding arrives first_clock second_clock travel
  second_inside t =
      let p = and_parts (leb (x.second + k) (y.second + largest_offset)) (leb (y.second + largest_offset) (x.second + k + longest_travel)) t in
      let a = leb-true (x.second + k) (y.second + largest_offset) p.0 in
      let b = leb-true (y.second + largest_offset) (x.second + k + longest_travel) p.1 in
      (omega arith, omega arith)

  pub second_arriving :
      wide + k - largest_offset ≤ travel x y → travel x y ≤ wide + k + longest_travel - largest_offset →
      arrives (second_clock k x.second) (first_clock y.second) ≡ true
  unfolding arrives first_clock second_clock travel
  second_arriving p q =
      rw (
        le-leb (x.second + k) (y.second + largest_offset) (omega arith),
        le-leb (y.second + largest_offset) (x.second + k + longest_travel) (omega arith),
      )

-- ## The smallest number that passes a test

unfoldable pub answer_for : (ℕ → Bool) → Option ℕ
answer_for t = cond (ltb (leading (λ (k : ℕ). not (t k)) 241) 241) (Some (leading (λ (k : ℕ). not (t k)) 241)) None

module _ (t : ℕ → Bool) where
  smallest_is : (r : ℕ) → r ≤ 240 → ((j : ℕ) → j < r → t j ≡ false) → t r ≡ true → answer_for t ≡ Some r
  unfolding answer_for
  smallest_is r h below at =
      let e = leading_is (λ (k : ℕ). not (t k)) 241 r (omega arith) (λ j q. ap not (below j q)) (λ q. ap not at) in
      rw (← e, lt-ltb r 241 (omega arith))

  none_is : ((j : ℕ) → j ≤ 240 → t j ≡ false) → answer_for t ≡ None
  unfolding answer_for
  none_is below =
      let e = leading_is (λ (k : ℕ). not (t k)) 241 241 (omega arith) (λ j q. ap not (below j (omega arith))) (λ q. absurd (omega arith)) in
      rw (← e)

-- ## The lower end

-- an offset within all four bounds
abbrev pub InAll : TravelRange → TravelRange → ℕ → Type 0
InAll one other k =
    (wide + largest_offset - k ≤ one.least)
    × ((one.most ≤ wide + largest_offset + longest_travel - k)
    × ((wide + k - largest_offset ≤ other.least) × (other.most ≤ wide + k + longest_travel - largest_offset)))

module _ (one other : TravelRange) where
  lower_end_is :
      (k : ℕ) → k ≤ 240 → wide + largest_offset - k ≤ one.least → other.most ≤ wide + k + longest_travel - largest_offset →
      lower_end one other ≤ k
  unfolding lower_end
  lower_end_is k h p q = omega arith

  lower_end_holds :
      (k : ℕ) → k ≤ 240 → lower_end one other ≤ k →
      (wide + largest_offset - k ≤ one.least) × (other.most ≤ wide + k + longest_travel - largest_offset)
  unfolding lower_end
  lower_end_holds k h p = (omega arith, omega arith)

  -- a test that holds exactly where the four bounds do
  module _
      (t : ℕ → Bool)
      (bounds : (k : ℕ) → k ≤ 240 → t k ≡ true → InAll one other k)
      (within : (k : ℕ) → k ≤ 240 → InAll one other k → t k ≡ true) where
    refuted : (k : ℕ) → (t k ≡ true → ⊥) → t k ≡ false
    refuted k n = go (t k) refl
      where
        go : (b : Bool) → t k ≡ b → t k ≡ false
        go true e = absurd (n e)
        go false e = e

    -- The lower end is the smallest that passes; where it breaks an upper bound, none does.
    pub lower_end_smallest : offset_within one other ≡ answer_for t
    unfolding offset_within none_left
    lower_end_smallest =
        go (ltb 240 n) refl (ltb (wide + largest_offset + longest_travel - n) one.most) refl (ltb other.least (n + wide - largest_offset)) refl
      where
        n : ℕ
        n = lower_end one other

        least : (k : ℕ) → k ≤ 240 → t k ≡ true → n ≤ k
        least k h e = let b = bounds k h e in lower_end_is k h b.0 b.1.1.1

        go :
            (a : Bool) → ltb 240 n ≡ a → (b : Bool) → ltb (wide + largest_offset + longest_travel - n) one.most ≡ b →
            (c : Bool) → ltb other.least (n + wide - largest_offset) ≡ c → cond (a || (b || c)) None (Some n) ≡ answer_for t
        go true p b q c r =
            sym (none_is t (λ j h. refuted j (λ e. omega (arith, least j h e, ltb-true 240 n p))))
        go false p true q c r =
            let above = ltb-true (wide + largest_offset + longest_travel - n) one.most q in
            let low = ltb-false 240 n p in
            sym (none_is t (λ j h. refuted j (λ e. omega (arith, least j h e, (bounds j h e).1.0, above, low))))
        go false p false q true r =
            let above = ltb-true other.least (n + wide - largest_offset) r in
            let low = ltb-false 240 n p in
            sym (none_is t (λ j h. refuted j (λ e. omega (arith, least j h e, (bounds j h e).1.1.0, above, low))))
        go false p false q false r =
            let h = ltb-false 240 n p in
            let b = ltb-false (wide + largest_offset + longest_travel - n) one.most q in
            let d = ltb-false other.least (n + wide - largest_offset) r in
            let lower = lower_end_holds n h (omega arith) in
            sym
            (smallest_is t n h (λ j q'. refuted j (λ e. omega (arith, least j (omega arith) e)))
            (within n h (lower.0, (omega arith, (omega arith, lower.1)))))
