-- The search for the smallest offset passes only offsets that do not fit, and stops at one that does; so does the search for the first malformed
-- record. Which search an answer came from is seen by its case: the tests before it were passed.
use mathlib.Core.Path.{◌≡◌, refl, sym, ◌∙◌, ap}
use mathlib.Core.Bool.{Bool, true, false, not, cond, ◌||◌, true≢false}
use mathlib.Core.List.{List}
use Prim.Native.Nat.{ℕ, zero, suc, ◌<◌, ◌≤◌}
use native.Mathlib.Nat.{not-suc-le-zero}
use Rattle.std.specs.Prelude.{Option, Some, None, Ok, Err}
use native.Mathlib.Omega.{arith}
use lib.Dec.{ltb}
use borrow.Author.Tests.{not-true, not-false, ltb-true, ltb-false}
use Rattle.layout.specs.Layout.{step_count}
use Rattle.file_tests.specs.Tests.{leading}
use Rattle.file_tests.proofs.Laws.{all_pass}
use Rattle.registers.specs.declared.Book.{Book}
use Rattle.registers.specs.declared.Book.TheVariants.{First, Second}
use Rattle.registers.specs.declared.Mismatch.TheVariants.{Differs, Malformed}
use Rattle.registers.specs.Books.{well_at, first_malformed, some_malformed, sent, received, same_list, first_difference}
use Rattle.registers.specs.Books.{fits, smallest_offset, offset_answer, match_answer, comparison}
use Rattle.registers.specs.Answers.{refusal_number}
use Rattle.registers.specs.Walk.{lower_end, none_left, offset_within}
use Rattle.registers.specs.Promises.{RefusedWith24, FirstSuch, FirstBookFirst, SmallestOffset, NoneFits, OnlyIfNoneExists, Intersection}
use Rattle.registers.proofs.Answer.{offset_answer_is}

-- ## The first number that fails a test

-- all before it pass, and it fails
stops : (t : ℕ → Bool) (m : ℕ) → leading t m < m → t (leading t m) ≡ false
unfolding leading
stops t zero h = absurd (not-suc-le-zero h)
stops t (suc m) h = go (t 0) refl h (stops (λ (k : ℕ). t (suc k)) m)
  where
    go :
        (b : Bool) → t 0 ≡ b → cond b (suc (leading (λ (k : ℕ). t (suc k)) m)) 0 < suc m →
        (leading (λ (k : ℕ). t (suc k)) m < m → t (suc (leading (λ (k : ℕ). t (suc k)) m)) ≡ false) →
        t (cond b (suc (leading (λ (k : ℕ). t (suc k)) m)) 0) ≡ false
    go true e h later = later (omega arith)
    go false e h later = e

passes : (t : ℕ → Bool) (m k : ℕ) → k < leading t m → t k ≡ true
unfolding leading
passes t zero k h = absurd (not-suc-le-zero h)
passes t (suc m) k h = go (t 0) refl k h (passes (λ (j : ℕ). t (suc j)) m)
  where
    go :
        (b : Bool) → t 0 ≡ b → (k : ℕ) → k < cond b (suc (leading (λ (j : ℕ). t (suc j)) m)) 0 →
        ((j : ℕ) → j < leading (λ (j : ℕ). t (suc j)) m → t (suc j) ≡ true) → t k ≡ true
    go false e k h later = absurd (not-suc-le-zero h)
    go true e zero h later = e
    go true e (suc k) h later = later k (omega arith)

-- ## Which test an answer came from

-- a test was passed where its answer is another
past : {A : Type 0} (b : Bool) (x y c : A) → (x ≡ c → ⊥) → cond b x y ≡ c → (b ≡ false) × (y ≡ c)
past true x y c other e = absurd (other e)
past false x y c other e = (refl, e)

ok_not_err : {A E : Type 0} (x : A) (e : E) → Err e ≡ Ok x → ⊥
ok_not_err x e p = cc

-- an answer that is no mismatch is the search's
module _ (first second : List ℕ) (o : Option ℕ) where
  searched : comparison first second ≡ Ok o → offset_answer first second ≡ o
  unfolding comparison match_answer
  searched e =
      let e₁ = (past (some_malformed first) _ _ (Ok o) (ok_not_err _ _) e).1 in
      let e₂ = (past (some_malformed second) _ _ (Ok o) (ok_not_err _ _) e₁).1 in
      let e₃ = (past (not (same_list (sent first) (received second))) _ _ (Ok o) (ok_not_err _ _) e₂).1 in
      let e₄ = (past (not (same_list (sent second) (received first))) _ _ (Ok o) (ok_not_err _ _) e₃).1 in
      cc

-- ## Malformed records

-- what comes after the tests of the records refuses nothing
none_later :
    (c d : Bool) (i j : ℕ) (o : Option ℕ) →
    refusal_number (cond c (Err (Differs First i)) (cond d (Err (Differs Second j)) (Ok o))) ≡ 0
unfolding refusal_number
none_later true d i j o = refl
none_later false true i j o = refl
none_later false false i j o = refl

match_refuses_none : (first second : List ℕ) → refusal_number (match_answer first second) ≡ 0
unfolding match_answer
match_refuses_none first second =
    none_later (not (same_list (sent first) (received second))) (not (same_list (sent second) (received first)))
    (first_difference (sent first) (received second)) (first_difference (sent second) (received first)) (offset_answer first second)

match_names_none : (first second : List ℕ) (b : Book) (i : ℕ) → match_answer first second ≡ Err (Malformed b i) → ⊥
unfolding refusal_number
match_names_none first second b i e =
    let z : ◌≡◌ {A = ℕ} 0 24 = sym (match_refuses_none first second) ∙ ap refusal_number e in omega arith

pub refused_with_24 : RefusedWith24
unfolding comparison refusal_number
refused_with_24 first second = go (some_malformed first) (some_malformed second)
  where
    go :
        (a b : Bool) →
        refusal_number
        (cond a (Err (Malformed First (first_malformed first)))
        (cond b (Err (Malformed Second (first_malformed second))) (match_answer first second)))
        ≡ cond (a || b) 24 0
    go true b = refl
    go false true = refl
    go false false = match_refuses_none first second

-- the index that is told is that of the first malformed record
first_such : (book : List ℕ) (i : ℕ) → some_malformed book ≡ true → first_malformed book ≡ i → FirstSuch book i
unfolding some_malformed first_malformed
first_such book i m e =
    let n = step_count book in (
      rw e at (stops (well_at book) n (ltb-true (leading (well_at book) n) n m)),
      λ j h. passes (well_at book) n j (omega (arith, e)),
    )

pub first_book_first : FirstBookFirst
unfolding comparison
first_book_first first second i =
    (λ e. of_first (some_malformed first) refl e, λ e. of_second (some_malformed first) refl (some_malformed second) refl e)
  where
    of_first :
        (a : Bool) → some_malformed first ≡ a →
        cond a (Err (Malformed First (first_malformed first)))
        (cond (some_malformed second) (Err (Malformed Second (first_malformed second))) (match_answer first second))
        ≡ Err (Malformed First i) →
        FirstSuch first i
    of_first true m e = first_such first i m cc
    of_first false m e =
        absurd (match_names_none first second First i (past (some_malformed second) _ _ (Err (Malformed First i)) (λ q. cc) e).1)

    of_second :
        (a : Bool) → some_malformed first ≡ a → (b : Bool) → some_malformed second ≡ b →
        cond a (Err (Malformed First (first_malformed first)))
        (cond b (Err (Malformed Second (first_malformed second))) (match_answer first second))
        ≡ Err (Malformed Second i) →
        (some_malformed first ≡ false) × FirstSuch second i
    of_second true m b q e = absurd cc
    of_second false m true q e = (m, first_such second i q cc)
    of_second false m false q e = absurd (match_names_none first second Second i e)

-- ## The offset

-- what the search ended with
found : (n k : ℕ) → cond (ltb n 241) (Some n) None ≡ Some k → (n < 241) × (n ≡ k)
found n k e = go (ltb n 241) refl e
  where
    go : (b : Bool) → ltb n 241 ≡ b → cond b (Some n) None ≡ Some k → (n < 241) × (n ≡ k)
    go true p e = (ltb-true n 241 p, cc)
    go false p e = absurd cc

nowhere : (n : ℕ) → cond (ltb n 241) (Some n) None ≡ None → 241 ≤ n
nowhere n e = go (ltb n 241) refl e
  where
    go : (b : Bool) → ltb n 241 ≡ b → cond b (Some n) None ≡ None → 241 ≤ n
    go true p e = absurd cc
    go false p e = ltb-false n 241 p

module _ (first second : List ℕ) where
  smallest_is_found : (k : ℕ) → offset_answer first second ≡ Some k → smallest_offset first second ≡ k
  unfolding offset_answer
  smallest_is_found k e = (found (smallest_offset first second) k e).1

  smallest_found :
      (k : ℕ) → offset_answer first second ≡ Some k →
      (k ≤ 240) × ((fits first second k ≡ true) × ((j : ℕ) → j < k → fits first second j ≡ false))
  unfolding offset_answer smallest_offset
  smallest_found k e =
      let n = leading (λ (j : ℕ). not (fits first second j)) 241 in
      let f = found n k e in
      let at : fits first second n ≡ true = not-false (fits first second n) (stops (λ (j : ℕ). not (fits first second j)) 241 f.0) in (
        omega (arith, f.0, f.1),
        (
          rw f.1 at at,
          λ j h. not-true (fits first second j) (passes (λ (j : ℕ). not (fits first second j)) 241 j (omega (arith, f.1))),
        ),
      )

  none_found : offset_answer first second ≡ None → NoneFits first second
  unfolding offset_answer smallest_offset
  none_found e k h =
      let n = leading (λ (j : ℕ). not (fits first second j)) 241 in
      not-true (fits first second k) (all_pass (λ (j : ℕ). not (fits first second j)) 241 (nowhere n e) k (omega arith))

pub smallest_offset_lem : SmallestOffset
smallest_offset_lem first second k e = smallest_found first second k (searched first second (Some k) e)

pub only_if_none_exists : OnlyIfNoneExists
only_if_none_exists first second e = none_found first second (searched first second None e)

-- the lower end of what the walks leave
pub intersection : Intersection
unfolding offset_within
intersection first second one other a b w v = go (none_left one other) refl (offset_answer_is first second one other a b w v)
  where
    go :
        (t : Bool) → none_left one other ≡ t → cond t None (Some (lower_end one other)) ≡ offset_answer first second →
        (none_left one other ≡ false → smallest_offset first second ≡ lower_end one other)
        × ((none_left one other ≡ true → NoneFits first second) × (NoneFits first second → none_left one other ≡ true))
    go true p e = (λ q. absurd (true≢false (sym p ∙ q)), (λ q. none_found first second (sym e), λ q. p))
    go false p e =
        let at = smallest_found first second (lower_end one other) (sym e) in (
          λ q. smallest_is_found first second (lower_end one other) (sym e),
          (λ q. absurd (true≢false (sym q ∙ p)), λ q. absurd (true≢false (sym at.1.0 ∙ q (lower_end one other) at.0))),
        )
