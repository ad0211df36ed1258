-- A list of steps and another after it. The steps of the one are those before its end, those of the other come after, and a step is well formed or
-- not where it stands. So what the walk leaves and keeps is that of the one, then that of the other from where the one ended.
use Prim.Native.Nat.{ℕ, zero, suc, ◌+◌, ◌-◌, ◌*◌, ◌<◌, ◌≤◌}
use mathlib.Core.Bool.{Bool, true, false}
use mathlib.Core.List.{List, ◌++◌, append_assoc, append-nil}
use mathlib.Core.Path.{◌≡◌, refl, sym, ◌∙◌, ap, ap₂}
use native.Mathlib.Omega.{arith}
use borrow.Author.Tests.{ltb-true, ltb-false, le-ltb}
use lib.Dec.{ltb}
use lib.ListN.{length, drop, length-append, length-drop}
use lib.Seq.{take-append-le, drop-append-le, drop-append-add}
use Rattle.section.specs.declared.Section.{Section}
use Rattle.section.specs.Numbers.{step_length}
use Rattle.section.specs.Step.{well_formed}
use Rattle.rules.specs.Judge.{judge}
use Rattle.layout.specs.Layout.{step_at, step_count}
use Rattle.file_tests.specs.Tests.{well_at, leading, first_malformed, some_malformed}
use Rattle.file_tests.proofs.Laws.{leading_is, all_pass}
use Rattle.text.specs.Text.{first_texts}
use Rattle.text.proofs.Laws.{same_texts}
use Rattle.judging_in_place.specs.Offered.{section_before, answer_to}
use Rattle.judging_in_place.specs.Entries.{Entry, entry_of, entry_on, entries_of}

-- ## Well-formed steps

module _ (n : ℕ) (steps : List ℕ) where
  abbrev AllWell : Type 0
  AllWell = (i : ℕ) → i < step_count steps → well_at n steps i ≡ true

  all_well : some_malformed n steps ≡ false → AllWell
  unfolding some_malformed first_malformed
  all_well e = all_pass (well_at n steps) (step_count steps) (ltb-false _ _ e)

  none_malformed : AllWell → some_malformed n steps ≡ false
  unfolding some_malformed first_malformed
  none_malformed well =
      let first = leading_is (well_at n steps) (step_count steps) (step_count steps) (omega arith) well (λ h. absurd (omega arith)) in
      le-ltb (leading (well_at n steps) (step_count steps)) (step_count steps) (omega (arith, first))

-- ## Texts one after another

texts_parted : (f : ℕ → List ℕ) (k m : ℕ) → first_texts f (k + m) ≡ first_texts f k ++ first_texts (λ (j : ℕ). f (k + j)) m
unfolding first_texts
texts_parted f k zero = let e : k + 0 ≡ k = omega arith in rw e (sym (append-nil (first_texts f k)))
texts_parted f k (suc m) =
    let e : k + suc m ≡ suc (k + m) = omega arith in
    rw (e, texts_parted f k m) (append_assoc (first_texts f k) (first_texts (λ (j : ℕ). f (k + j)) m) (f (k + m)))

-- ## Two lists of steps

module _ (one other : List ℕ) (k : ℕ) (whole : length one ≡ step_length * k) where
  step_of_one : (i : ℕ) → i < k → step_at (one ++ other) i ≡ step_at one i
  unfolding step_at
  step_of_one i h =
      rw (drop-append-le (i * step_length) one other (omega arith))
      (take-append-le step_length (drop (i * step_length) one) other (simp length-drop (omega arith)))

  step_of_other : (j : ℕ) → step_at (one ++ other) (k + j) ≡ step_at other j
  unfolding step_at
  step_of_other j =
      let place : (k + j) * step_length ≡ length one + j * step_length = omega arith in
      rw (place, drop-append-add one other (j * step_length))

  pub count_of_both : step_count (one ++ other) ≡ k + step_count other
  unfolding step_count
  count_of_both = simp length-append (omega arith)

  pub count_of_one : step_count one ≡ k
  unfolding step_count
  count_of_one = omega arith

  -- a step is well formed or not where it stands
  module _ (n : ℕ) where
    well_of_one : (i : ℕ) → i < k → well_at n (one ++ other) i ≡ well_at n one i
    unfolding well_at
    well_of_one i h = ap (well_formed n) (step_of_one i h)

    well_of_other : (j : ℕ) → well_at n (one ++ other) (k + j) ≡ well_at n other j
    unfolding well_at
    well_of_other j = ap (well_formed n) (step_of_other j)

    pub both_well : some_malformed n one ≡ false → some_malformed n other ≡ false → some_malformed n (one ++ other) ≡ false
    both_well e f = none_malformed n (one ++ other) (λ i h. go i h (ltb i k) refl)
      where
        go : (i : ℕ) → i < step_count (one ++ other) → (b : Bool) → ltb i k ≡ b → well_at n (one ++ other) i ≡ true
        go i h true t =
            let below = ltb-true i k t in
            well_of_one i below ∙ all_well n one e i (omega (arith, count_of_one, below))
        go i h false t =
            let past_one = ltb-false i k t in
            let place : i ≡ k + (i - k) = omega (arith, past_one) in
            ap (well_at n (one ++ other)) place ∙ (well_of_other (i - k) ∙ all_well n other f (i - k) (omega (arith, past_one, count_of_both, h)))

    pub each_well : some_malformed n (one ++ other) ≡ false → (some_malformed n one ≡ false) × (some_malformed n other ≡ false)
    each_well e =
        let well = all_well n (one ++ other) e in (
          none_malformed n one (λ i h. sym (well_of_one i (omega (arith, count_of_one, h))) ∙ well i (omega (arith, count_of_one, count_of_both, h))),
          none_malformed n other (λ j h. sym (well_of_other j) ∙ well (k + j) (omega (arith, count_of_both, h))),
        )

  -- the section along both
  module _ (s : Section) where
    section_in_one : (i : ℕ) → i ≤ k → section_before s (one ++ other) i ≡ section_before s one i
    unfolding section_before
    section_in_one zero h = refl
    section_in_one (suc i) h = ap₂ (λ (t : Section) (bytes : List ℕ). (judge t bytes).section) (section_in_one i (omega arith)) (step_of_one i h)

    pub section_in_other : (j : ℕ) → section_before s (one ++ other) (k + j) ≡ section_before (section_before s one k) other j
    unfolding section_before
    section_in_other zero =
        let e : k + 0 ≡ k = omega arith in
        ap (section_before s (one ++ other)) e ∙ section_in_one k (omega arith)
    section_in_other (suc j) =
        let e : k + suc j ≡ suc (k + j) = omega arith in
        ap (section_before s (one ++ other)) e
        ∙ ap₂ (λ (t : Section) (bytes : List ℕ). (judge t bytes).section) (section_in_other j) (step_of_other j)

    -- what is kept of both
    module _ (kept : Entry) where
      abbrev entry : Section → List ℕ → List ℕ
      entry t bytes = entry_of kept (judge t bytes)

      entry_of_one : (i : ℕ) → i < k → entry_on kept s (one ++ other) i ≡ entry_on kept s one i
      unfolding entry_on answer_to
      entry_of_one i h = ap₂ entry (section_in_one i (omega arith)) (step_of_one i h)

      entry_of_other : (j : ℕ) → entry_on kept s (one ++ other) (k + j) ≡ entry_on kept (section_before s one k) other j
      unfolding entry_on answer_to
      entry_of_other j = ap₂ entry (section_in_other j) (step_of_other j)

      pub kept_of_both :
          (m : ℕ) → entries_of kept s (one ++ other) (k + m) ≡ entries_of kept s one k ++ entries_of kept (section_before s one k) other m
      unfolding entries_of
      kept_of_both m =
          texts_parted (entry_on kept s (one ++ other)) k m
          ∙ ap₂ (λ (x y : List ℕ). x ++ y)
          (same_texts (entry_on kept s (one ++ other)) (entry_on kept s one) k entry_of_one)
          (same_texts (λ (j : ℕ). entry_on kept s (one ++ other) (k + j)) (entry_on kept (section_before s one k) other) m (λ j h. entry_of_other j))
