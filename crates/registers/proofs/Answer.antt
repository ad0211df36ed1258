-- The answer of the two walks is the definition's: in books without a malformed record every second is a second of the day, so that each walk says
-- what `Offset` says of it.
use mathlib.Core.Path.{◌≡◌, refl}
use mathlib.Core.Bool.{Bool, true, false, not, cond, ◌&&◌}
use mathlib.Core.List.{List, ◌∷◌}
use Prim.Native.Nat.{ℕ, zero, suc, ◌+◌, ◌-◌, ◌*◌, ◌/◌, ◌<◌, ◌≤◌}
use native.Mathlib.Omega.{arith}
use Rattle.std.specs.Prelude.{Option, Result, Ok, Err}
use lib.ListN.{length}
use lib.Dec.{eqb, leb}
use borrow.Author.Tests.{leb-true, ltb-false}
use Rattle.section.specs.Bytes.{within}
use Rattle.section.proofs.Laws.{and_parts, and_right}
use Rattle.layout.specs.Layout.{step_count}
use Rattle.file_tests.specs.Tests.{leading}
use Rattle.file_tests.proofs.Laws.{all_pass}
use Rattle.registers.specs.declared.Entry.{Entry}
use Rattle.registers.specs.declared.TravelRange.{TravelRange}
use Rattle.registers.specs.declared.Book.{Book}
use Rattle.registers.specs.declared.Book.TheVariants.{First, Second}
use Rattle.registers.specs.declared.Mismatch.{Mismatch}
use Rattle.registers.specs.declared.Mismatch.TheVariants.{Differs, Malformed}
use Rattle.registers.specs.Books.{longest_travel, largest_offset}
use Rattle.registers.specs.Books.{sent_mark, received_mark, last_second, entry_at, entry_well_formed, earlier_at, well_at}
use Rattle.registers.specs.Books.{first_malformed, some_malformed}
use Rattle.registers.specs.Books.{entries_from, going, entries, sent, received, same_list, first_difference}
use Rattle.registers.specs.Books.{first_clock, second_clock, all_arrive, fits, smallest_offset, offset_answer, match_answer, comparison}
use Rattle.registers.specs.Walk.{wide, no_travel, going_from, walked, with_sender, walked_through, offset_within}
use Rattle.registers.proofs.Offset.{Early, Says, says, first_inside, first_arriving, second_inside, second_arriving}
use Rattle.registers.proofs.Offset.{InAll, answer_for, lower_end_smallest}

-- ## Seconds of the day

entry_early : (earlier : ℕ) (e : Entry) → entry_well_formed earlier e ≡ true → e.second ≤ wide
unfolding entry_well_formed
entry_early earlier e t =
    let a = and_right (within 1 4 e.announcement) _ t in
    let b = and_right (leb e.direction 1) _ a in
    let c = and_right (leb e.track 1) _ b in
    let d = and_right (eqb e.zero 0) _ c in
    let h = leb-true e.second last_second (and_parts (leb e.second last_second) (leb earlier e.second) d).0 in
    omega arith

well_early : (book : List ℕ) (i : ℕ) → well_at book i ≡ true → (entry_at book i).second ≤ wide
unfolding well_at
well_early book i t =
    entry_early (earlier_at book i) (entry_at book i)
    (and_right (leb (i * 8 + 8) (length book)) (entry_well_formed (earlier_at book i) (entry_at book i)) t)

going_early :
    (d : ℕ) (book : List ℕ) (n i : ℕ) → ((k : ℕ) → k < i + n → (entry_at book k).second ≤ wide) → Early (going d (entries_from book i n))
unfolding going entries_from Early
going_early d book zero i h = omega arith
going_early d book (suc n) i h =
    go (eqb (entry_at book i).direction d) (h i (omega arith)) (going_early d book n (suc i) (λ k q. h k (omega arith)))
  where
    go :
        (b : Bool) → (entry_at book i).second ≤ wide → Early (going d (entries_from book (suc i) n)) →
        Early (cond b (entry_at book i ∷ going d (entries_from book (suc i) n)) (going d (entries_from book (suc i) n)))
    go true p q = (p, q)
    go false p q = q

-- a book without a malformed record
pub sent_early : (book : List ℕ) → some_malformed book ≡ false → Early (sent book)
unfolding some_malformed first_malformed step_count sent entries
sent_early book e =
    let n = (length book + 7) / 8 in
    let all = all_pass (well_at book) n (ltb-false (leading (well_at book) n) n e) in
    going_early sent_mark book (length book / 8) 0 (λ k q. well_early book k (all k (omega arith)))

-- the walk's lists are the book's
pub going_sent : (book : List ℕ) → going_from sent_mark book 0 ≡ sent book
unfolding going_from sent entries
going_sent book = let z : length book / 8 - 0 ≡ length book / 8 = omega arith in rw z

pub going_received : (book : List ℕ) → going_from received_mark book 0 ≡ received book
unfolding going_from received entries
going_received book = let z : length book / 8 - 0 ≡ length book / 8 = omega arith in rw z

-- ## Both walks

-- the answer of two walks: over what the first book sent, and over what the second sent
abbrev pub answer_of : Result TravelRange (Mismatch Book) → Result TravelRange (Mismatch Book) → Result (Option ℕ) (Mismatch Book)
answer_of (Err m) other = Err m
answer_of (Ok one) (Err m) = Err m
answer_of (Ok one) (Ok other) = Ok (offset_within one other)

-- an offset with which all messages of both sent lists arrive
abbrev pub all_in : List Entry → List Entry → List Entry → List Entry → ℕ → Bool
all_in s₀ r₀ s₁ r₁ k = all_arrive first_clock (second_clock k) s₀ r₀ && all_arrive (second_clock k) first_clock s₁ r₁

module _ (s₀ r₀ s₁ r₁ : List Entry) (e₀ : Early s₀) (e₁ : Early s₁) where
  first_says :
      (k : ℕ) → k ≤ 240 →
      Says first_clock (second_clock k) (wide + largest_offset - k) (wide + largest_offset + longest_travel - k) 0 no_travel s₀ r₀
      (walked 0 no_travel s₀ r₀)
  first_says k h =
      says first_clock (second_clock k) (wide + largest_offset - k) (wide + largest_offset + longest_travel - k) (first_inside k h)
      (first_arriving k h) s₀ r₀ 0 no_travel e₀

  second_says :
      (k : ℕ) → k ≤ 240 →
      Says (second_clock k) first_clock (wide + k - largest_offset) (wide + k + longest_travel - largest_offset) 0 no_travel s₁ r₁
      (walked 0 no_travel s₁ r₁)
  second_says k h =
      says (second_clock k) first_clock (wide + k - largest_offset) (wide + k + longest_travel - largest_offset) (second_inside k h)
      (second_arriving k h) s₁ r₁ 0 no_travel e₁

  -- the first lists match, and the second do
  module _
      (one other : TravelRange)
      (w : walked 0 no_travel s₀ r₀ ≡ Ok one)
      (v : walked 0 no_travel s₁ r₁ ≡ Ok other) where
    arrive_bounds : (k : ℕ) → k ≤ 240 → all_in s₀ r₀ s₁ r₁ k ≡ true → InAll one other k
    unfolding Says
    arrive_bounds k h t =
        let p = and_parts (all_arrive first_clock (second_clock k) s₀ r₀) (all_arrive (second_clock k) first_clock s₁ r₁) t in
        let a = (rw w at (first_says k h)).1.0 (omega arith) (omega arith) p.0 in
        let b = (rw v at (second_says k h)).1.0 (omega arith) (omega arith) p.1 in
        (a.0, (a.1, (b.0, b.1)))

    bounds_arrive : (k : ℕ) → k ≤ 240 → InAll one other k → all_in s₀ r₀ s₁ r₁ k ≡ true
    unfolding Says
    bounds_arrive k h b =
        rw (((rw w at (first_says k h)).1.1 b.0 b.1.0).0, ((rw v at (second_says k h)).1.1 b.1.1.0 b.1.1.1).0)

    pub offset_is : offset_within one other ≡ answer_for (all_in s₀ r₀ s₁ r₁)
    offset_is = lower_end_smallest one other (all_in s₀ r₀ s₁ r₁) arrive_bounds bounds_arrive

  pub answer_is :
      (w v : Result TravelRange ℕ) → walked 0 no_travel s₀ r₀ ≡ w → walked 0 no_travel s₁ r₁ ≡ v →
      answer_of (with_sender First w) (with_sender Second v)
      ≡ cond (not (same_list s₀ r₀)) (Err (Differs First (first_difference s₀ r₀)))
      (cond (not (same_list s₁ r₁)) (Err (Differs Second (first_difference s₁ r₁))) (Ok (answer_for (all_in s₀ r₀ s₁ r₁))))
  unfolding with_sender Says
  answer_is (Err n) v e f =
      let h = rw e at (first_says 0 (omega arith)) in
      let i : n ≡ first_difference s₀ r₀ = omega (arith, h.1) in
      rw (h.0, i)
  answer_is (Ok one) (Err n) e f =
      let h = rw e at (first_says 0 (omega arith)) in
      let j = rw f at (second_says 0 (omega arith)) in
      let i : n ≡ first_difference s₁ r₁ = omega (arith, j.1) in
      rw (h.0, j.0, i)
  answer_is (Ok one) (Ok other) e f =
      let h = rw e at (first_says 0 (omega arith)) in
      let j = rw f at (second_says 0 (omega arith)) in
      rw (h.0, j.0, offset_is one other e f)

-- ## The answer of the code

module _ (first second : List ℕ) where
  pub malformed_first :
      some_malformed first ≡ true → Err (Malformed First (first_malformed first)) ≡ comparison first second
  unfolding comparison
  malformed_first m = rw m

  pub malformed_second :
      some_malformed first ≡ false → some_malformed second ≡ true → Err (Malformed Second (first_malformed second)) ≡ comparison first second
  unfolding comparison
  malformed_second w m = rw (w, m)

  module _ (a : some_malformed first ≡ false) (b : some_malformed second ≡ false) where
    compared :
        (w v : Result TravelRange (Mismatch Book)) →
        w ≡ with_sender First (walked 0 no_travel (going_from sent_mark first 0) (going_from received_mark second 0)) →
        v ≡ with_sender Second (walked 0 no_travel (going_from sent_mark second 0) (going_from received_mark first 0)) →
        answer_of w v ≡ comparison first second
    unfolding comparison match_answer offset_answer smallest_offset fits answer_for
    compared w v e f =
        rw (a, b, e, f, going_sent first, going_received second, going_sent second, going_received first)
        (answer_is (sent first) (received second) (sent second) (received first) (sent_early first a) (sent_early second b) _ _ refl refl)

    pub differs_first :
        (m : Mismatch Book) →
        Err m ≡ with_sender First (walked 0 no_travel (going_from sent_mark first 0) (going_from received_mark second 0)) →
        Err m ≡ comparison first second
    differs_first m e = compared (Err m) _ e refl

    pub differs_second :
        (one : TravelRange) (m : Mismatch Book) →
        Ok one ≡ with_sender First (walked 0 no_travel (going_from sent_mark first 0) (going_from received_mark second 0)) →
        Err m ≡ with_sender Second (walked 0 no_travel (going_from sent_mark second 0) (going_from received_mark first 0)) →
        Err m ≡ comparison first second
    differs_second one m = compared (Ok one) (Err m)

    pub matches :
        (one other : TravelRange) →
        Ok one ≡ with_sender First (walked 0 no_travel (going_from sent_mark first 0) (going_from received_mark second 0)) →
        Ok other ≡ with_sender Second (walked 0 no_travel (going_from sent_mark second 0) (going_from received_mark first 0)) →
        Ok (offset_within one other) ≡ comparison first second
    matches one other = compared (Ok one) (Ok other)

  -- the offset's answer, where both walks say that the lists are the same
  pub offset_answer_is :
      (one other : TravelRange) → some_malformed first ≡ false → some_malformed second ≡ false → walked_through first second ≡ Ok one →
      walked_through second first ≡ Ok other → offset_within one other ≡ offset_answer first second
  unfolding walked_through offset_answer smallest_offset fits answer_for
  offset_answer_is one other a b w v =
      offset_is (sent first) (received second) (sent second) (received first) (sent_early first a) (sent_early second b) one other w v
