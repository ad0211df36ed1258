-- What the definition promises, in the request's words. Proved in proofs/Promises.antt; EmptyBooks in Examples, SignedOffsets in SignedOffsets.
use Rattle.std.specs.Prelude.{◌≡◌, true, false, cond, ◌&&◌, ◌||◌, List, [], ℕ, ◌+◌, ◌<◌, ◌≤◌, pos, ◌+ℤ◌, Some, None, Ok, Err}
use Rattle.std.specs.Int.Signed.{le_z}
use Rattle.registers.specs.declared.Book.TheVariants.{First, Second}
use Rattle.registers.specs.declared.Mismatch.TheVariants.{Malformed}
use Rattle.registers.specs.declared.TravelRange.{TravelRange}
use Rattle.registers.specs.Books.{longest_travel, largest_offset, well_at, some_malformed}
use Rattle.registers.specs.Books.{signed_offset, first_clock, second_clock, arrives, fits, smallest_offset, comparison}
use Rattle.registers.specs.Answers.{malformed_record, refusal_number}
use Rattle.registers.specs.Walk.{walked_through, lower_end, none_left}

-- "24: a malformed record": the number comes exactly where one of the books has such a record
abbrev pub RefusedWith24 : Type 0
RefusedWith24 =
    (first second : List ℕ) →
    refusal_number (comparison first second) ≡ cond (some_malformed first || some_malformed second) malformed_record 0

-- the first record that is not well formed, by its index
abbrev pub FirstSuch : List ℕ → ℕ → Type 0
FirstSuch book i = (well_at book i ≡ false) × ((j : ℕ) → j < i → well_at book j ≡ true)

-- "with book and index of the first such, first book first"
abbrev pub FirstBookFirst : Type 0
FirstBookFirst =
    (first second : List ℕ) (i : ℕ) →
    (comparison first second ≡ Err (Malformed First i) → FirstSuch first i)
    × (comparison first second ≡ Err (Malformed Second i) → (some_malformed first ≡ false) × FirstSuch second i)

-- "the smallest clock offset from −120 to 120 seconds .. with which every message arrives 0 to 60 seconds after it was sent"
abbrev pub SmallestOffset : Type 0
SmallestOffset =
    (first second : List ℕ) (k : ℕ) → comparison first second ≡ Ok (Some k) →
    (k ≤ largest_offset + largest_offset) × ((fits first second k ≡ true) × ((j : ℕ) → j < k → fits first second j ≡ false))

-- no offset from −120 to 120 fits
abbrev pub NoneFits : List ℕ → List ℕ → Type 0
NoneFits first second = (k : ℕ) → k ≤ largest_offset + largest_offset → fits first second k ≡ false

-- "The reply "no offset" comes only if none exists."
abbrev pub OnlyIfNoneExists : Type 0
OnlyIfNoneExists =
    (first second : List ℕ) → comparison first second ≡ Ok None → NoneFits first second

-- The walks over the two pairs of lists leave an intersection of intervals. Its lower end is the smallest offset that fits, and it is empty
-- exactly where none fits.
abbrev pub Intersection : Type 0
Intersection =
    (first second : List ℕ) (one other : TravelRange) → some_malformed first ≡ false → some_malformed second ≡ false →
    walked_through first second ≡ Ok one → walked_through second first ≡ Ok other →
    (none_left one other ≡ false → smallest_offset first second ≡ lower_end one other)
    × ((none_left one other ≡ true → NoneFits first second) × (NoneFits first second → none_left one other ≡ true))

-- "Two empty books match with offset −120."
abbrev pub EmptyBooks : Type 0
EmptyBooks = comparison [] [] ≡ Ok (Some 0)

-- The clocks say what a signed offset says: of a message that the first book sent at second x and the second received at y,
-- x ≤ y + offset ≤ x + 60; of one that the second book sent at x and the first received at y, x + offset ≤ y ≤ x + 60 + offset.
abbrev pub SignedOffsets : Type 0
SignedOffsets =
    (k x y : ℕ) →
    (arrives (first_clock x) (second_clock k y)
    ≡ (le_z (pos x) (pos y +ℤ signed_offset k) && le_z (pos y +ℤ signed_offset k) (pos (x + longest_travel))))
    × (arrives (second_clock k x) (first_clock y)
    ≡ (le_z (pos x +ℤ signed_offset k) (pos y) && le_z (pos y) (pos (x + longest_travel) +ℤ signed_offset k)))
