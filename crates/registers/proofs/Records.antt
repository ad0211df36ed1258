-- The records of a book, one by one.
use mathlib.Core.Path.{◌≡◌}
use mathlib.Core.Bool.{true, false}
use mathlib.Core.List.{List}
use Prim.Native.Nat.{ℕ, ◌≤◌, ◌<◌}
use native.Mathlib.Omega.{arith}
use Rattle.std.specs.Prelude.{Option, Some, None, MatchOption}
use borrow.Author.Tests.{lt-ltb, le-ltb}
use Rattle.file_tests.proofs.Laws.{leading_found}
use Rattle.registers.specs.Books.{well_at, record_count, first_malformed, some_malformed}

-- what `find` says of the first malformed record
pub malformed_found :
    (book : List ℕ) (m : ℕ) (r : Option ℕ) → m ≡ record_count book →
    MatchOption r ((k : ℕ) → 0 ≤ k → k < m → well_at book k ≡ true)
    (λ i. (0 ≤ i) × (i < m) × (well_at book i ≡ false) × ((k : ℕ) → 0 ≤ k → k < i → well_at book k ≡ true)) →
    MatchOption r (some_malformed book ≡ false) (λ i. (some_malformed book ≡ true) × (i ≡ first_malformed book))
unfolding some_malformed first_malformed
malformed_found book m None c h =
    let e = leading_found (well_at book) m m None (omega arith) (λ q. absurd (omega arith)) h in
    rw (← c, ← e, le-ltb m m (omega arith))
malformed_found book m (Some i) c h =
    let e = leading_found (well_at book) m m (Some i) (omega arith) (λ q. absurd (omega arith)) h in
    (rw (← c, ← e, lt-ltb i m h.1), rw (← c) e)
