-- Sets of kinds, bit k for kind k. A field x has a largest value m, and a kind has it (`one`), may have it (`zero_too`) or has it not: above m no test
-- of the field passes, at 0 it passes in the kinds that need not have it, and from 1 to m in those that may. A set has the kinds that a test names:
-- the checker computes both for every kind, and the law of items is the test at each kind.
use Rattle.std.proofs.Common.{ℕ, suc, ◌+◌, ◌/◌, ◌%◌, ◌^◌, ◌<◌, ◌≤◌, Bool, true, false, not, cond, ◌&&◌, ◌||◌, List, get_or, eqb, leb}
use Rattle.std.proofs.Common.{◌≡◌, ◌∙◌, refl, sym, ap, ⊎_elim, arith}
use Rattle.std.proofs.lemmas.Bool.{cases_eq, cases_lt, le-leb, lt-leb, ne_eqb}
use Rattle.section.specs.Bytes.{within}
use Rattle.section.specs.Items.{items}
use Rattle.section.specs.Numbers.{last_kind}
use Rattle.section.proofs.Items.{item_at}

abbrev pub has : ℕ → ℕ → Bool
has set kind = eqb (set / 2 ^ kind % 2) 1

-- a test of kinds, for all of them
abbrev pub table : (ℕ → Bool) → List Bool
table test = items test (suc last_kind)

same_kinds : (test other : ℕ → Bool) → table test ≡ table other → (kind : ℕ) → kind ≤ last_kind → test kind ≡ other kind
same_kinds test other e kind h =
    sym (item_at test false (suc last_kind) kind (omega (arith, h)))
    ∙ ap (λ (l : List Bool). get_or l kind false) e
    ∙ item_at other false (suc last_kind) kind (omega (arith, h))

-- the paper's test of a field
unfoldable pub field_test : ℕ → ℕ → Bool → Bool → Bool
field_test m x one zero_too = cond one (within 1 m x) (cond zero_too (leb x m) (eqb x 0))

none_above : (m x : ℕ) (one zero_too : Bool) → m < x → field_test m x one zero_too ≡ false
unfolding within field_test
none_above m x true zero_too h = rw (le-leb 1 x (omega arith), lt-leb x m h) refl
none_above m x false true h = lt-leb x m h
none_above m x false false h = ne_eqb x 0 (λ e. omega (arith, e, h))

at_zero : (m : ℕ) (one zero_too : Bool) → field_test m 0 one zero_too ≡ not one
unfolding within field_test
at_zero m true zero_too = refl
at_zero m false true = le-leb 0 m (omega arith)
at_zero m false false = refl

up_to : (m x : ℕ) (one zero_too : Bool) → x ≤ m → (x ≡ 0 → ⊥) → field_test m x one zero_too ≡ (one || zero_too)
unfolding within field_test
up_to m x true zero_too h k = rw (le-leb 1 x (omega (arith, k)), le-leb x m h) refl
up_to m x false true h k = le-leb x m h
up_to m x false false h k = ne_eqb x 0 k

module _ (one zero_too : ℕ → Bool) (zero other : ℕ) where
  pub by_sets :
      table (has zero) ≡ table (λ k. not (one k)) → table (has other) ≡ table (λ k. one k || zero_too k) → (m x kind : ℕ) → kind ≤ last_kind →
      (leb x m && has (cond (eqb x 0) zero other) kind) ≡ field_test m x (one kind) (zero_too kind)
  by_sets e f m x kind h = ⊎_elim above (λ few. ⊎_elim (none few) (some few) (cases_eq x 0)) (cases_lt m x)
    where
      above : m < x → (leb x m && has (cond (eqb x 0) zero other) kind) ≡ field_test m x (one kind) (zero_too kind)
      above h = rw (lt-leb x m h) (sym (none_above m x (one kind) (zero_too kind) h))

      none : x ≤ m → x ≡ 0 → (leb x m && has (cond (eqb x 0) zero other) kind) ≡ field_test m x (one kind) (zero_too kind)
      none few is =
          rw (le-leb x m few, is) (same_kinds (has zero) (λ k. not (one k)) e kind h ∙ sym (at_zero m (one kind) (zero_too kind)))

      some : x ≤ m → (x ≡ 0 → ⊥) → (leb x m && has (cond (eqb x 0) zero other) kind) ≡ field_test m x (one kind) (zero_too kind)
      some few k =
          rw (le-leb x m few, ne_eqb x 0 k)
          (same_kinds (has other) (λ k. one k || zero_too k) f kind h ∙ sym (up_to m x (one kind) (zero_too kind) few k))
