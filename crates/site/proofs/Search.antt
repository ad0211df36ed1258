-- A search of the first m cells in the library's words, for the crates above.
use Rattle.std.proofs.Common.{◌≡◌, ℕ, zero, suc, ◌≤◌, ◌<◌, Bool, true, false, ◌||◌, List, length, get_or, take, take_all, refl, sym, ◌∙◌, ap, arith, add-one}
use Rattle.std.specs.List.{list_any}
use Rattle.std.proofs.lemmas.List.Folds.{list_any_more}
use Rattle.rules.specs.Site.{any_of}

or_comm : (a b : Bool) → (a || b) ≡ (b || a)
or_comm true true = refl
or_comm true false = refl
or_comm false true = refl
or_comm false false = refl

pub any_of_first : (test : ℕ → Bool) (m : ℕ) (cells : List ℕ) → m ≤ length cells → list_any test (take m cells) ≡ any_of test m cells
unfolding any_of
any_of_first test zero cells h = refl
any_of_first test (suc m) cells h =
    let below : m < length cells = omega (arith, h) in
    let fewer : m ≤ length cells = omega (arith, h) in
    rw (sym (add-one m)) (list_any_more test cells m 0 below)
    ∙ or_comm (list_any test (take m cells)) (test (get_or cells m 0))
    ∙ ap (λ (b : Bool). test (get_or cells m 0) || b) (any_of_first test m cells fewer)

pub any_of_all : (test : ℕ → Bool) (cells : List ℕ) → list_any test cells ≡ any_of test (length cells) cells
any_of_all test cells =
    ap (list_any test) (sym (take_all (length cells) cells (omega arith))) ∙ any_of_first test (length cells) cells (omega arith)
