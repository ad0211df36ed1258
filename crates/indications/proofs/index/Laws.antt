-- The walk's count, whether the post before has set, and the index put together.
use Prim.Native.Nat.{ℕ, zero, suc, ◌+◌, ◌*◌, ◌<◌}
use mathlib.Core.Bool.{Bool, true, false, not, ◌&&◌}
use mathlib.Core.List.{List}
use mathlib.Core.Path.{◌≡◌, refl, sym, ◌∙◌, ap}
use native.Mathlib.Decide.{ℕ_discrete, dec_lt}
use native.Mathlib.Omega.{arith}
use lib.Dec.{eqb, ltb}
use borrow.Author.Tests.{lt-ltb, le-ltb, eq-eqb, ne_eqb}
use Rattle.section.specs.declared.Act.{Act}
use Rattle.section.specs.declared.Walk.{Walk}
use Rattle.section.specs.declared.Walk.TheVariants.{Turn}
use Rattle.section.specs.Bytes.{truth_number}
use Rattle.section.specs.Range.{walk_in_range}
use Rattle.section.proofs.Laws.{turn_right}
use Rattle.rules.specs.declared.Line.{Line}
use Rattle.rules.specs.declared.Site.{Site}
use Rattle.rules.specs.AllOpen.{next_to_set_before}
use Rattle.rules.specs.Indications.{set_count, is_next_to_set, lamps_at}
use Rattle.rules.specs.LampTable.{index_of}
use Rattle.rules.specs.Line.{is_materialised}
use Rattle.rules.specs.Site.{up_at, rank_at, open_at, commands, watched_occupied}
use Rattle.rules.proofs.AllOpen.{all_open_as_before}

-- a turn's post is one of the line
pub turn_below : (n : ℕ) (up : Bool) (w : Walk) (p : ℕ) (act : Act) → walk_in_range n up w ≡ true → w ≡ Turn p act → p < n
turn_below n up w p act fits is = (turn_right n up p act (rw is at fits)).0

-- every post is in service, so a post is next to set where as many have set as stand before it
as_many : (c : Line) (count j : ℕ) → (j ≡ 0 → ⊥) → eqb count j ≡ next_to_set_before c count j
as_many c count zero z = absurd (z refl)
as_many c count (suc j) z = go (ℕ_discrete count (suc j)) (dec_lt j count)
  where
    go : Dec (count ≡ suc j) → Dec (j < count) → eqb count (suc j) ≡ (ltb j count && not (ltb (suc j) count))
    go (yes e) k = rw (eq-eqb count (suc j) e, lt-ltb j count (omega arith), le-ltb (suc j) count (omega arith))
    go (no e) (yes k) = rw (ne_eqb count (suc j) e, lt-ltb j count k, lt-ltb (suc j) count (omega arith))
    go (no e) (no k) = rw (ne_eqb count (suc j) e, le-ltb j count (omega arith))

module _ (c : Line) (e : Site) (below : e.post < c.posts) where
  abbrev next : ℕ → Bool
  next count = is_next_to_set (open_at c e.track e.cvt) count (rank_at c e)

  pub next_first : (count j : ℕ) → j ≡ rank_at c e → j ≡ 0 → false ≡ next count
  next_first count j r z = sym ((all_open_as_before c e below).lamp count ∙ rw (sym r ∙ z) refl)

  pub next_later : (count j k : ℕ) → j ≡ rank_at c e → (j ≡ 0 → ⊥) → k ≡ count → eqb k j ≡ next count
  next_later count j k r z h = rw (h, r) (as_many c count (rank_at c e) (λ q. z (r ∙ q)) ∙ sym ((all_open_as_before c e below).lamp count))

-- the bits, put together
pub index_parts :
    (c : Line) (e : Site) (trains : List ℕ) (post m n o k : ℕ) {materialised next occupied commanded : Bool}
    → post ≡ truth_number e.own.device * 2 + truth_number e.own.faults.one * 8 + truth_number e.own.faults.three * 16
    + truth_number e.own.permission * 128
    → materialised ≡ is_materialised c → m ≡ truth_number materialised
    → next ≡ is_next_to_set (open_at c e.track e.cvt) (set_count c.posts (up_at c e) e.walk) (rank_at c e) → n ≡ truth_number next
    → occupied ≡ watched_occupied c e trains → o ≡ truth_number occupied → commanded ≡ commands c e → k ≡ truth_number commanded
    → post + m + n * 4 + o * 32 + k * 64 ≡ index_of (lamps_at c e trains)
unfolding index_of lamps_at
index_parts c e trains post m n o k ep em tm en tn eo to ek tk =
    let m' : m ≡ truth_number (is_materialised c) = tm ∙ ap truth_number em in
    let n' : n ≡ truth_number (is_next_to_set (open_at c e.track e.cvt) (set_count c.posts (up_at c e) e.walk) (rank_at c e)) = tn ∙ ap truth_number en in
    let o' : o ≡ truth_number (watched_occupied c e trains) = to ∙ ap truth_number eo in
    let k' : k ≡ truth_number (commands c e) = tk ∙ ap truth_number ek in
    omega (arith, ep, m', n', o', k')
