-- The lamp table. The index of eight bits has these bits again, so the entry there is theirs; an entry taken apart is what a post with these bits
-- shows.
use Prim.Native.Nat.{ℕ, ◌+◌, ◌*◌, ◌/◌, ◌%◌, ◌≤◌, ◌<◌}
use mathlib.Core.Bool.{Bool, true, false, ◌&&◌, ◌||◌, cond}
use mathlib.Core.Path.{◌≡◌, refl, sym, ◌∙◌, ap}
use native.Mathlib.Omega.{arith}
use lib.Dec.{eqb}
use Rattle.section.specs.Bytes.{truth_number}
use Rattle.section.specs.declared.Indications.{Indications}
use Rattle.rules.specs.Indications.{Lamps, circulation, troncon, shown}
use Rattle.rules.specs.LampTable.{table_length, index_of, has_bit, lamps_of, entry_of, lamp_entry, taken_apart}

-- ## The index has the bits that it was made of

small : (b : Bool) → truth_number b ≤ 1
small true = omega arith
small false = omega arith

again : (b : Bool) → eqb (truth_number b) 1 ≡ b
again true = refl
again false = refl

-- eight numbers of one bit, and what they add
record Bits (a b c d e f g h i : ℕ) : Type 0 where
  one : i / 1 % 2 ≡ a
  two : i / 2 % 2 ≡ b
  four : i / 4 % 2 ≡ c
  eight : i / 8 % 2 ≡ d
  sixteen : i / 16 % 2 ≡ e
  thirty_two : i / 32 % 2 ≡ f
  sixty_four : i / 64 % 2 ≡ g
  hundred_twenty_eight : i / 128 % 2 ≡ h
  below : i < table_length

bits :
    (a b c d e f g h i : ℕ) → a ≤ 1 → b ≤ 1 → c ≤ 1 → d ≤ 1 → e ≤ 1 → f ≤ 1 → g ≤ 1 → h ≤ 1
    → i ≡ a * 1 + b * 2 + c * 4 + d * 8 + e * 16 + f * 32 + g * 64 + h * 128 → Bits a b c d e f g h i
bits a b c d e f g h i ha hb hc hd he hf hg hh sum = record {
  one = omega arith;
  two = omega arith;
  four = omega arith;
  eight = omega arith;
  sixteen = omega arith;
  thirty_two = omega arith;
  sixty_four = omega arith;
  hundred_twenty_eight = omega arith;
  below = omega arith;
}

module _ (l : Lamps) where
  abbrev number : Bool → ℕ
  number b = truth_number b

  of_lamps :
      Bits (number l.materialised) (number l.cvt) (number l.next_to_set) (number l.fault1) (number l.fault3) (number l.occupied)
      (number l.commands) (number l.permission) (index_of l)
  unfolding index_of
  of_lamps =
      bits _ _ _ _ _ _ _ _ _ (small l.materialised) (small l.cvt) (small l.next_to_set) (small l.fault1) (small l.fault3)
      (small l.occupied) (small l.commands) (small l.permission) refl

  pub index_below : index_of l < table_length
  index_below = of_lamps.below

  is_bit : (weight : ℕ) (b : Bool) → index_of l / weight % 2 ≡ truth_number b → has_bit weight (index_of l) ≡ b
  is_bit weight b h = ap (λ (x : ℕ). eqb x 1) h ∙ again b

  lamps_again : lamps_of (index_of l) ≡ l
  unfolding lamps_of
  lamps_again =
      rw (
        is_bit 1 l.materialised of_lamps.one,
        is_bit 2 l.cvt of_lamps.two,
        is_bit 4 l.next_to_set of_lamps.four,
        is_bit 8 l.fault1 of_lamps.eight,
        is_bit 16 l.fault3 of_lamps.sixteen,
        is_bit 32 l.occupied of_lamps.thirty_two,
        is_bit 64 l.commands of_lamps.sixty_four,
        is_bit 128 l.permission of_lamps.hundred_twenty_eight,
      ) refl

-- ## An entry taken apart

-- by the tests of CIRCULATION and of TRONÇON
pub at_most_4 : (dark flashing cvt : Bool) → cond dark 0 (cond flashing (cond cvt 3 4) (cond cvt 2 1)) ≤ 4
at_most_4 true flashing cvt = omega arith
at_most_4 false true true = omega arith
at_most_4 false true false = omega arith
at_most_4 false false true = omega arith
at_most_4 false false false = omega arith

pub at_most_2 : (commands red : Bool) → cond commands (cond red 2 1) 0 ≤ 2
at_most_2 true true = omega arith
at_most_2 true false = omega arith
at_most_2 false red = omega arith

circulation_small : (l : Lamps) → circulation l ≤ 4
unfolding circulation
circulation_small l = at_most_4 l.fault3 (l.materialised && l.next_to_set) l.cvt

troncon_small : (l : Lamps) → troncon l ≤ 2
unfolding troncon
troncon_small l = at_most_2 l.commands (l.fault1 || l.occupied)

-- three numbers, and what they add
apart :
    (x y z n : ℕ) → x ≤ 4 → y ≤ 2 → z ≤ 1 → n ≡ x + 5 * y + 15 * z
    → ◌≡◌ {A = Indications} (record { circulation = n % 5; troncon = n / 5 % 3; permission = n / 15 }) (record { circulation = x; troncon = y; permission = z })
apart x y z n hx hy hz sum =
    let first : n % 5 ≡ x = omega arith in
    let fifths : n / 5 ≡ y + 3 * z = omega arith in
    let second : n / 5 % 3 ≡ y = ap (λ (k : ℕ). k % 3) fifths ∙ omega arith in
    let third : n / 15 ≡ z = omega arith in
    rw (first, second, third) refl

-- what the table has at the index of eight bits, taken apart, is what a post with these bits shows
pub read_from_table : (l : Lamps) {index entry : ℕ} → index ≡ index_of l → entry ≡ lamp_entry index → taken_apart entry ≡ shown l
unfolding taken_apart lamp_entry entry_of shown
read_from_table l {index} {entry} ei ee =
    let same : lamps_of index ≡ l = ap lamps_of ei ∙ lamps_again l in
    let sum : entry ≡ circulation l + 5 * troncon l + 15 * truth_number l.permission = rw same at ee in
    apart (circulation l) (troncon l) (truth_number l.permission) entry (circulation_small l) (troncon_small l) (small l.permission) sum
