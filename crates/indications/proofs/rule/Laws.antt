-- An entry put together.
use Prim.Native.Nat.{ℕ, ◌+◌, ◌*◌}
use mathlib.Core.Bool.{Bool, cond, ◌&&◌, ◌||◌}
use mathlib.Core.Path.{◌≡◌, refl}
use Rattle.section.specs.Bytes.{truth_number}
use Rattle.rules.specs.Indications.{circulation, troncon}
use Rattle.rules.specs.LampTable.{has_bit, lamps_of, entry_of, lamp_entry}

-- the parts of an entry, computed from the bits of its index
pub entry_parts :
    (index shown part permission : ℕ) {materialised next flashing fault3 cvt commands fault1 occupied may : Bool}
    → materialised ≡ has_bit 1 index → next ≡ has_bit 4 index → flashing ≡ (materialised && next) → fault3 ≡ has_bit 16 index → cvt ≡ has_bit 2 index
    → shown ≡ cond fault3 0 (cond flashing (cond cvt 3 4) (cond cvt 2 1)) → commands ≡ has_bit 64 index → fault1 ≡ has_bit 8 index
    → occupied ≡ has_bit 32 index → part ≡ cond commands (cond (fault1 || occupied) 2 1) 0 → may ≡ has_bit 128 index
    → permission ≡ truth_number may → shown + 5 * part + 15 * permission ≡ lamp_entry index
unfolding lamp_entry entry_of lamps_of circulation troncon
entry_parts index shown part permission e₁ e₄ ef e₁₆ e₂ es e₆₄ e₈ e₃₂ ep e₁₂₈ em = rw (es, ep, em, ef, e₁, e₄, e₁₆, e₂, e₆₄, e₈, e₃₂, e₁₂₈) refl
