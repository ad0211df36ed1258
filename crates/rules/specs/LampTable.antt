-- The lamp table (document 02, request 6): the index of a state's eight bits, and the rule of the entries.
use Rattle.std.specs.Prelude.{ℕ, ◌+◌, ◌*◌, ◌/◌, ◌%◌, Bool, List, eqb}
use Rattle.section.specs.Bytes.{truth_number}
use Rattle.section.specs.declared.Indications.{Indications}
use Rattle.section.specs.Items.{items}
use Rattle.rules.specs.Indications.{Lamps, circulation, troncon}

-- "It has 256 entries"
abbrev pub table_length : ℕ
table_length = 256

-- "the index adds 1 for materialised, 2 for device CVT, 4 for previous post set in this reversal and this one not, 8 for fault 1, 16 for fault 3,
-- 32 for the part ahead occupied, 64 for a post that commands a part .., 128 for start permission"
unfoldable pub index_of : Lamps → ℕ
index_of l =
    truth_number l.materialised * 1
    + truth_number l.cvt * 2
    + truth_number l.next_to_set * 4
    + truth_number l.fault1 * 8
    + truth_number l.fault3 * 16
    + truth_number l.occupied * 32
    + truth_number l.commands * 64
    + truth_number l.permission * 128

-- whether an index has what adds that much
abbrev pub has_bit : ℕ → ℕ → Bool
has_bit weight index = eqb (index / weight % 2) 1

-- the eight bits of an index; also of one that no state gives
unfoldable pub lamps_of : ℕ → Lamps
lamps_of index = record {
  materialised = has_bit 1 index;
  cvt = has_bit 2 index;
  next_to_set = has_bit 4 index;
  fault1 = has_bit 8 index;
  fault3 = has_bit 16 index;
  occupied = has_bit 32 index;
  commands = has_bit 64 index;
  permission = has_bit 128 index;
}

-- "The entry is CIRCULATION + 5 × TRONÇON + 15 × permission (0 or 1)."
unfoldable pub entry_of : Lamps → ℕ
entry_of l = circulation l + 5 * troncon l + 15 * truth_number l.permission

-- the rule of the table
unfoldable pub lamp_entry : ℕ → ℕ
lamp_entry index = entry_of (lamps_of index)

-- the whole table
unfoldable pub lamp_table : List ℕ
lamp_table = items lamp_entry table_length

-- an entry taken apart
unfoldable pub taken_apart : ℕ → Indications
taken_apart entry = record { circulation = entry % 5; troncon = entry / 5 % 3; permission = entry / 15 }
