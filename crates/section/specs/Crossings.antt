-- Level crossings in the settings (document 02, request 1): "Each byte, for both tracks, is 255 (unused, these last) or a block section number,
-- plus 128 where no counter-direction announcing zones exist."
use Rattle.std.specs.Prelude.{ℕ, zero, suc, ◌+◌, ◌*◌, ◌-◌, ◌/◌, ◌%◌, Bool, true, not, ◌&&◌, ◌||◌, List, replicate, eqb, ltb, leb}
use Rattle.section.specs.Bytes.{byte}
use Rattle.section.specs.Numbers.{most_crossings, unused, no_zones}

abbrev pub no_crossings : List ℕ
no_crossings = replicate most_crossings unused

abbrev pub is_used : ℕ → Bool
is_used b = not (eqb b unused)

abbrev pub crossing_block : ℕ → ℕ
crossing_block b = b % no_zones

-- no counter-direction announcing zones exist
abbrev pub lacks_zones : ℕ → Bool
lacks_zones b = leb no_zones b

-- a crossing lies in block section i
abbrev pub lies_in : ℕ → ℕ → Bool
lies_in i b = is_used b && eqb (crossing_block b) i

-- used "first": some byte is used if this one is
abbrev pub has_crossings : List ℕ → Bool
has_crossings l = is_used (byte l 0)

-- ## Their range

-- a byte that names a block section of a line of n posts, or is unused
abbrev pub crossing_in_range : ℕ → ℕ → Bool
crossing_in_range n b = not (is_used b) || (ltb b 256 && leb (crossing_block b) (n - 2))

-- "The section numbers never fall, and within one section bytes without the 128 stand first"; an unused byte stands after all others
abbrev pub crossing_order : ℕ → ℕ
crossing_order b = crossing_block b * 2 + b / no_zones

-- byte i is not less than the one before it; the first has none before it
abbrev pub never_falls : List ℕ → ℕ → Bool
never_falls l zero = true
never_falls l (suc i) = leb (crossing_order (byte l i)) (crossing_order (byte l (suc i)))

-- the first m bytes, on a line of n posts
unfoldable pub crossings_in_range : ℕ → ℕ → List ℕ → Bool
crossings_in_range n zero l = true
crossings_in_range n (suc m) l = (crossing_in_range n (byte l m) && never_falls l m) && crossings_in_range n m l
