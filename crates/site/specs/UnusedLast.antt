-- The bytes of the crossings: the unused ones are last.
use Rattle.std.specs.Prelude.{ℕ, ◌≤◌, ◌<◌, List, ◌≡◌}
use Rattle.section.specs.Bytes.{byte}
use Rattle.section.specs.Numbers.{most_crossings, unused}

-- "255 (unused, these last)": what follows an unused byte is unused
abbrev pub UnusedLast : List ℕ → Type 0
UnusedLast l = (i k : ℕ) → i ≤ k → k < most_crossings → byte l i ≡ unused → byte l k ≡ unused
