-- The part of the index in the lamp table by what the post's record keeps.
use Rattle.std.specs.Prelude.{ℕ, ◌+◌, ◌*◌}
use Rattle.section.specs.declared.Post.{Post}
use Rattle.section.specs.Bytes.{truth_number}

abbrev pub index_of_post : Post → ℕ
index_of_post own = truth_number own.device * 2 + truth_number own.faults.one * 8 + truth_number own.faults.three * 16 + truth_number own.permission * 128
