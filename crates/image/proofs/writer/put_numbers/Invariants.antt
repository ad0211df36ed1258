-- After i turns the first i of them are put.
use Rattle.std.proofs.Common.{◌≡◌, ℕ, get_or}
use Rattle.text.specs.Put.{put}
use Rattle.text.specs.Text.{first_texts}
use Rattle.layout.specs.Layout.{le16_bytes}
use Rattle.image.proofs.writer.put_numbers.Given as goal

abbrev pub invariant-loop-i : goal.invariant-loop-i
invariant-loop-i l = l.text ≡ put l.initial.text (first_texts (λ (p : ℕ). le16_bytes (get_or l.numbers p 0)) l.i)
