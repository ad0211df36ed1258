use Rattle.std.proofs.Common.{◌≡◌, ℕ, get_or, rules, arith}
use Rattle.text.proofs.Put.{room_for_more, one_more}
use Rattle.section.specs.Numbers.{most_blocks}
use Rattle.layout.specs.Layout.{le16_bytes}
use Rattle.image.specs.Image.{number_length}
use Rattle.image.proofs.Laws.{le16_length}
use Rattle.image.proofs.writer.put_numbers.Goals as goal

pub put_text-requires : goal.put_text-requires
unfolding le16_bytes
put_text-requires c =
    let number = λ (p : ℕ). le16_bytes (get_or c.args.numbers.now p 0) in
    let fits = room_for_more _ number number_length most_blocks (λ p. omega (arith, le16_length (get_or c.args.numbers.now p 0))) c.requires c.loop-i.i
    c.loop-i-test.true c.loop-i.invariant in
    let same : c.to_le_bytes.result ≡ le16_bytes (get_or c.args.numbers.now c.loop-i.i 0) = search rules in
    rw (same, le16_length (get_or c.args.numbers.now c.loop-i.i 0)) fits

pub loop-i-preserved : goal.loop-i-preserved
unfolding le16_bytes
loop-i-preserved c =
    let same : c.to_le_bytes.result ≡ le16_bytes (get_or c.args.numbers.now c.loop-i.i 0) = search rules in
    one_more _ (λ (p : ℕ). le16_bytes (get_or c.args.numbers.now p 0)) number_length most_blocks
    (λ p. omega (arith, le16_length (get_or c.args.numbers.now p 0))) c.requires c.loop-i.i c.loop-i-test.true c.loop-i.invariant
    (rw same at c.put_text.ensures)
