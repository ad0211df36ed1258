use Rattle.std.proofs.Common.{ℕ, ◌≡◌, ◌+◌, ◌*◌, rules, refl, zero-add}
use Rattle.image.specs.Image.{number_length, number_at, numbers_from}
use Rattle.image.proofs.Made.{made}
use Rattle.image.proofs.reader.numbers_of.Goals as goal

pub returns : goal.returns
unfolding numbers_from
returns c =
    made _ (λ f. f.0.now ≡ c.args.bytes.now) (λ (p : ℕ). number_at c.args.bytes.now (0 + number_length * p)) 0
    (λ p q i y k h.
    let e : y ≡ number_at p.0.now (number_length * i) = search rules in (rw (zero-add (number_length * i), ← k) e, search rules))
    c.from_fn.result 15 _ refl c.from_fn.ensures.items
