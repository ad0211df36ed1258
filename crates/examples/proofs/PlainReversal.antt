-- The plain reversal is accepted to its end, by computation.
use mathlib.Core.Bool.{true}
use mathlib.Core.Path.{◌≡◌, refl}
use Rattle.rules.proofs.Days.{fresh, reversal, reversal_to_cvt, after}
use Rattle.examples.specs.PlainReversal.{posts_from, walked, day_of, ends_on, ends_well, completes, all_complete, reversals_of, reversals}

pub plain_reversals_complete : all_complete reversals ≡ true
unfolding all_complete completes reversals reversals_of day_of walked posts_from reversal reversal_to_cvt fresh after ends_well ends_on
plain_reversals_complete = refl
