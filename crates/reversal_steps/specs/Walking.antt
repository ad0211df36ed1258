-- The effects of a reversal's steps before its last set.
use Rattle.section.specs.declared.Post.{Post}
use Rattle.section.specs.declared.Walk.{Walk}
use Rattle.section.specs.declared.Said.{Said}
use Rattle.rules.specs.declared.Site.{Site}
use Rattle.rules.specs.declared.Movement.TheVariants.{Stays}
use Rattle.rules.specs.declared.Effect.{Effect}

-- a step of a reversal before its last set
abbrev pub walking : Site → Post → Walk → Said → Effect
walking e own walk said = record { own = own; walk = walk; cvt = e.cvt; train = Stays; said = said }
