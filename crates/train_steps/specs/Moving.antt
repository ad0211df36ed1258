-- The effect of a step that is a train.
use Rattle.section.specs.declared.Post.{Post}
use Rattle.section.specs.declared.Said.TheVariants.{Nothing}
use Rattle.rules.specs.declared.Site.{Site}
use Rattle.rules.specs.declared.Movement.{Movement}
use Rattle.rules.specs.declared.Effect.{Effect}

-- a step that changes its post's record and does something with a train
abbrev pub moving : Site → Post → Movement → Effect
moving e own train = record { own = own; walk = e.walk; cvt = e.cvt; train = train; said = Nothing }
