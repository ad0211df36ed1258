-- The column "Effect" of document 01's table, with document 02's request 1: what a step of each kind leaves of its post's whole record, of the
-- running direction and of the walk, and what it does with trains. Each row is of a post that has everything and of a blank one, settled and in a
-- reversal, on both tracks, in both directions and both forms, so that an effect that changes one field too many gives another row.
use Prim.Native.Nat.{ℕ, suc}
use mathlib.Core.Bool.{Bool, true, false, not}
use mathlib.Core.Path.{refl}
use mathlib.Core.List.{List, [], ◌∷◌, ◌++◌}
use Rattle.section.specs.declared.Post.{Post}
use Rattle.section.specs.declared.Step.{Step}
use Rattle.section.specs.declared.Act.TheVariants as act
use Rattle.section.specs.declared.Walk.{Walk}
use Rattle.section.specs.declared.Walk.TheVariants.{Settled, Turn}
use Rattle.section.specs.declared.Fault.TheVariants.{One, Two, Three, Four}
use Rattle.section.specs.declared.Step.TheVariants.{Order, Set, Announce, Acknowledge, Start, Pass, Leave, MeasuresOn, MeasuresOff}
use Rattle.section.specs.declared.Step.TheVariants.{FaultOn, FaultOff, Release, Key, Caution}
use Rattle.section.specs.Post.{blank, turned, permitted, measured, faulty, marked, sealed, cautioned}
use Rattle.rules.specs.declared.Movement.{Movement}
use Rattle.rules.specs.declared.Movement.TheVariants.{Stays, Enters, Moves, Leaves}
use Rattle.rules.specs.Line.{line_in}
use Rattle.rules.specs.Table.{effect}
use Rattle.rules.proofs.Days.{fresh}
use Rattle.rules.proofs.Rows.{Row, ◌gives◌, Holds, judged}
use Rattle.rules.proofs.Directions.{Way, Form, every_way, place}

-- device at CVT, permission, measures, every fault, a mark, three seals, a caution form for train 7
abbrev pub full : Post
full = record {
  device = true;
  permission = true;
  measures = true;
  faults = record { one = true; two = true; three = true; four = true };
  mark = true;
  seals = 3;
  caution = 7;
}

-- what is left after a step
pub record Left : Type 0 where
  pub own : Post
  pub cvt : Bool
  pub walk : Walk
  pub train : Movement

-- of a post with that record, at a place of the run
unfoldable pub left : Form → Way → Walk → Post → ℕ → (ℕ → Step) → Left
unfolding judged
left form w walk own j x =
    let p = place w j in
    let after = effect (line_in (fresh (form 4 15))) (x p) (record { track = w.track; post = p; cvt = w.cvt; walk = walk; own = own }) in
    record { own = after.own; cvt = after.cvt; walk = after.walk; train = after.train }

module _ (form : Form) (w : Way) where
  -- the running direction stays, and no train moves
  abbrev turning : Post → Walk → Left
  turning own walk = record { own = own; cvt = w.cvt; walk = walk; train = Stays }

  -- "device turned, release mark gone"; "set or key removes" the caution form
  abbrev setting : Post → Post
  setting o = cautioned 0 (marked false (turned (not w.cvt) o))

  module _ (walk : Walk) (o : Post) where
    abbrev leaving : Post → Movement → Left
    leaving own train = record { own = own; cvt = w.cvt; walk = walk; train = train }

    -- at any post
    abbrev anywhere : ℕ → List (Row Left)
    anywhere j =
        -- "reversal begins, permission gone"; "says CVTz or VNSz", and then it is that post's turn to set
        (left form w walk o j Order gives turning (permitted false o) (Turn (place w j) act.Set))
        ∷ (left form w walk o j Acknowledge gives turning o (Turn (place w j) act.Set))
        -- "train enters, mark gone": the caution form is used up by its own train
        ∷ (left form w walk o j (λ p. Start p 7) gives leaving (cautioned 0 (marked false o)) (Enters 7))
        ∷ (left form w walk o j (λ p. Start p 8) gives leaving (marked false o) (Enters 8))
        -- "train moves one block section on", "train gone"
        ∷ (left form w walk o j (λ p. Pass p 7) gives leaving (cautioned 0 o) (Moves 7))
        ∷ (left form w walk o j (λ p. Pass p 8) gives leaving o (Moves 8))
        ∷ (left form w walk o j (λ p. Leave p 7) gives leaving o Leaves)
        -- "in place", "lifted"
        ∷ (left form w walk o j MeasuresOn gives leaving (measured true o) Stays)
        ∷ (left form w walk o j MeasuresOff gives leaving (measured false o) Stays)
        -- "fault stands"
        ∷ (left form w walk o j (λ p. FaultOn p One) gives leaving (faulty One true o) Stays)
        ∷ (left form w walk o j (λ p. FaultOn p Two) gives leaving (faulty Two true o) Stays)
        ∷ (left form w walk o j (λ p. FaultOn p Three) gives leaving (faulty Three true o) Stays)
        ∷ (left form w walk o j (λ p. FaultOn p Four) gives leaving (faulty Four true o) Stays)
        -- "fault gone; for fault 1 the mark too"
        ∷ (left form w walk o j (λ p. FaultOff p One) gives leaving (marked false (faulty One false o)) Stays)
        ∷ (left form w walk o j (λ p. FaultOff p Two) gives leaving (faulty Two false o) Stays)
        ∷ (left form w walk o j (λ p. FaultOff p Three) gives leaving (faulty Three false o) Stays)
        ∷ (left form w walk o j (λ p. FaultOff p Four) gives leaving (faulty Four false o) Stays)
        -- "release mark"
        ∷ (left form w walk o j (λ p. Release p 7) gives leaving (marked true o) Stays)
        -- "A newer form replaces the older"
        ∷ (left form w walk o j (λ p. Caution p 9) gives leaving (cautioned 9 o) Stays)
        ∷ []

    -- at a post with another after it in the walk: "device turned, release mark gone", "as set, seal count one more"; then it announces, and the
    -- next post acknowledges
    abbrev with_next : ℕ → List (Row Left)
    with_next j =
        (left form w walk o j Set gives turning (setting o) (Turn (place w j) act.Announce))
        ∷ (left form w walk o j Key gives turning (sealed (setting o)) (Turn (place w j) act.Announce))
        ∷ (left form w walk o j Announce gives turning o (Turn (place w (suc j)) act.Acknowledge))
        ∷ []

    -- "The running direction changes, and the last post gets permission, at that last set."
    abbrev at_the_last : List (Row Left)
    at_the_last =
        (left form w walk o 3 Set gives record { own = permitted true (setting o); cvt = not w.cvt; walk = Settled; train = Stays })
        ∷ (left form w walk o 3 Key gives record { own = permitted true (sealed (setting o)); cvt = not w.cvt; walk = Settled; train = Stays })
        ∷ []

    abbrev at_every_post : List (Row Left)
    at_every_post = anywhere 0 ++ with_next 0 ++ anywhere 1 ++ with_next 1 ++ with_next 2 ++ anywhere 3 ++ at_the_last

abbrev of_post : Post → Walk → List (Row Left)
of_post o walk = every_way (λ form w. at_every_post form w walk o)

pub left_of_a_full_post : Holds (of_post full Settled ++ of_post full (Turn 2 act.Set))
unfolding left
left_of_a_full_post = refl

pub left_of_a_blank_post : Holds (of_post blank Settled ++ of_post blank (Turn 2 act.Set))
unfolding left
left_of_a_blank_post = refl
