-- The four ways in which trains run on a line of four posts, in plain numbers, so that one table of rows serves both tracks, both running
-- directions and both forms. In a table a post is named by its place in the run: 0 the sending end, then 1 and 2, and 3 the receiving end;
-- trains stand in the order in which the run meets their block sections.
use Prim.Native.Nat.{ℕ, suc, ◌-◌}
use mathlib.Core.Bool.{Bool, true, false, cond}
use mathlib.Core.List.{List, [], ◌∷◌, ◌++◌, reverse}
use lib.Dec.{eqb}
use Rattle.section.specs.declared.Settings.{Settings}
use Rattle.section.specs.declared.Post.{Post}
use Rattle.section.specs.declared.Walk.{Walk}
use Rattle.section.specs.declared.Track.{Track}
use Rattle.section.specs.declared.Section.{Section}
use Rattle.section.specs.Store.{with_post}
use Rattle.rules.proofs.Days.{A, B, VNS, CVT, telephone, materialised, fresh, changed_track, running, holding}
use Rattle.rules.proofs.Rows.{Row}

pub record Way : Type 0 where
  pub track : Bool
  pub cvt : Bool
  pub upward : Bool

-- "Normal direction, VNS, runs upward (from post 0) on A and downward on B. Counter direction, CVT, is the reverse (art. 901)."
abbrev pub ways : List Way
ways =
    record { track = A; cvt = VNS; upward = true }
    ∷ record { track = B; cvt = VNS; upward = false }
    ∷ record { track = A; cvt = CVT; upward = false }
    ∷ record { track = B; cvt = CVT; upward = true }
    ∷ []

-- a line of n posts with that mask
abbrev pub Form : Type 0
Form = ℕ → ℕ → Settings

abbrev pub forms : List Form
forms = telephone ∷ materialised ∷ []

-- one by telephone, another materialised; one in VNS, another in CVT
abbrev pub telephone_else : {X : Type 0} → Form → X → X → X
telephone_else form x y = cond (eqb (form 4 15).form 0) x y

abbrev pub vns_else : {X : Type 0} → Way → X → X → X
vns_else w x y = cond w.cvt y x

-- the lists of all elements, one after another
abbrev pub each : {X Y : Type 0} → List X → (X → List Y) → List Y
each [] rows = []
each (x ∷ l) rows = rows x ++ each l rows

-- a table in both forms, for the four ways
abbrev pub every_way : {X : Type 0} → (Form → Way → List (Row X)) → List (Row X)
every_way rows = each forms (λ form. each ways (λ w. rows form w))

-- no train on the track; one in the first, the second, the third block section of the run
abbrev pub free : List ℕ
free = 0 ∷ 0 ∷ 0 ∷ []

abbrev pub in_first : List ℕ
in_first = 5 ∷ 0 ∷ 0 ∷ []

abbrev pub in_second : List ℕ
in_second = 0 ∷ 5 ∷ 0 ∷ []

abbrev pub in_third : List ℕ
in_third = 0 ∷ 0 ∷ 5 ∷ []

module _ (w : Way) where
  -- the post at that place of the run on a line of n posts, and of four
  abbrev pub place_of : ℕ → ℕ → ℕ
  place_of n j = cond w.upward j (n - suc j)

  abbrev pub place : ℕ → ℕ
  place j = place_of 4 j

  -- the block section after that place
  abbrev pub block_after : ℕ → ℕ
  block_after j = cond w.upward j (2 - j)

  -- the post from which a train enters block section i
  abbrev pub entry : ℕ → ℕ
  entry i = cond w.upward i (suc i)

  -- the mask of a line on which the post at place 1, or the one at place 2, is not signalled
  abbrev pub mask_without1 : ℕ
  mask_without1 = cond w.upward 13 11

  abbrev pub mask_without2 : ℕ
  mask_without2 = cond w.upward 11 13

  -- a number for each block section, given in the order of the run
  abbrev pub in_the_run : List ℕ → List ℕ
  in_the_run l = cond w.upward l (reverse l)

  -- the track runs that way, with these trains, and the post has that record: a state that a day need not reach
  unfoldable pub standing : Settings → Walk → List ℕ → ℕ → Post → Section
  unfolding fresh
  standing c walk trains p own =
      changed_track w.track (λ (t : Track). with_post (holding (in_the_run trains) (running w.cvt walk t)) p own) (fresh c)
