-- The runs of a train follow the cells of its track: where the track shows the train, its latest run is open and has that many passes, and
-- every other run has left at the far end.
use Prim.Native.Nat.{ℕ, zero, suc, ◌-◌, ◌≤◌, ◌<◌}
use mathlib.Core.Bool.{Bool, true, false, cond}
use mathlib.Core.Path.{◌≡◌, refl, sym, ap, ap₂, ◌∙◌, subst}
use mathlib.Core.Logic.{◌≢◌, ◌⊎◌, inl, inr}
use mathlib.Core.List.{List, [], ◌∷◌, ◌++◌}
use mathlib.Core.Option.{Option, none, some}
use native.Mathlib.Omega.{arith}
use native.Mathlib.Decide.{ℕ_discrete}
use lib.ListN.{get_or, length, length-append}
use lib.Dec.{eqb}
use borrow.Author.Tests.{eqb-true, eqb-false, ne_eqb}
use Rattle.section.specs.declared.Settings.{Settings}
use Rattle.section.specs.declared.Track.{Track}
use Rattle.section.specs.Geometry.{upward, rank, block}
use Rattle.section.proofs.Laws.{block_lt, block_block}
use Rattle.rules.specs.Demand3.{AcceptedStep, All, Run, note_pass, note_leave, latest, runs_of, has_ended, OneAfterAnother, other_end}
use Rattle.rules.specs.Demand3.{place_of, BetweenThePosts, TrainThere, in_turn, LeftAtTheFarEnd, Fate}
use Rattle.rules.proofs.View.{Motion, start, pass, leave}
use Rattle.rules.proofs.Stretches.{TrainEnters, TrainMoves, TrainLeaves}

-- a motion at post p, noted in the runs
abbrev pub note_motion : Motion → ℕ → List Run → List Run
note_motion start p runs = record { from = p; passed = []; left = none } ∷ runs
note_motion pass p runs = latest (λ r. note_pass p r.left r) runs
note_motion leave p runs = latest (λ r. note_leave p r.left r) runs

module _ (c : Settings) (n2 : 2 ≤ c.posts) where
  -- ## The end posts

  -- trains that start at the sending end run upward when that is post 0
  pub up_from : (up : Bool) → eqb (rank c.posts up 0) 0 ≡ up
  unfolding rank
  up_from true = refl
  up_from false = ne_eqb (c.posts - 1) 0 (omega arith)

  began_at : (up : Bool) → (rank c.posts up 0 ≡ 0) ⊎ (rank c.posts up 0 ≡ c.posts - 1)
  unfolding rank
  began_at true = inl refl
  began_at false = inr refl

  far_from : (up : Bool) → rank c.posts up (c.posts - 1) ≡ other_end c.posts (rank c.posts up 0)
  unfolding rank
  far_from up = go up ∙ sym (ap (λ w. cond w (c.posts - 1) 0) (up_from up))
    where
      go : (up : Bool) → rank c.posts up (c.posts - 1) ≡ cond up (c.posts - 1) 0
      go true = refl
      go false = omega arith

  -- the block section beside the post of the start, or one further for each pass, is that of the rank
  pub place_is : (up : Bool) (m : ℕ) → place_of c (rank c.posts up 0) m ≡ block c.posts up m
  unfolding rank block
  place_is up m = ap (λ w. cond w m (rank c.posts up 0 - suc m)) (up_from up) ∙ go up
    where
      go : (up : Bool) → cond up m (rank c.posts up 0 - suc m) ≡ block c.posts up m
      go true = refl
      go false = omega arith

  pub length_turns : (from m : ℕ) → length (in_turn c from m) ≡ m
  length_turns from zero = refl
  length_turns from (suc m) =
      length-append (in_turn c from m) (rank c.posts (eqb from 0) (suc m) ∷ []) ∙ omega (arith, length_turns from m)

  -- ## A train's runs

  abbrev GoneAs : Run → Option ℕ → Type 0
  GoneAs r none = ⊥
  GoneAs r (some p) = LeftAtTheFarEnd c r p

  abbrev pub Gone : Run → Type 0
  Gone r = GoneAs r r.left

  -- a run that has reached the block section of rank m
  abbrev pub open_run : Bool → ℕ → Run
  open_run up m = record { from = rank c.posts up 0; passed = in_turn c (rank c.posts up 0) m; left = none }

  -- the runs of train z, where trains run upward or not, and f is the track by ranks
  pub data Follows (up : Bool) (f : ℕ → ℕ) (z : ℕ) (runs : List Run) : Type 0 where
    off_track : ((j : ℕ) → suc j < c.posts → f j ≢ z) → All Gone runs → Follows up f z runs
    on_track : (m : ℕ) (earlier : List Run) → runs ≡ open_run up m ∷ earlier → suc m < c.posts → f m ≡ z
        → ((j : ℕ) → suc j < c.posts → f j ≡ z → j ≡ m) → All Gone earlier → Follows up f z runs

  -- the track is empty, before and after a change of direction
  pub empty_follows : (up up' : Bool) (f g : ℕ → ℕ) (z : ℕ) (runs : List Run) → z ≢ 0
      → ((j : ℕ) → suc j < c.posts → f j ≡ 0) → ((j : ℕ) → suc j < c.posts → g j ≡ 0) → Follows up f z runs → Follows up' g z runs
  empty_follows up up' f g z runs nz ef eg (off_track h a) = off_track (λ j k e. nz (sym e ∙ eg j k)) a
  empty_follows up up' f g z runs nz ef eg (on_track m earlier e h q u a) = absurd (nz (sym q ∙ ef m h))

  -- ## Train y's own steps

  module _ (up : Bool) (f g : ℕ → ℕ) (y : ℕ) (runs : List Run) where
    entered_follows : (p : ℕ) → p ≡ rank c.posts up 0 → TrainEnters c.posts f g y → Follows up f y runs
        → Follows up g y (note_motion start p runs)
    entered_follows p ep t (off_track h a) =
        on_track 0 runs (ap (λ q. record { from = q; passed = []; left = none } ∷ runs) ep) (omega arith) t.entered only a
      where
        only : (j : ℕ) → suc j < c.posts → g j ≡ y → j ≡ 0
        only j k e = go (ℕ_discrete j 0)
          where
            go : Dec (j ≡ 0) → j ≡ 0
            go (yes q) = q
            go (no ne) = absurd (h j k (sym (t.others j k ne) ∙ e))
    entered_follows p ep t (on_track m earlier e h q u a) = absurd (t.absent m h q)

    moved_follows : (p q : ℕ) → y ≢ 0 → p ≡ rank c.posts up (suc q) → TrainMoves c.posts f g y q → Follows up f y runs
        → Follows up g y (note_motion pass p runs)
    moved_follows p q ny ep t (off_track h a) = absurd (h q (omega (arith, t.inside)) t.before)
    moved_follows p q ny ep t (on_track m earlier e h x u a) =
        on_track (suc m) earlier
        (ap (note_motion pass p) e ∙ ap (λ v. record { from = from; passed = in_turn c from m ++ v ∷ []; left = none } ∷ earlier) there)
        (omega (arith, t.inside, at)) (rw (← at) t.entered) only a
      where
        from : ℕ
        from = rank c.posts up 0

        at : q ≡ m
        at = u q (omega (arith, t.inside)) t.before

        there : p ≡ rank c.posts (eqb from 0) (suc m)
        there = ep ∙ ap₂ (rank c.posts) (sym (up_from up)) (ap suc at)

        only : (j : ℕ) → suc j < c.posts → g j ≡ y → j ≡ suc m
        only j k x = go (ℕ_discrete j (suc q)) (ℕ_discrete j q)
          where
            go : Dec (j ≡ suc q) → Dec (j ≡ q) → j ≡ suc m
            go (yes w) d = w ∙ ap suc at
            go (no n) (yes w) = absurd (ny (sym x ∙ ap g w ∙ t.vacated))
            go (no n) (no v) = absurd (v (u j k (sym (t.others j k v n) ∙ x) ∙ sym at))

    left_follows : (p q : ℕ) → y ≢ 0 → p ≡ rank c.posts up (suc q) → TrainLeaves c.posts f g y q → Follows up f y runs
        → Follows up g y (note_motion leave p runs)
    left_follows p q ny ep t (off_track h a) = absurd (h q (omega (arith, t.final)) t.before)
    left_follows p q ny ep t (on_track m earlier e h x u a) = off_track gone (subst (All Gone) (sym (ap (note_motion leave p) e)) (done, a))
      where
        at : q ≡ m
        at = u q (omega (arith, t.final)) t.before

        all_passed : m ≡ c.posts - 2
        all_passed = omega (arith, t.final, at)

        at_end : suc q ≡ c.posts - 1
        at_end = omega (arith, t.final)

        done : Gone (note_leave p none (open_run up m))
        done = record {
          began = began_at up;
          through = ap (in_turn c (rank c.posts up 0)) all_passed;
          far = ep ∙ ap (rank c.posts up) at_end ∙ far_from up;
        }

        gone : (j : ℕ) → suc j < c.posts → g j ≢ y
        gone j k x = go (ℕ_discrete j q)
          where
            go : Dec (j ≡ q) → ⊥
            go (yes w) = ny (sym x ∙ ap g w ∙ t.vacated)
            go (no v) = v (u j k (sym (t.others j k v) ∙ x) ∙ sym at)

  -- ## The other trains

  -- 0 or y
  abbrev Among : ℕ → ℕ → Type 0
  Among y v = (v ≡ 0) ⊎ (v ≡ y)

  -- every cell shows what it showed, or shows 0 or y and did so
  abbrev Apart : ℕ → (ℕ → ℕ) → (ℕ → ℕ) → Type 0
  Apart y f g = (j : ℕ) → suc j < c.posts → (g j ≡ f j) ⊎ (Among y (f j) × Among y (g j))

  turned_about : (y : ℕ) (f g : ℕ → ℕ) → Apart y f g → Apart y g f
  turned_about y f g h j k = go (h j k)
    where
      go : (g j ≡ f j) ⊎ (Among y (f j) × Among y (g j)) → (f j ≡ g j) ⊎ (Among y (g j) × Among y (f j))
      go (inl e) = inl (sym e)
      go (inr d) = inr (d.1, d.0)

  still_there : (y z : ℕ) (f g : ℕ → ℕ) → z ≢ 0 → y ≢ z → Apart y f g → (j : ℕ) → suc j < c.posts → f j ≡ z → g j ≡ z
  still_there y z f g nz ne h j k e = go (h j k)
    where
      neither : Among y (f j) → g j ≡ z
      neither (inl d) = absurd (nz (sym e ∙ d))
      neither (inr d) = absurd (ne (sym d ∙ e))

      go : (g j ≡ f j) ⊎ (Among y (f j) × Among y (g j)) → g j ≡ z
      go (inl d) = d ∙ e
      go (inr d) = neither d.0

  other_follows : (up : Bool) (f g : ℕ → ℕ) (y z : ℕ) (runs : List Run) → z ≢ 0 → y ≢ z → Apart y f g → Follows up f z runs → Follows up g z runs
  other_follows up f g y z runs nz ne t (off_track h a) = off_track (λ j k e. h j k (still_there y z g f nz ne (turned_about y f g t) j k e)) a
  other_follows up f g y z runs nz ne t (on_track m earlier e h q u a) =
      on_track m earlier e h (still_there y z f g nz ne t m h q) (λ j k x. u j k (still_there y z g f nz ne (turned_about y f g t) j k x)) a

  entered_apart : (f g : ℕ → ℕ) (y : ℕ) → TrainEnters c.posts f g y → Apart y f g
  entered_apart f g y t j k = go (ℕ_discrete j 0)
    where
      go : Dec (j ≡ 0) → (g j ≡ f j) ⊎ (Among y (f j) × Among y (g j))
      go (yes e) = inr (inl (ap f e ∙ t.free), inr (ap g e ∙ t.entered))
      go (no ne) = inl (t.others j k ne)

  moved_apart : (f g : ℕ → ℕ) (y q : ℕ) → TrainMoves c.posts f g y q → Apart y f g
  moved_apart f g y q t j k = go (ℕ_discrete j q) (ℕ_discrete j (suc q))
    where
      go : Dec (j ≡ q) → Dec (j ≡ suc q) → (g j ≡ f j) ⊎ (Among y (f j) × Among y (g j))
      go (yes e) d = inr (inr (ap f e ∙ t.before), inl (ap g e ∙ t.vacated))
      go (no ne) (yes e) = inr (inl (ap f e ∙ t.free), inr (ap g e ∙ t.entered))
      go (no ne) (no nd) = inl (t.others j k ne nd)

  left_apart : (f g : ℕ → ℕ) (y q : ℕ) → TrainLeaves c.posts f g y q → Apart y f g
  left_apart f g y q t j k = go (ℕ_discrete j q)
    where
      go : Dec (j ≡ q) → (g j ≡ f j) ⊎ (Among y (f j) × Among y (g j))
      go (yes e) = inr (inr (ap f e ∙ t.before), inl (ap g e ∙ t.vacated))
      go (no ne) = inl (t.others j k ne)

  -- ## A step of train y, seen by train z

  module _ (up : Bool) (f g : ℕ → ℕ) (y z : ℕ) (runs : List Run) (nz : z ≢ 0) where
    seen_by : (after : List Run) → Apart y f g → (Follows up f y runs → Follows up g y after)
        → Follows up f z runs → Follows up g z (cond (eqb y z) after runs)
    seen_by after t own h = go (eqb y z) refl
      where
        go : (w : Bool) → eqb y z ≡ w → Follows up g z (cond w after runs)
        go true e =
            let q : y ≡ z = eqb-true y z e in
            subst (λ v. Follows up g v after) q (own (subst (λ v. Follows up f v runs) (sym q) h))
        go false e = other_follows up f g y z runs nz (eqb-false y z e) t h

    pub enters_follows : (p : ℕ) → p ≡ rank c.posts up 0 → TrainEnters c.posts f g y → Follows up f z runs
        → Follows up g z (cond (eqb y z) (note_motion start p runs) runs)
    enters_follows p ep t = seen_by (note_motion start p runs) (entered_apart f g y t) (entered_follows up f g y runs p ep t)

    pub moves_follows : (p q : ℕ) → y ≢ 0 → p ≡ rank c.posts up (suc q) → TrainMoves c.posts f g y q → Follows up f z runs
        → Follows up g z (cond (eqb y z) (note_motion pass p runs) runs)
    moves_follows p q ny ep t = seen_by (note_motion pass p runs) (moved_apart f g y q t) (moved_follows up f g y runs p q ny ep t)

    pub leaves_follows : (p q : ℕ) → y ≢ 0 → p ≡ rank c.posts up (suc q) → TrainLeaves c.posts f g y q → Follows up f z runs
        → Follows up g z (cond (eqb y z) (note_motion leave p runs) runs)
    leaves_follows p q ny ep t = seen_by (note_motion leave p runs) (left_apart f g y q t) (left_follows up f g y runs p q ny ep t)

  -- ## What the runs say of a track

  gone_fates : (b : Bool) (t : Track) (z : ℕ) (runs : List Run) → All Gone runs → All (λ (r : Run). Fate c b t z r r.left) runs
  gone_fates b t z [] h = tt
  gone_fates b t z (r ∷ runs) h = (go r.left h.0, gone_fates b t z runs h.1)
    where
      go : (o : Option ℕ) → GoneAs r o → Fate c b t z r o
      go none g = absurd g
      go (some p) g = g

  gone_ended : (runs : List Run) → All Gone runs → All (λ (r : Run). has_ended r.left ≡ true) runs
  gone_ended [] h = tt
  gone_ended (r ∷ runs) h = (go r.left h.0, gone_ended runs h.1)
    where
      go : (o : Option ℕ) → GoneAs r o → has_ended o ≡ true
      go none g = absurd g
      go (some p) g = refl

  gone_in_turn : (runs : List Run) → All Gone runs → OneAfterAnother runs
  gone_in_turn [] h = tt
  gone_in_turn (r ∷ runs) h = gone_ended runs h.1

  pub follows_in_turn : (up : Bool) (f : ℕ → ℕ) (z : ℕ) (runs : List Run) → Follows up f z runs → OneAfterAnother runs
  follows_in_turn up f z runs (off_track h a) = gone_in_turn runs a
  follows_in_turn up f z runs (on_track m earlier e h q u a) = subst OneAfterAnother (sym e) (gone_ended earlier a)

  -- block section i by its rank
  by_rank : (up : Bool) (l : List ℕ) (i : ℕ) → suc i < c.posts → get_or l (block c.posts up (block c.posts up i)) 0 ≡ get_or l i 0
  by_rank up l i h = ap (λ j. get_or l j 0) (block_block c.posts up i h)

  module _ (b : Bool) (t : Track) where
    abbrev up : Bool
    up = upward b t.cvt

    abbrev cells : ℕ → ℕ
    cells j = get_or t.trains (block c.posts (upward b t.cvt) j) 0

    open_place : (m : ℕ) → place_of c (rank c.posts up 0) (length (in_turn c (rank c.posts up 0) m)) ≡ block c.posts up m
    open_place m = ap (place_of c (rank c.posts up 0)) (length_turns (rank c.posts up 0) m) ∙ place_is up m

    open_fate : (z m : ℕ) → suc m < c.posts → cells m ≡ z → ((j : ℕ) → suc j < c.posts → cells j ≡ z → j ≡ m)
        → BetweenThePosts c b t z (open_run up m)
    open_fate z m h e u = record {
      one_way = refl;
      inside = rw (length_turns (rank c.posts up 0) m) h;
      there = ap (λ j. get_or t.trains j 0) (open_place m) ∙ e;
      only = λ i k x. sym (block_block c.posts up i k)
          ∙ ap (block c.posts up) (u (block c.posts up i) (block_lt c.posts up i k) (by_rank up t.trains i k ∙ x))
          ∙ sym (open_place m);
    }

    pub follows_fates : (z : ℕ) (runs : List Run) → Follows up cells z runs → All (λ (r : Run). Fate c b t z r r.left) runs
    follows_fates z runs (off_track h a) = gone_fates b t z runs a
    follows_fates z runs (on_track m earlier e h q u a) = rw e (open_fate z m h q u, gone_fates b t z earlier a)

    pub follows_there : (ds : List AcceptedStep) (i z : ℕ) → suc i < c.posts → get_or t.trains i 0 ≡ z → Follows up cells z (runs_of b z ds)
        → TrainThere c b t ds i
    follows_there ds i z k e (off_track h a) =
        absurd (h (block c.posts up i) (block_lt c.posts up i k) (by_rank up t.trains i k ∙ e))
    follows_there ds i z k e (on_track m earlier re h q u a) = record {
      train = z;
      run = open_run up m;
      earlier = earlier;
      runs_are = re;
      open_run = refl;
      place = (open_fate z m h q u).only i k e;
      shown = e;
    }
