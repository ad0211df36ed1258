-- A train's runs, noted step by step, and where its number stands on the track: each accepted step keeps the two in agreement. So each run is
-- between the posts or has left at the far end, the runs of a number come one after another, and each block section keeps its train.
use Prim.Native.Nat.{ℕ, suc, ◌≤◌, ◌<◌}
use mathlib.Core.Bool.{Bool, true, false, cond, not, ◌&&◌, beq}
use mathlib.Core.Path.{◌≡◌, refl, sym, ap, ◌∙◌, subst}
use mathlib.Core.Logic.{◌≢◌, ◌⊎◌, inl, inr}
use mathlib.Core.List.{List, [], ◌∷◌, ◌++◌}
use native.Mathlib.Omega.{arith}
use native.Mathlib.Decide.{ℕ_discrete}
use lib.ListN.{get_or, replicate, get_or-replicate}
use Rattle.section.specs.declared.Settings.{Settings}
use Rattle.section.specs.declared.Track.{Track}
use Rattle.section.specs.declared.Section.{Section}
use Rattle.section.specs.Fresh.{fresh_track, fresh_section}
use Rattle.section.specs.Geometry.{upward, block}
use Rattle.section.specs.Numbers.{most_posts, most_blocks}
use Rattle.section.specs.Store.{track_of}
use Rattle.section.proofs.Laws.{block_lt}
use Rattle.rules.specs.declared.Line.{Line}
use Rattle.rules.specs.Line.{line_of}
use Rattle.rules.specs.Site.{other_settled_on_vns, train_at, stretch_ends}
use Rattle.rules.specs.Demand3.{AcceptedStep, kind, post, is_of_train, keep, All, Run, note_step, runs_from, runs_of}
use Rattle.rules.specs.Demand3.{OneAfterAnother, TrainThere, Fate}
use Rattle.rules.proofs.Facts.{by_track, beq_same, beq_other}
use Rattle.rules.proofs.View.{View, Seen, on, as_step}
use Rattle.rules.proofs.Reading.{Says}
use Rattle.rules.proofs.Accept.{AcceptedOn, track_after_step, line, AcceptedIn, section_after_step}
use Rattle.rules.proofs.Invariant.{Sound}
use Rattle.rules.proofs.Exchange.{here_after, there_after}
use Rattle.rules.proofs.Stretches.{Spaced, empty_spaced}
use Rattle.rules.proofs.Runs.{Follows, off_track, follows_in_turn, follows_fates, follows_there}
use Rattle.rules.proofs.TrainSteps.{of_train, note_view, note_test}
use Rattle.rules.proofs.Trains.{trains_kept, no_zero}

-- ## A train's runs after one more step

runs_last : (test : AcceptedStep → Bool) (rs : List Run) (ds : List AcceptedStep) (d : AcceptedStep)
    → runs_from rs (keep test (ds ++ d ∷ [])) ≡ cond (test d) (note_step (kind d) (post d) (runs_from rs (keep test ds))) (runs_from rs (keep test ds))
runs_last test rs [] d = go (test d)
  where
    go : (w : Bool) → runs_from rs (cond w (d ∷ []) []) ≡ cond w (note_step (kind d) (post d) rs) rs
    go true = refl
    go false = refl
runs_last test rs (x ∷ ds) d = go (test x) (runs_last test (note_step (kind x) (post x) rs) ds d) (runs_last test rs ds d)
  where
    Noted : List Run → List AcceptedStep → List AcceptedStep → Type 0
    Noted rs l m = runs_from rs l ≡ cond (test d) (note_step (kind d) (post d) (runs_from rs m)) (runs_from rs m)

    go : (w : Bool) → Noted (note_step (kind x) (post x) rs) (keep test (ds ++ d ∷ [])) (keep test ds) → Noted rs (keep test (ds ++ d ∷ [])) (keep test ds)
        → Noted rs (cond w (x ∷ keep test (ds ++ d ∷ [])) (keep test (ds ++ d ∷ []))) (cond w (x ∷ keep test ds) (keep test ds))
    go true here there = here
    go false here there = there

module _ (n : ℕ) (ds : List AcceptedStep) (d : AcceptedStep) where
  module _ (t : Bool) (q : ℕ) (v : View) (h : Says n d.bytes (as_step (on t q v))) where
    -- the runs of train z on the track b, one more step noted where the test says so
    abbrev noted : Bool → ℕ → Bool → List Run
    noted b z test = cond (test && of_train z v) (note_view v q (runs_of b z ds)) (runs_of b z ds)

    runs_after : (b : Bool) (z : ℕ) → runs_of b z (ds ++ d ∷ []) ≡ noted b z (beq t b)
    unfolding runs_of
    runs_after b z = runs_last (λ e. is_of_train b z e) [] ds d ∙ note_test n d t q v h b z (runs_of b z ds)

    -- on the step's own track, and on the other
    runs_here : (z : ℕ) → runs_of t z (ds ++ d ∷ []) ≡ noted t z true
    runs_here z = runs_after t z ∙ ap (noted t z) (beq_same t)

    runs_there : (z : ℕ) → runs_of (not t) z (ds ++ d ∷ []) ≡ runs_of (not t) z ds
    runs_there z = runs_after (not t) z ∙ ap (noted (not t) z) (beq_other t)

-- ## Three fields of the claim for one track

module _ (c : Settings) where
  pub record RunsRight (s : Section) (ds : List AcceptedStep) (b : Bool) : Type 0 where
    pub fates : (z : ℕ) → All (λ (r : Run). Fate c b (track_of s b) z r r.left) (runs_of b z ds)
    pub one_after_another : (z : ℕ) → OneAfterAnother (runs_of b z ds)
    pub kept : (i : ℕ) → suc i < c.posts → (get_or (track_of s b).trains i 0 ≡ 0) ⊎ TrainThere c b (track_of s b) ds i

module _ (c : Settings) (n2 : 2 ≤ c.posts) (n16 : c.posts ≤ most_posts) where
  -- ## What holds of a track's trains after the accepted steps ds

  pub record TrackRuns (ln : Line) (b : Bool) (t : Track) (ds : List AcceptedStep) : Type 0 where
    pub spaced : Spaced c.posts (stretch_ends ln b t.cvt) (train_at ln b t.cvt t.trains)
    pub follows : (z : ℕ) → z ≢ 0 → Follows c n2 (upward b t.cvt) (train_at ln b t.cvt t.trains) z (runs_of b z ds)
    pub none_zero : runs_of b 0 ds ≡ []

  abbrev pub SectionRuns : Section → List AcceptedStep → Type 0
  SectionRuns s ds = (b : Bool) → TrackRuns (line c s) b (track_of s b) ds

  -- ## Kept by every accepted step

  module _ (ds : List AcceptedStep) (d : AcceptedStep) where
    module _ (b : Bool) (p : ℕ) (k : View) (says : Says c.posts d.bytes (as_step (on b p k))) (s : Section) where
      here_kept : (v : Bool) (t : Track) → AcceptedOn (line c s) v b p k t → Sound (line c s) b t → TrackRuns (line c s) b t ds
          → TrackRuns (line c s) b (track_after_step (line c s) b p k t) (ds ++ d ∷ [])
      here_kept v t h so m =
          let kept = trains_kept c n2 n16 s b v t p so.sizes.trains k h so.clear in
          record {
            spaced = kept.spaced m.spaced;
            follows = λ z nz. rw (runs_here c.posts ds d b p k says z) (kept.follows z (runs_of b z ds) nz m.spaced (m.follows z nz));
            none_zero = runs_here c.posts ds d b p k says 0
                ∙ ap (λ w. cond w (note_view k p (runs_of b 0 ds)) (runs_of b 0 ds)) (no_zero c n2 n16 s b v t p so.sizes.trains k h)
                ∙ m.none_zero;
          }

      there_kept : (t : Track) → TrackRuns (line c s) (not b) t ds → TrackRuns (line c s) (not b) t (ds ++ d ∷ [])
      there_kept t m = record {
        spaced = m.spaced;
        follows = λ z nz. rw (runs_there c.posts ds d b p k says z) (m.follows z nz);
        none_zero = runs_there c.posts ds d b p k says 0 ∙ m.none_zero;
      }

    one_kept : (b : Bool) (p : ℕ) (k : View) → Says c.posts d.bytes (as_step (on b p k)) → (s : Section) → AcceptedIn c s (on b p k)
        → ((e : Bool) → Sound (line c s) e (track_of s e)) → SectionRuns s ds → SectionRuns (section_after_step c s (on b p k)) (ds ++ d ∷ [])
    unfolding AcceptedIn
    one_kept b p k says s h so m =
        by_track (λ e. TrackRuns (line c s) e (track_of (section_after_step c s (on b p k)) e) (ds ++ d ∷ [])) b
        (rw (here_after c s b p k) (here_kept b p k says s (other_settled_on_vns s b) (track_of s b) h (so b) (m b)))
        (rw (there_after c s b p k) (there_kept b p k says s (track_of s (not b)) (m (not b))))

    pub runs_kept : (x : Seen) → Says c.posts d.bytes (as_step x) → (s : Section) → AcceptedIn c s x → ((b : Bool) → Sound (line c s) b (track_of s b))
        → SectionRuns s ds → SectionRuns (section_after_step c s x) (ds ++ d ∷ [])
    runs_kept (on b p k) says s h so m = one_kept b p k says s h so m

  -- ## The fresh section

  abbrev fresh_line : Line
  fresh_line = line_of c

  fresh_track_runs : (b : Bool) → TrackRuns fresh_line b (fresh_track c.posts b) []
  unfolding fresh_track runs_of
  fresh_track_runs b = record {
    spaced = empty_spaced c.posts (stretch_ends fresh_line b false) (train_at fresh_line b false (replicate most_blocks 0)) zeros;
    follows = λ z nz. off_track (λ j h e. nz (sym e ∙ zeros j h)) tt;
    none_zero = refl;
  }
    where
      zeros : (j : ℕ) → suc j < c.posts → train_at fresh_line b false (replicate most_blocks 0) j ≡ 0
      zeros j h = get_or-replicate most_blocks (block c.posts (upward b false) j) 0 0 (omega (arith, block_lt c.posts (upward b false) j h))

  pub fresh_runs : SectionRuns (fresh_section c) []
  unfolding fresh_section
  fresh_runs = by_track (λ b. TrackRuns fresh_line b (track_of (fresh_section c) b) []) true (fresh_track_runs true) (fresh_track_runs false)

  -- ## What that says

  pub runs_right : (s : Section) (ds : List AcceptedStep) (b : Bool) → TrackRuns (line c s) b (track_of s b) ds → RunsRight c s ds b
  runs_right s ds b m = record {
    fates = λ z. fate z (ℕ_discrete z 0);
    one_after_another = λ z. in_turn_lem z (ℕ_discrete z 0);
    kept = λ i h. keeps i h (ℕ_discrete (get_or (track_of s b).trains i 0) 0);
  }
    where
      fate : (z : ℕ) → Dec (z ≡ 0) → All (λ (r : Run). Fate c b (track_of s b) z r r.left) (runs_of b z ds)
      fate z (yes e) = subst (λ w. All (λ (r : Run). Fate c b (track_of s b) w r r.left) (runs_of b w ds)) (sym e) (rw m.none_zero tt)
      fate z (no n) = follows_fates c n2 b (track_of s b) z (runs_of b z ds) (m.follows z n)

      in_turn_lem : (z : ℕ) → Dec (z ≡ 0) → OneAfterAnother (runs_of b z ds)
      in_turn_lem z (yes e) = subst (λ w. OneAfterAnother (runs_of b w ds)) (sym e) (rw m.none_zero tt)
      in_turn_lem z (no n) = follows_in_turn c n2 _ _ z (runs_of b z ds) (m.follows z n)

      keeps : (i : ℕ) → suc i < c.posts → Dec (get_or (track_of s b).trains i 0 ≡ 0)
          → (get_or (track_of s b).trains i 0 ≡ 0) ⊎ TrainThere c b (track_of s b) ds i
      keeps i h (yes e) = inl e
      keeps i h (no n) =
          inr (follows_there c n2 b (track_of s b) ds i (get_or (track_of s b).trains i 0) h refl (m.follows (get_or (track_of s b).trains i 0) n))
