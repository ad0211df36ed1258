-- Every accepted step keeps the trains of its track a stretch apart, and the runs in step with the cells. A start, a pass and a leave move one
-- train by one block section, by rank; the last set finds the track empty; every other step leaves the trains.
use Prim.Native.Nat.{ℕ, suc, ◌-◌, ◌≤◌, ◌<◌}
use mathlib.Core.Bool.{Bool, true, false, cond, not, false≢true}
use mathlib.Core.Path.{◌≡◌, refl, sym, ap, ◌∙◌, subst}
use mathlib.Core.Logic.{◌≢◌}
use mathlib.Core.List.{List}
use native.Mathlib.Omega.{arith}
use lib.ListN.{get_or, set, length, length-set}
use lib.Seq.{get_or-set_other, get_or-set_same}
use borrow.Author.Tests.{ne_eqb}
use Rattle.section.specs.declared.Settings.{Settings}
use Rattle.section.specs.declared.Act.TheVariants as act
use Rattle.section.specs.declared.Track.{Track}
use Rattle.section.specs.declared.Section.{Section}
use Rattle.section.specs.Geometry.{upward, rank, block}
use Rattle.section.specs.Numbers.{most_posts, most_blocks}
use Rattle.section.specs.Step.{number_of}
use Rattle.section.proofs.Laws.{rank_rank, block_inj, block_lt}
use Rattle.rules.specs.declared.Line.{Line}
use Rattle.rules.specs.declared.Site.{Site}
use Rattle.rules.specs.Site.{site_on, is_turn, at_receiving_end, stretch_ends, holds_train, train_at, occupancy_at}
use Rattle.rules.specs.Table.{checks, effect, cells_after, track_after}
use Rattle.rules.specs.Demand3.{Run}
use Rattle.rules.proofs.Facts.{nand_r, first_rank, not_first_rank, last_rank, not_last_rank, number_none}
use Rattle.rules.proofs.View.{Reversal, order, set_device, announce, acknowledge, key, start, pass, leave, View, walks, runs, notes, releases}
use Rattle.rules.proofs.View.{flat}
use Rattle.rules.proofs.Frame.{moves_no_train, running_kept, no_movement}
use Rattle.rules.proofs.Accept.{AcceptedOn, track_after_step, line}
use Rattle.rules.proofs.Held.{set_held, key_held, start_held, pass_held, leave_held, pass_before, leave_before, NoTrain}
use Rattle.rules.proofs.Invariant.{ClearedFree, last_free}
use Rattle.rules.proofs.Stretches.{TrainEnters, TrainMoves, TrainLeaves, Spaced, FreeFrom, free_from, free_ahead, free_first, enters_spaced}
use Rattle.rules.proofs.Stretches.{moves_spaced, leaves_spaced, empty_spaced}
use Rattle.rules.proofs.Runs.{Follows, empty_follows, enters_follows, moves_follows, leaves_follows}
use Rattle.rules.proofs.TrainSteps.{of_train, note_view}

module _ (given : Settings) (n2 : 2 ≤ given.posts) (n16 : given.posts ≤ most_posts) (s : Section) where
  -- the line as it stands
  abbrev c : Line
  c = line given s

  -- ## Cells by rank

  cell_same : (up : Bool) (l : List ℕ) (m v : ℕ) → length l ≡ most_blocks → suc m < c.posts
      → get_or (set l (block c.posts up m) v) (block c.posts up m) 0 ≡ v
  cell_same up l m v e h = get_or-set_same l (block c.posts up m) v 0 (omega (arith, block_lt c.posts up m h))

  cell_other : (up : Bool) (l : List ℕ) (m v j : ℕ) → suc m < c.posts → suc j < c.posts → j ≢ m
      → get_or (set l (block c.posts up m) v) (block c.posts up j) 0 ≡ get_or l (block c.posts up j) 0
  cell_other up l m v j hm hj ne =
      get_or-set_other l (block c.posts up m) (block c.posts up j) v 0 (λ e. ne (block_inj c.posts up j m hj hm e))

  module _ (b : Bool) where
    -- ## The trains of a track

    abbrev pub SpacedOn : Bool → List ℕ → Type 0
    SpacedOn cvt l = Spaced c.posts (stretch_ends c b cvt) (train_at c b cvt l)

    abbrev pub FollowsOn : Bool → List ℕ → ℕ → List Run → Type 0
    FollowsOn cvt l z rs = Follows given n2 (upward b cvt) (train_at c b cvt l) z rs

    -- what a step of the view k at post p does with them
    pub record TrainsKept (cvt : Bool) (l : List ℕ) (cvt' : Bool) (l' : List ℕ) (k : View) (p : ℕ) : Type 0 where
      pub spaced : SpacedOn cvt l → SpacedOn cvt' l'
      pub follows : (z : ℕ) (rs : List Run) → z ≢ 0 → SpacedOn cvt l → FollowsOn cvt l z rs → FollowsOn cvt' l' z (cond (of_train z k) (note_view k p rs) rs)

    module _ (v : Bool) (t : Track) (p : ℕ) (size : length t.trains ≡ most_blocks) where
      abbrev e : Site
      e = site_on b p t

      abbrev up : Bool
      up = upward b t.cvt

      abbrev r : ℕ
      r = rank c.posts up p

      abbrev ends : ℕ → Bool
      ends = stretch_ends c b t.cvt

      -- the track by ranks
      abbrev f : ℕ → ℕ
      f = train_at c b t.cvt t.trains

      abbrev Kept : View → Type 0
      Kept k = TrainsKept t.cvt t.trains (track_after_step c b p k t).cvt (track_after_step c b p k t).trains k p

      -- the post whose rank is one more than that of a block section
      post_past : (q : ℕ) → p < c.posts → suc q ≡ r → p ≡ rank c.posts up (suc q)
      post_past q h er = sym (ap (rank c.posts up) er ∙ rank_rank c.posts up p h)

      -- ## A start

      start_kept : (y : ℕ) → AcceptedOn c v b p (runs start y) t → Kept (runs start y)
      unfolding checks occupancy_at track_after effect cells_after flat number_of
      start_kept y h = record {
        spaced = enters_spaced c.posts ends f g y enters free;
        follows = λ z rs nz sp. enters_follows given n2 up f g y z rs nz p at_first enters;
      }
        where
          g : ℕ → ℕ
          g = train_at c b t.cvt (set t.trains (block c.posts up r) y)

          first : r ≡ 0
          first = first_rank c.posts up p (start_held h).first

          at_first : p ≡ rank c.posts up 0
          at_first = sym (ap (rank c.posts up) (sym first) ∙ rank_rank c.posts up p h.fits.below)

          free : FreeFrom c.posts ends f 0
          free = subst (FreeFrom c.posts ends f) first (free_from c.posts ends f r (start_held h).free)

          enters : TrainEnters c.posts f g y
          enters = record {
            absent =
                λ j k. number_none (c.posts - 1) y t.trains (start_held h).number_new (block c.posts up j) (omega (arith, block_lt c.posts up j k));
            free = free_first c.posts ends f 0 (omega arith) free;
            entered = ap g (sym first) ∙ cell_same up t.trains r y size (omega (arith, first));
            others = λ j k ne. cell_other up t.trains r y j (omega (arith, first)) k (λ x. ne (x ∙ first));
          }

      -- ## A pass

      pass_kept : (y : ℕ) → AcceptedOn c v b p (runs pass y) t → Kept (runs pass y)
      unfolding checks occupancy_at track_after effect cells_after flat
      pass_kept y h = record {
        spaced = λ sp. moves_spaced c.posts ends f g y q (moves sp) ny (free sp) sp;
        follows = λ z rs nz sp. moves_follows given n2 up f g y z rs nz p q ny (post_past q h.fits.below past) (moves sp);
      }
        where
          q : ℕ
          q = r - 1

          left : List ℕ
          left = set t.trains (block c.posts up q) 0

          g : ℕ → ℕ
          g = train_at c b t.cvt (set left (block c.posts up r) y)

          ny : y ≢ 0
          ny x = omega (arith, h.fits.number.0)

          past : suc q ≡ r
          past = omega (arith, not_first_rank c.posts up p (pass_held h).not_first)

          inside : suc r < c.posts
          inside = not_last_rank c.posts up p h.fits.below (pass_held h).not_last

          before : f q ≡ y
          before = pass_before h

          -- 13, at a post that begins a stretch
          check : ends r ≡ true → FreeFrom c.posts ends f r
          check u = free_from c.posts ends f r (nand_r (ends r) (holds_train ends f (c.posts - suc r) r) u (pass_held h).free)

          free : SpacedOn t.cvt t.trains → FreeFrom c.posts ends f (suc q)
          free sp =
              free_ahead c.posts ends f q sp (λ x. ny (sym before ∙ x))
              (subst (λ (i : ℕ). ends i ≡ true → FreeFrom c.posts ends f i) (sym past) check)

          moves : SpacedOn t.cvt t.trains → TrainMoves c.posts f g y q
          moves sp = record {
            inside = omega (arith, inside, past);
            before = before;
            free = free_first c.posts ends f (suc q) (omega (arith, inside, past)) (free sp);
            entered = ap g past ∙ cell_same up left r y (length-set t.trains (block c.posts up q) 0 ∙ size) inside;
            vacated = cell_other up left r y q inside (omega (arith, inside, past)) (omega (arith, past))
                ∙ cell_same up t.trains q 0 size (omega (arith, inside, past));
            others = λ j k n m. cell_other up left r y j inside k (λ x. m (x ∙ sym past))
                ∙ cell_other up t.trains q 0 j (omega (arith, inside, past)) k n;
          }

      -- ## A leave

      leave_kept : (y : ℕ) → AcceptedOn c v b p (runs leave y) t → Kept (runs leave y)
      unfolding checks occupancy_at track_after effect cells_after flat
      leave_kept y h = record {
        spaced = leaves_spaced c.posts ends f g y q leaves;
        follows = λ z rs nz sp. leaves_follows given n2 up f g y z rs nz p q ny (post_past q h.fits.below past) leaves;
      }
        where
          q : ℕ
          q = r - 1

          g : ℕ → ℕ
          g = train_at c b t.cvt (set t.trains (block c.posts up q) 0)

          ny : y ≢ 0
          ny x = omega (arith, h.fits.number.0)

          final : suc r ≡ c.posts
          final = last_rank c.posts up p (leave_held h).last

          past : suc q ≡ r
          past = omega (arith, final)

          leaves : TrainLeaves c.posts f g y q
          leaves = record {
            final = omega (arith, final, past);
            before = leave_before n2 h;
            vacated = cell_same up t.trains q 0 size (omega (arith, final, past));
            others = λ j k n. cell_other up t.trains q 0 j (omega (arith, final, past)) k n;
          }

      -- ## The last set or key finds the track empty; every other step leaves direction and trains alone

      empty_cells : NoTrain c.posts t → (cvt : Bool) (j : ℕ) → suc j < c.posts → train_at c b cvt t.trains j ≡ 0
      empty_cells h cvt j k = h (block c.posts (upward b cvt) j) (block_lt c.posts (upward b cvt) j k)

      set_kept : (w : Reversal) (last : Bool) → at_receiving_end c e ≡ last → is_turn t.walk p act.Set ≡ true → ClearedFree c b t.cvt t.walk t.trains
          → TrainsKept t.cvt t.trains (cond last (not t.cvt) t.cvt) t.trains (walks w) p
      set_kept w true q hw clear = record {
        spaced = λ sp. empty_spaced c.posts (stretch_ends c b (not t.cvt)) (train_at c b (not t.cvt) t.trains) (empty (not t.cvt));
        follows = λ z rs nz sp h.
            empty_follows given n2 up (upward b (not t.cvt)) f (train_at c b (not t.cvt) t.trains) z rs nz (empty t.cvt) (empty (not t.cvt)) h;
      }
        where
          empty : (cvt : Bool) (j : ℕ) → suc j < c.posts → train_at c b cvt t.trains j ≡ 0
          empty = empty_cells (last_free c b t p q hw clear)
      set_kept w false q hw clear = record { spaced = λ sp. sp; follows = λ z rs nz sp h. h }

      unmoved_other : (z : ℕ) (k : View) → moves_no_train k ≡ true → of_train z k ≡ false
      unmoved_other z (walks w) i = refl
      unmoved_other z (runs m y) i = absurd (false≢true i)
      unmoved_other z (notes k) i = refl
      unmoved_other z (releases y) i = refl

      unmoved_kept : (k : View) → moves_no_train k ≡ true → (effect c (flat p k) e).cvt ≡ t.cvt → Kept k
      unfolding track_after cells_after
      unmoved_kept k i q = record {
        spaced = λ sp. rw (q, no_movement c p k e i) sp;
        follows = λ z rs nz sp h. rw (unmoved_other z k i, q, no_movement c p k e i) h;
      }

      -- ## The whole

      pub trains_kept : (k : View) → AcceptedOn c v b p k t → ClearedFree c b t.cvt t.walk t.trains → Kept k
      unfolding checks track_after effect cells_after flat
      trains_kept (walks order) h clear = unmoved_kept (walks order) refl refl
      trains_kept (walks set_device) h clear = set_kept set_device (at_receiving_end c e) refl (set_held h).in_turn clear
      trains_kept (walks announce) h clear = unmoved_kept (walks announce) refl refl
      trains_kept (walks acknowledge) h clear = unmoved_kept (walks acknowledge) refl refl
      trains_kept (walks key) h clear = set_kept key (at_receiving_end c e) refl (key_held h).in_turn clear
      trains_kept (runs start y) h clear = start_kept y h
      trains_kept (runs pass y) h clear = pass_kept y h
      trains_kept (runs leave y) h clear = leave_kept y h
      trains_kept (notes k) h clear = unmoved_kept (notes k) refl (running_kept c p (notes k) e refl).cvt
      trains_kept (releases y) h clear = unmoved_kept (releases y) refl refl

      -- no train has the number 0
      pub no_zero : (k : View) → AcceptedOn c v b p k t → of_train 0 k ≡ false
      no_zero (walks w) h = refl
      no_zero (runs m y) h = ne_eqb y 0 (omega (arith, h.fits.number.0))
      no_zero (notes k) h = refl
      no_zero (releases y) h = refl
