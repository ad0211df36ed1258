-- The invariant of the sections that are reached from a fresh one: each track is sound, and at most one is not settled on VNS. The fresh section
-- has it, an accepted step keeps it, and it implies the ranges.
use Prim.Native.Nat.{ℕ, ◌-◌, ◌≤◌, ◌<◌}
use mathlib.Core.Bool.{Bool, true, false, cond, not, ◌||◌, false≢true, or_comm}
use mathlib.Core.Path.{◌≡◌, refl, ◌∙◌}
use mathlib.Core.List.{List}
use native.Mathlib.Omega.{arith}
use native.Mathlib.Decide.{ℕ_discrete}
use lib.ListN.{get_or, set, length-set, replicate, get_or-replicate}
use lib.Seq.{get_or-set_other}
use Rattle.section.specs.declared.Settings.{Settings}
use Rattle.section.specs.declared.Post.{Post}
use Rattle.section.specs.declared.Act.TheVariants as act
use Rattle.section.specs.declared.Walk.TheVariants.{Settled}
use Rattle.section.specs.declared.Track.{Track}
use Rattle.section.specs.declared.Section.{Section}
use Rattle.section.specs.Fresh.{fresh_track, fresh_section}
use Rattle.section.specs.Geometry.{upward, rank}
use Rattle.section.specs.Numbers.{least_posts, most_posts, most_blocks, largest_train}
use Rattle.section.specs.Post.{blank, permitted}
use Rattle.section.specs.Range.{post_in_range, in_range}
use Rattle.section.specs.Settings.{settings_in_range}
use Rattle.section.specs.Store.{track_of}
use Rattle.section.proofs.Laws.{posts_right, set_keeps}
use Rattle.rules.specs.declared.Line.{Line}
use Rattle.rules.specs.Line.{line_of}
use Rattle.rules.specs.Site.{settled_on_vns, other_settled_on_vns, occupancy_at}
use Rattle.rules.specs.Table.{effect, track_after}
use Rattle.rules.specs.Judge.{judge}
use Rattle.rules.proofs.Facts.{or_right, by_track, replicate-keeps}
use Rattle.rules.proofs.View.{order, set_device, announce, acknowledge, key, View, walks, runs, notes, releases, flat, Seen, on}
use Rattle.rules.proofs.Frame.{is_turn_lem, is_settled_lem}
use Rattle.rules.proofs.Accept.{AcceptedOn, track_after_step, line, AcceptedIn, section_after_step, Judged, refused, accepted, judged}
use Rattle.rules.proofs.Held.{order_held, set_held, key_held, announce_held, acknowledge_held}
use Rattle.rules.proofs.Parts.{LineRight, line_right}
use Rattle.rules.proofs.RangeLaw.{section_out}
use Rattle.rules.proofs.Cleared.{cleared_settled}
use Rattle.rules.proofs.Invariant.{Sound, sound_kept}
use Rattle.rules.proofs.Exchange.{here_after, there_after, settings_after, vns_kept}

module _ (c : Line) where
  -- ## Kept by every accepted step: at most one track is not settled on VNS

  single_kept : (v b : Bool) (p : ℕ) (k : View) (t : Track) → AcceptedOn c v b p k t → (settled_on_vns t || v) ≡ true
      → (settled_on_vns (track_after_step c b p k t) || v) ≡ true
  unfolding track_after effect flat occupancy_at
  single_kept v b p (walks order) t h o = go t.cvt (order_held h).allowed (rw (is_settled_lem t.walk (order_held h).settled) at o)
    where
      go : (d : Bool) → (d || v) ≡ true → (not d || v) ≡ true → v ≡ true
      go true u w = w
      go false u w = u
  single_kept v b p (walks set_device) t h o =
      or_right (settled_on_vns (track_after_step c b p (walks set_device) t)) v (rw (is_turn_lem t.walk p act.Set (set_held h).in_turn) at o)
  single_kept v b p (walks announce) t h o = rw (is_turn_lem t.walk p act.Announce (announce_held h).in_turn) at o
  single_kept v b p (walks acknowledge) t h o = rw (is_turn_lem t.walk p act.Acknowledge (acknowledge_held h).in_turn) at o
  single_kept v b p (walks key) t h o =
      or_right (settled_on_vns (track_after_step c b p (walks key) t)) v (rw (is_turn_lem t.walk p act.Set (key_held h).in_turn) at o)
  single_kept v b p (runs m z) t h o = rw (vns_kept c b p (runs m z) t refl) o
  single_kept v b p (notes k) t h o = rw (vns_kept c b p (notes k) t refl) o
  single_kept v b p (releases z) t h o = o

module _ (c : Settings) where
  pub record Reached (s : Section) : Type 0 where
    pub settings : s.settings ≡ c
    pub sound : (b : Bool) → Sound (line c s) b (track_of s b)
    -- at most one track is not settled on VNS
    pub single : (b : Bool) → (settled_on_vns (track_of s b) || other_settled_on_vns s b) ≡ true

  pub reached_right : settings_in_range c ≡ true → (s : Section) → Reached s → LineRight (line c s)
  reached_right right s r = line_right c right

  other_other : (s : Section) (b : Bool) → track_of s (not (not b)) ≡ track_of s b
  other_other s true = refl
  other_other s false = refl

  module _ (right : settings_in_range c ≡ true) (s : Section) where
    one_kept : (b : Bool) (p : ℕ) (k : View) → AcceptedIn c s (on b p k) → Reached s → Reached (section_after_step c s (on b p k))
    unfolding AcceptedIn
    one_kept b p k h r = record {
      settings = settings_after c s (on b p k) ∙ r.settings;
      sound = by_track (λ d. Sound (line c s) d (track_of after d)) b
          (rw here (sound_kept (line c s) b v (track_of s b) p (reached_right right s r) k h (r.sound b))) (rw there (r.sound (not b)));
      single = by_track (λ d. (settled_on_vns (track_of after d) || other_settled_on_vns after d) ≡ true) b (rw (here, there) one)
          (rw (other_other after b, here, there) (or_comm v (settled_on_vns (track_after_step (line c s) b p k (track_of s b))) ∙ one));
    }
      where
        v : Bool
        v = other_settled_on_vns s b

        after : Section
        after = section_after_step c s (on b p k)

        here : track_of after b ≡ track_after_step (line c s) b p k (track_of s b)
        here = here_after c s b p k

        there : track_of after (not b) ≡ track_of s (not b)
        there = there_after c s b p k

        one : (settled_on_vns (track_after_step (line c s) b p k (track_of s b)) || v) ≡ true
        one = single_kept (line c s) v b p k (track_of s b) h (r.single b)

    pub reached_kept : (x : Seen) → AcceptedIn c s x → Reached s → Reached (section_after_step c s x)
    reached_kept (on b p k) h r = one_kept b p k h r

  -- ## The fresh section

  fresh_only : (e p : ℕ) (o : Post) → p < most_posts → (get_or (set (replicate most_posts blank) e o) p blank).permission ≡ true → p ≡ e
  fresh_only e p o h t = go (ℕ_discrete p e)
    where
      go : Dec (p ≡ e) → p ≡ e
      go (yes q) = q
      go (no ne) = absurd (false≢true (rw (get_or-set_other (replicate most_posts blank) e p o blank ne, get_or-replicate most_posts p blank blank h) at t))

  module _ (right : settings_in_range c ≡ true) where
    n2 : least_posts ≤ c.posts
    n2 = (posts_right c right).0

    n16 : c.posts ≤ most_posts
    n16 = (posts_right c right).1

    fresh_permits : (b : Bool) (p : ℕ) → p < c.posts → (get_or (fresh_track c.posts b).posts p blank).permission ≡ true
        → rank c.posts (upward b false) p ≡ 0
    unfolding fresh_track rank upward
    fresh_permits false p p<n h = fresh_only 0 p (permitted true blank) (omega (arith, n16)) h
    fresh_permits true p p<n h = omega (arith, fresh_only (c.posts - 1) p (permitted true blank) (omega (arith, n16)) h)

    abbrev fresh_line : Line
    fresh_line = line_of c

    fresh_right : LineRight fresh_line
    fresh_right = line_right c right

    fresh_sound : (b : Bool) → Sound fresh_line b (fresh_track c.posts b)
    unfolding fresh_track post_in_range
    fresh_sound b = record {
      clear = λ j h k. absurd (cleared_settled fresh_line b fresh_right false j h);
      permits = λ p p<n h. fresh_permits b p p<n h;
      sizes = record { posts = length-set (replicate most_posts blank) (cond b (c.posts - 1) 0) (permitted true blank); trains = refl; last = refl };
      ranges = record {
        posts = λ p p<n. set_keeps (λ (o : Post). post_in_range o ≡ true) (replicate most_posts blank) (cond b (c.posts - 1) 0) p (permitted true blank) blank
            (replicate-keeps (λ (o : Post). post_in_range o ≡ true) most_posts p blank refl) refl;
        trains = λ i h. replicate-keeps (λ (w : ℕ). w ≤ largest_train) most_blocks i 0 (omega arith);
        last = λ i h. replicate-keeps (λ (w : ℕ). w ≤ largest_train) most_blocks i 0 (omega arith);
        turn = tt;
      };
    }

    fresh_single : (b : Bool) → (settled_on_vns (track_of (fresh_section c) b) || other_settled_on_vns (fresh_section c) b) ≡ true
    unfolding fresh_section fresh_track
    fresh_single true = refl
    fresh_single false = refl

    pub fresh_reached : Reached (fresh_section c)
    unfolding fresh_section
    fresh_reached = record {
      settings = refl;
      sound = by_track (λ d. Sound fresh_line d (track_of (fresh_section c) d)) true (fresh_sound true) (fresh_sound false);
      single = fresh_single;
    }

  pub fresh_settled : (b : Bool) → (track_of (fresh_section c) b).walk ≡ Settled
  unfolding fresh_section fresh_track
  fresh_settled true = refl
  fresh_settled false = refl

  -- ## Judging

  pub reached_in_range : settings_in_range c ≡ true → (s : Section) → Reached s → in_range s ≡ true
  reached_in_range w s r =
      section_out s (record { settings = rw r.settings w; tracks = rw r.settings (λ b. (r.sound b).ranges) })

  pub reached_judge : settings_in_range c ≡ true → (s : Section) (bytes : List ℕ) → Reached s → Reached (judge s bytes).section
  reached_judge w s bytes r = go (judged c s r.settings (reached_in_range w s r) bytes)
    where
      go : Judged c s r.settings (reached_in_range w s r) bytes → Reached (judge s bytes).section
      go (refused k e) = rw e r
      go (accepted x d h e) = rw e (reached_kept w s x h r)
