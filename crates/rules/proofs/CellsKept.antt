-- Cells past post n−1 or block section n−2 are not changed: an accepted step stores the record of its own post, which is below n, and moves
-- trains only in block sections that the section has. A refused one leaves the section as it is.
use Prim.Native.Nat.{ℕ, suc, ◌≤◌, ◌<◌}
use mathlib.Core.Bool.{Bool, true, false, not}
use mathlib.Core.Path.{◌≡◌, refl, ◌∙◌}
use mathlib.Core.List.{List}
use native.Mathlib.Omega.{arith}
use lib.ListN.{get_or, set}
use lib.Seq.{get_or-set_other}
use Rattle.std.specs.Prelude.{Err}
use Rattle.section.specs.declared.Refusal.TheVariants.{OutOfRange}
use Rattle.section.specs.declared.Track.{Track}
use Rattle.section.specs.declared.Section.{Section}
use Rattle.section.specs.Geometry.{upward}
use Rattle.section.specs.Post.{blank}
use Rattle.section.specs.Range.{in_range}
use Rattle.section.specs.Store.{track_of}
use Rattle.section.proofs.Laws.{posts_right, settings_in_range_lem}
use Rattle.rules.specs.declared.Line.{Line}
use Rattle.rules.specs.declared.Site.{Site}
use Rattle.rules.specs.declared.Movement.{Movement}
use Rattle.rules.specs.declared.Movement.TheVariants.{Stays, Enters, Moves, Leaves}
use Rattle.rules.specs.Line.{line_in}
use Rattle.rules.specs.Site.{site_on, other_settled_on_vns, block_ahead, block_before}
use Rattle.rules.specs.Table.{checks, effect, vacated, cells_after, track_after}
use Rattle.rules.specs.Judge.{judge}
use Rattle.rules.specs.CellsPast.{SamePast, KeptPast, CellsPastKept}
use Rattle.rules.proofs.Facts.{by_track, first_not_last, ahead_lt, before_lt}
use Rattle.rules.proofs.View.{start, pass, leave, View, walks, runs, notes, releases, flat, Seen, on}
use Rattle.rules.proofs.Frame.{no_movement}
use Rattle.rules.proofs.Accept.{AcceptedOn, track_after_step, AcceptedIn, section_after_step, Judged, refused, accepted, judged}
use Rattle.rules.proofs.Held.{start_held, pass_held, leave_not_first}
use Rattle.rules.proofs.Exchange.{here_after, there_after}

pub same_past : (n : ℕ) (t : Track) → SamePast n t t
same_past n t = record { posts = λ p h. refl; trains = λ i h. refl; last = λ i h. refl }

module _ (c : Line) where
  -- ## Where a movement stores

  abbrev StoresInside : Movement → Site → Type 0
  StoresInside Stays e = Unit {0}
  StoresInside (Enters z) e = suc (block_ahead c e) < c.posts
  StoresInside (Moves z) e = (suc (block_before c e) < c.posts) × (suc (block_ahead c e) < c.posts)
  StoresInside Leaves e = suc (block_before c e) < c.posts

  store_past : (l : List ℕ) (j z i : ℕ) → suc j < c.posts → c.posts ≤ suc i → get_or (set l j z) i 0 ≡ get_or l i 0
  store_past l j z i h k = get_or-set_other l j i z 0 (omega arith)

  vacated_past : (clears : Bool) (e : Site) (l : List ℕ) → suc (block_before c e) < c.posts → (i : ℕ) → c.posts ≤ suc i
      → get_or (vacated c clears e l) i 0 ≡ get_or l i 0
  vacated_past true e l h i k = store_past l (block_before c e) 0 i h k
  vacated_past false e l h i k = refl

  cells_past : (clears : Bool) (m : Movement) (e : Site) (l : List ℕ) → StoresInside m e → (i : ℕ) → c.posts ≤ suc i
      → get_or (cells_after c clears m e l) i 0 ≡ get_or l i 0
  unfolding cells_after
  cells_past clears Stays e l h i k = refl
  cells_past clears (Enters z) e l h i k = store_past l _ _ i h k
  cells_past clears (Moves z) e l h i k =
      store_past (vacated c clears e l) (block_ahead c e) z i h.1 k ∙ vacated_past clears e l h.0 i k
  cells_past clears Leaves e l h i k = vacated_past clears e l h i k

  -- ## An accepted step

  module _ (n2 : 2 ≤ c.posts) (v b : Bool) (p : ℕ) (t : Track) where
    abbrev e : Site
    e = site_on b p t

    abbrev up : Bool
    up = upward b t.cvt

    -- a start is at the sending end, a pass at neither end, a leave at the receiving end
    stores_inside : (k : View) → AcceptedOn c v b p k t → StoresInside (effect c (flat p k) e).train e
    unfolding checks effect flat
    stores_inside (walks r) h = rw (no_movement c p (walks r) e refl) tt
    stores_inside (runs start z) h = ahead_lt c.posts up p h.fits.below (first_not_last c.posts up p n2 (start_held h).first)
    stores_inside (runs pass z) h = (
      before_lt c.posts up p h.fits.below (pass_held h).not_first,
      ahead_lt c.posts up p h.fits.below (pass_held h).not_last,
    )
    stores_inside (runs leave z) h = before_lt c.posts up p h.fits.below (leave_not_first n2 h)
    stores_inside (notes k) h = rw (no_movement c p (notes k) e refl) tt
    stores_inside (releases z) h = tt

    track_past : (k : View) → AcceptedOn c v b p k t → SamePast c.posts (track_after_step c b p k t) t
    unfolding track_after
    track_past k h = record {
      posts = λ q n≤q. get_or-set_other t.posts _ q _ blank (omega (arith, h.fits.below));
      trains = cells_past true (effect c (flat p k) e).train e t.trains (stores_inside k h);
      last = cells_past false (effect c (flat p k) e).train e t.last (stores_inside k h);
    }

-- ## Judging

module _ (s : Section) where
  abbrev after : Seen → Section
  after x = section_after_step s.settings s x

  abbrev n : ℕ
  n = s.settings.posts

  same_section : KeptPast n s s
  same_section = record { tracks = λ b. same_past n (track_of s b) }

  section_past : (x : Seen) → 2 ≤ n → AcceptedIn s.settings s x → KeptPast n (after x) s
  unfolding AcceptedIn
  section_past (on b p k) n2 h = record {
    tracks = by_track (λ d. SamePast n (track_of (after (on b p k)) d) (track_of s d)) b
        (rw (here_after s.settings s b p k) (track_past (line_in s) n2 (other_settled_on_vns s b) b p (track_of s b) k h))
        (rw (there_after s.settings s b p k) (same_past n (track_of s (not b))));
  }

out_of_range : (s : Section) (bytes : List ℕ) → in_range s ≡ false → judge s bytes ≡ record { verdict = Err OutOfRange; section = s }
unfolding judge
out_of_range s bytes r = rw r refl

pub cells_past_kept : CellsPastKept
cells_past_kept s bytes = go (in_range s) refl
  where
    Kept : Section → Type 0
    Kept u = KeptPast s.settings.posts u s

    by_table : (r : in_range s ≡ true) → Judged s.settings s refl r bytes → Kept (judge s bytes).section
    by_table r (refused k e) = rw e (same_section s)
    by_table r (accepted x d h e) = rw e (section_past s x (posts_right s.settings (settings_in_range_lem s r)).0 h)

    go : (r : Bool) → in_range s ≡ r → Kept (judge s bytes).section
    go true r = by_table r (judged s.settings s refl r bytes)
    go false r = rw (out_of_range s bytes r) (same_section s)
