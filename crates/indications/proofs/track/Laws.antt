-- The indications of a section in its ranges, track by track; all dark where the ranges do not hold or the section has no such track. Every post
-- stands at its place in the list, and past the last place all posts are dark.
use Prim.Native.Nat.{ℕ, ◌+◌, ◌<◌, ◌≤◌}
use mathlib.Core.Bool.{Bool, true, false, cond, ◌&&◌}
use mathlib.Core.Logic.{◌≢◌}
use mathlib.Core.Path.{◌≡◌, refl, sym, ◌∙◌}
use lib.Dec.{eqb, ltb}
use lib.ListN.{set, get_or, replicate, length-set, get_or-eq_default}
use lib.Seq.{ext_get_or, get_or-set_same, get_or-set_other}
use native.Mathlib.Decide.{ℕ_discrete, dec_lt}
use native.Mathlib.Omega.{arith}
use borrow.Author.Tests.{lt-ltb, le-ltb}
use Rattle.section.specs.declared.Indications.{Indications}
use Rattle.section.specs.declared.Section.{Section}
use Rattle.section.specs.declared.Settings.{Settings}
use Rattle.section.specs.declared.Track.{Track}
use Rattle.section.specs.Items.{items}
use Rattle.section.specs.Numbers.{most_posts}
use Rattle.section.specs.Range.{in_range}
use Rattle.section.specs.Store.{track_of}
use Rattle.section.proofs.Items.{same_items, items_length, item_at}
use Rattle.section.proofs.Laws.{posts_right, settings_in_range_lem}
use Rattle.rules.specs.Line.{line_of}
use Rattle.rules.specs.Site.{site_on}
use Rattle.rules.specs.Indications.{shown, lamps_at, dark, indications, indications_on, track_indications}
use Rattle.indications.specs.OnTrack.{one_of_first, indications_at}

-- every post dark
all_dark_items : items (λ (p : ℕ). dark) most_posts ≡ replicate most_posts dark
unfolding items
all_dark_items = refl

dark_when :
    (s : Section) (track : ℕ) → ((p : ℕ) → indications s track p ≡ dark) → replicate most_posts dark ≡ track_indications s track
unfolding track_indications
dark_when s track h = sym (same_items (indications s track) (λ (p : ℕ). dark) most_posts (λ p k. h p) ∙ all_dark_items)

pub dark_out : (s : Section) (track : ℕ) → in_range s ≡ false → replicate most_posts dark ≡ track_indications s track
unfolding indications
dark_out s track h = dark_when s track (λ p. rw h)

pub dark_track : (s : Section) (track : ℕ) → in_range s ≡ true → 2 ≤ track → replicate most_posts dark ≡ track_indications s track
unfolding indications
dark_track s track h k = dark_when s track (λ p. rw (h, le-ltb track 2 k))

-- a section in its ranges, by one of its tracks
pub by_track :
    (s : Section) (track : ℕ) (b : Bool) → in_range s ≡ true → track < 2 → eqb track 1 ≡ b
    → items (indications_at s.settings b (track_of s b)) most_posts ≡ track_indications s track
unfolding track_indications indications indications_on one_of_first
by_track s track b h k e = same_items _ _ most_posts (λ p l. rw (h, lt-ltb track 2 k, e))

-- no section has a post 16
past_the_last : (s : Section) (track p : ℕ) → most_posts ≤ p → indications s track p ≡ dark
unfolding indications indications_on
past_the_last s track p k = go (in_range s) refl
  where
    never : (b : Bool) → (b && false) ≡ false
    never true = refl
    never false = refl

    go :
        (b : Bool) → in_range s ≡ b
        → cond (b && (ltb track 2 && ltb p s.settings.posts)) (indications_on s (eqb track 1) p) dark ≡ dark
    go true h = rw (le-ltb p s.settings.posts (omega (arith, (posts_right _ (settings_in_range_lem s h)).1)), never (ltb track 2))
    go false h = refl

-- every post at its place
pub at_its_place : (s : Section) (track p : ℕ) → get_or (track_indications s track) p dark ≡ indications s track p
unfolding track_indications
at_its_place s track p = go (dec_lt p most_posts)
  where
    go : Dec (p < most_posts) → get_or (items (indications s track) most_posts) p dark ≡ indications s track p
    go (yes k) = item_at (indications s track) dark most_posts p k
    go (no k) =
        get_or-eq_default (items (indications s track) most_posts) dark (rw (items_length (indications s track) most_posts) (omega arith))
        ∙ sym (past_the_last s track p (omega arith))

-- ## Filled post by post

-- an item put into its place
item_set :
    {A : Type 0} (g h : ℕ → A) (m p : ℕ) (x : A) → p < m → x ≡ h p → ((k : ℕ) → k ≢ p → g k ≡ h k)
    → set (items g m) p x ≡ items h m
item_set g h m p x below e other =
    ext_get_or x (set (items g m) p x) (items h m) (length-set (items g m) p x ∙ items_length g m ∙ sym (items_length h m))
    (λ i k. at i (rw (length-set (items g m) p x, items_length g m) at k) (ℕ_discrete i p))
  where
    at : (i : ℕ) → i < m → Dec (i ≡ p) → get_or (set (items g m) p x) i x ≡ get_or (items h m) i x
    at i k (yes q) = rw q (get_or-set_same (items g m) p x x (rw (items_length g m) below) ∙ e ∙ sym (item_at h x m p below))
    at i k (no q) = get_or-set_other (items g m) p i x x q ∙ item_at g x m i k ∙ other i q ∙ sym (item_at h x m i k)

module _ (c : Settings) (track : Bool) (t : Track) where
  pub none_yet : replicate most_posts dark ≡ items (one_of_first c track t 0) most_posts
  unfolding items one_of_first
  none_yet = refl

  pub one_more :
      (p : ℕ) (x : Indications) → p < most_posts → x ≡ shown (lamps_at (line_of c) (site_on track p t) t.trains)
      → set (items (one_of_first c track t p) most_posts) p x ≡ items (one_of_first c track t (p + 1)) most_posts
  unfolding one_of_first
  one_more p x below e =
      item_set (one_of_first c track t p) (one_of_first c track t (p + 1)) most_posts p x below (rw (lt-ltb p (p + 1) (omega arith)) e)
      (λ k q. other k q (dec_lt k p))
    where
      other : (k : ℕ) → k ≢ p → Dec (k < p) → one_of_first c track t p k ≡ one_of_first c track t (p + 1) k
      other k q (yes l) = rw (lt-ltb k p l, lt-ltb k (p + 1) (omega arith))
      other k q (no l) = rw (le-ltb k p (omega arith), le-ltb k (p + 1) (omega arith))
