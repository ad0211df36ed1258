-- The part that a post commands: a post sees no train in it exactly where before each train ahead a part ends. By telephone one ends at every
-- post, so the search ends after the block section ahead: the earlier rule. On every line the sending end begins one, since end posts are
-- signalled.
use Prim.Native.Nat.{ℕ, suc, ◌-◌, ◌≤◌, ◌<◌}
use mathlib.Core.Bool.{Bool, true, false, not, ◌&&◌, ◌||◌, or-true, or-false, true≢false}
use mathlib.Core.Path.{◌≡◌, refl, ap}
use mathlib.Core.List.{List}
use native.Mathlib.Omega.{arith}
use lib.Dec.{leb}
use lib.ListN.{get_or}
use borrow.Author.Tests.{not-true}
use Rattle.section.specs.declared.Settings.{Settings}
use Rattle.section.specs.Bytes.{within}
use Rattle.section.specs.Geometry.{upward, rank}
use Rattle.section.specs.Numbers.{least_posts, most_posts}
use Rattle.section.specs.Settings.{is_signalled, settings_in_range}
use Rattle.section.proofs.Laws.{both, and_left, and_right, posts_right}
use Rattle.rules.specs.declared.Line.{Line}
use Rattle.rules.specs.declared.Site.{Site}
use Rattle.rules.specs.Line.{line_of, is_materialised, is_open}
use Rattle.rules.specs.Site.{is_train, reach, holds_train, up_at, rank_at, at_receiving_end, block_ahead, train_at, open_at, part_ends, commands}
use Rattle.rules.specs.Site.{watched_occupied}
use Rattle.rules.specs.Parts.{TelephoneKeepsTheRule}
use Rattle.rules.proofs.Facts.{nand_r, not_last_rank}
use Rattle.rules.proofs.Stretches.{FreeFrom, free_from, from_free}

and-true : (x : Bool) → (x && true) ≡ x
and-true true = refl
and-true false = refl

-- a search that ends after one block section
one_section : (ends : ℕ → Bool) (f : ℕ → ℕ) (m j : ℕ) → ends (suc j) ≡ true → holds_train ends f (suc m) j ≡ is_train (f j)
unfolding reach
one_section ends f m j h = rw h (or-false (is_train (f j)))

module _ (c : Line) (e : Site) where
  -- ## What is watched

  -- no train in the part that begins at the post
  abbrev pub PartFree : List ℕ → Type 0
  PartFree l = FreeFrom c.posts (part_ends c e.track e.cvt) (train_at c e.track e.cvt l) (rank_at c e)

  -- a post sees no train exactly where it commands no part, or one that is free
  pub record Watches (l : List ℕ) : Type 0 where
    pub part_free : commands c e ≡ true → watched_occupied c e l ≡ false → PartFree l
    pub sees_none : (commands c e ≡ true → PartFree l) → watched_occupied c e l ≡ false

  pub watches : (l : List ℕ) → Watches l
  unfolding watched_occupied
  watches l = record {
    part_free = λ k h. free_from c.posts ends f (rank_at c e) (nand_r (commands c e) _ k h);
    sees_none = λ h. unless (commands c e) _ (λ k. from_free c.posts ends f (rank_at c e) (h k));
  }
    where
      ends : ℕ → Bool
      ends = part_ends c e.track e.cvt

      f : ℕ → ℕ
      f = train_at c e.track e.cvt l

      unless : (x y : Bool) → (x ≡ true → y ≡ false) → (x && y) ≡ false
      unless true y f = f refl
      unless false y f = refl

  -- ## Who commands a part

  pub commands_not_last : commands c e ≡ true → at_receiving_end c e ≡ false
  unfolding commands
  commands_not_last h = not-true (at_receiving_end c e) (and_left (not (at_receiving_end c e)) _ h)

  pub begins_commands : at_receiving_end c e ≡ false → part_ends c e.track e.cvt (rank_at c e) ≡ true → commands c e ≡ true
  unfolding commands
  begins_commands n h = both (ap not n) h

  -- ## By telephone

  module _ (form : is_materialised c ≡ false) where
    each_ends : (j : ℕ) → part_ends c e.track e.cvt j ≡ true
    unfolding part_ends
    each_ends j = simp form refl

    commanded : commands c e ≡ not (at_receiving_end c e)
    unfolding commands
    commanded = rw (each_ends (rank_at c e)) (and-true (not (at_receiving_end c e)))

    watched : e.post < c.posts → (trains : List ℕ) → watched_occupied c e trains ≡ (not (at_receiving_end c e) && is_train (get_or trains (block_ahead c e) 0))
    unfolding watched_occupied
    watched below trains = rw commanded (go (at_receiving_end c e) refl)
      where
        train : ℕ → ℕ
        train = train_at c e.track e.cvt trains

        r : ℕ
        r = rank_at c e

        go : (last : Bool) → at_receiving_end c e ≡ last
            → (not last && holds_train (part_ends c e.track e.cvt) train (c.posts - suc r) r) ≡ (not last && is_train (train r))
        go true q = refl
        go false q =
            let inside : suc r < c.posts = not_last_rank c.posts (up_at c e) e.post below q in
            let left : c.posts - suc r ≡ suc (c.posts - suc (suc r)) = omega arith in
            rw left (one_section (part_ends c e.track e.cvt) train (c.posts - suc (suc r)) r (each_ends (suc r)))

pub telephone_keeps_the_rule : TelephoneKeepsTheRule
telephone_keeps_the_rule c e form below = record { commanded = commanded c e form; watched = watched c e form below }

-- ## A part ends only at an open post

pub only_open_ends : (c : Line) (b cvt : Bool) (j : ℕ) → open_at c b cvt j ≡ false → part_ends c b cvt j ≡ false
unfolding open_at is_open
only_open_ends c b cvt j h = absurd (true≢false h)

-- ## The sending end begins a part

module _ (c : Settings) (right : settings_in_range c ≡ true) where
  ends_signalled : (is_signalled c.mask 0 ≡ true) × (is_signalled c.mask (c.posts - 1) ≡ true)
  unfolding settings_in_range
  ends_signalled =
      let rest = and_right (leb c.form 1) _ (and_right (within least_posts most_posts c.posts) _ right) in
      (and_left (is_signalled c.mask 0) _ rest, and_left (is_signalled c.mask (c.posts - 1)) _ (and_right (is_signalled c.mask 0) _ rest))

-- what the proofs use of a line
pub record LineRight (c : Line) : Type 0 where
  pub least : least_posts ≤ c.posts
  pub most : c.posts ≤ most_posts
  pub part_first : (b cvt : Bool) → part_ends c b cvt 0 ≡ true

pub line_right : (c : Settings) → settings_in_range c ≡ true → LineRight (line_of c)
unfolding part_ends rank
line_right c right = record {
  least = (posts_right c right).0;
  most = (posts_right c right).1;
  part_first = λ b cvt. go (upward b cvt);
}
  where
    signals : (is_signalled c.mask 0 ≡ true) × (is_signalled c.mask (c.posts - 1) ≡ true)
    signals = ends_signalled c right

    go : (up : Bool) → (not (is_materialised (line_of c)) || is_signalled c.mask (rank c.posts up 0)) ≡ true
    go true = rw signals.0 (or-true (not (is_materialised (line_of c))))
    go false = rw signals.1 (or-true (not (is_materialised (line_of c))))
