-- The next post of the walk, after a post that is not the receiving end: it is further on, and no post between the two is open.
use Prim.Native.Nat.{ℕ, zero, suc, ◌+◌, ◌-◌, ◌≤◌, ◌<◌}
use mathlib.Core.Bool.{Bool, true, false, cond}
use mathlib.Core.Path.{◌≡◌, refl}
use native.Mathlib.Omega.{arith}
use native.Mathlib.Decide.{ℕ_discrete}
use Rattle.section.specs.Geometry.{upward, rank}
use Rattle.section.proofs.Laws.{rank_lt, rank_rank}
use Rattle.rules.specs.declared.Line.{Line}
use Rattle.rules.specs.declared.Site.{Site}
use Rattle.rules.specs.Site.{first_from, rank_at, open_at, next_post}

-- ## The first rank that passes a test

pub record FirstFrom (test : ℕ → Bool) (f j m : ℕ) : Type 0 where
  pub from : j ≤ m
  pub upto : m ≤ j + f
  pub none_before : (k : ℕ) → j ≤ k → k < m → test k ≡ false

pub first_from_lem : (test : ℕ → Bool) (f j : ℕ) → FirstFrom test f j (first_from test f j)
unfolding first_from
first_from_lem test zero j = record { from = omega arith; upto = omega arith; none_before = λ k a b. absurd (omega arith) }
first_from_lem test (suc f) j = go (test j) refl (first_from_lem test f (suc j))
  where
    go : (x : Bool) → test j ≡ x → FirstFrom test f (suc j) (first_from test f (suc j))
        → FirstFrom test (suc f) j (cond x j (first_from test f (suc j)))
    go true e r = record { from = omega arith; upto = omega arith; none_before = λ k a b. absurd (omega arith) }
    go false e r = record { from = omega (arith, r.from); upto = omega (arith, r.upto); none_before = λ k a b. past k a b (ℕ_discrete k j) }
      where
        past : (k : ℕ) → j ≤ k → k < first_from test f (suc j) → Dec (k ≡ j) → test k ≡ false
        past k a b (yes q) = rw q e
        past k a b (no d) = r.none_before k (omega arith) b

-- ## The next post

module _ (c : Line) (b cvt : Bool) where
  -- q is further on than the rank r, and no post in between is open
  pub record NextOpen (r q : ℕ) : Type 0 where
    pub below : q < c.posts
    pub after : r < rank c.posts (upward b cvt) q
    pub none_between : (k : ℕ) → r < k → k < rank c.posts (upward b cvt) q → open_at c b cvt k ≡ false

pub next_post_lem : (c : Line) (e : Site) → suc (rank_at c e) < c.posts → NextOpen c e.track e.cvt (rank_at c e) (next_post c e)
unfolding next_post
next_post_lem c e h =
    let up = upward e.track e.cvt in
    let r = rank_at c e in
    let m = first_from (open_at c e.track e.cvt) (c.posts - suc (suc r)) (suc r) in
    let f = first_from_lem (open_at c e.track e.cvt) (c.posts - suc (suc r)) (suc r) in
    let m<n : m < c.posts = omega (arith, f.upto) in
    let back : rank c.posts up (rank c.posts up m) ≡ m = rank_rank c.posts up m m<n in
    record {
      below = rank_lt c.posts up m m<n;
      after = omega (arith, back, f.from);
      none_between = λ k a d. f.none_before k (omega arith) (omega (arith, back));
    }
