-- Bytes that agree, each list from a place of its own on, say the same: so a part says alone what it says at its place in the whole.
use Prim.Native.Nat.{ℕ, zero, suc, ◌+◌, ◌-◌, ◌*◌, ◌<◌, ◌≤◌}
use mathlib.Core.Bool.{Bool}
use mathlib.Core.List.{List}
use mathlib.Core.Path.{◌≡◌, refl, ◌∙◌}
use native.Mathlib.Nat.{add_assoc, add-zero, zero-add}
use native.Mathlib.Omega.{arith}
use lib.ListN.{take, drop}
use Rattle.std.proofs.lemmas.List.{get_or-take, get_or-drop}
use Rattle.section.specs.declared.Post.{Post}
use Rattle.section.specs.Bytes.{byte}
use Rattle.section.specs.Numbers.{most_posts, most_blocks}
use Rattle.section.proofs.Items.{same_items}
use Rattle.image.specs.Image.{number_length, post_length, posts_length, numbers_length, head_length, track_length}
use Rattle.image.specs.Image.{number_at, post_at, posts_from, numbers_from, track_from}
use Rattle.image.specs.Image.{post_well_formed, posts_well_formed, track_well_formed}

-- n bytes of k, from b on, are those of l, from a on
pub record Agree (k l : List ℕ) (b a n : ℕ) : Type 0 where
  pub same : (i : ℕ) → i < n → byte k (b + i) ≡ byte l (a + i)

pub part_agrees : (l : List ℕ) (at m : ℕ) → Agree (take m (drop at l)) l 0 at m
part_agrees l at m = record { same = λ i h. rw (zero-add i, get_or-take m (drop at l) i 0 h) (get_or-drop at l i 0) }

module _ {k l : List ℕ} {b a n : ℕ} (e : Agree k l b a n) where
  within : (j m : ℕ) → j + m ≤ n → Agree k l (b + j) (a + j) m
  within j m h = record { same = λ i g. rw (add_assoc b j i, add_assoc a j i) (e.same (j + i) (omega (arith, g))) }

  first_same : 0 < n → byte k b ≡ byte l a
  first_same h = rw (add-zero b, add-zero a) at (e.same 0 h)

number_same : {k l : List ℕ} {b a : ℕ} → Agree k l b a number_length → number_at k b ≡ number_at l a
unfolding number_at
number_same e = rw (first_same e (omega arith), e.same 1 (omega arith))

pub post_same : {k l : List ℕ} {b a : ℕ} → Agree k l b a post_length → post_at k b ≡ post_at l a
unfolding post_at
post_same e =
    rw (
      first_same e (omega arith),
      e.same 1 (omega arith),
      e.same 2 (omega arith),
      e.same 3 (omega arith),
      e.same 4 (omega arith),
      number_same (within e 6 2 (omega arith)),
      number_same (within e 8 2 (omega arith)),
    )

pub posts_same : {k l : List ℕ} {b a : ℕ} (m : ℕ) → Agree k l b a (post_length * m) → posts_from k b m ≡ posts_from l a m
unfolding posts_from
posts_same {k} {l} {b} {a} m e =
    same_items (λ (p : ℕ). post_at k (b + post_length * p)) (λ (p : ℕ). post_at l (a + post_length * p)) m
    (λ p h. post_same (within e (post_length * p) post_length (omega (arith, h))))

pub numbers_same : {k l : List ℕ} {b a : ℕ} (m : ℕ) → Agree k l b a (number_length * m) → numbers_from k b m ≡ numbers_from l a m
unfolding numbers_from
numbers_same {k} {l} {b} {a} m e =
    same_items (λ (i : ℕ). number_at k (b + number_length * i)) (λ (i : ℕ). number_at l (a + number_length * i)) m
    (λ i h. number_same (within e (number_length * i) number_length (omega (arith, h))))

pub track_same : {k l : List ℕ} {b a : ℕ} → Agree k l b a track_length → track_from k b ≡ track_from l a
unfolding track_from
track_same e =
    rw (
      posts_same most_posts (within e head_length posts_length (omega arith)),
      numbers_same most_blocks (within e (head_length + posts_length) numbers_length (omega arith)),
      numbers_same most_blocks (within e (head_length + (posts_length + numbers_length)) numbers_length (omega arith)),
      first_same e (omega arith),
      e.same 1 (omega arith),
      e.same 2 (omega arith),
    )

-- ## The tests

pub post_tests_same : {k l : List ℕ} {b a : ℕ} → Agree k l b a post_length → post_well_formed k b ≡ post_well_formed l a
unfolding post_well_formed
post_tests_same e =
    rw (
      first_same e (omega arith),
      e.same 1 (omega arith),
      e.same 2 (omega arith),
      e.same 3 (omega arith),
      e.same 4 (omega arith),
      e.same 5 (omega arith),
    )

pub posts_tests_same : {k l : List ℕ} {b a : ℕ} (m : ℕ) → Agree k l b a (post_length * m) → posts_well_formed k b m ≡ posts_well_formed l a m
unfolding posts_well_formed
posts_tests_same zero e = refl
posts_tests_same (suc m) e =
    let before = posts_tests_same m (record { same = λ i h. e.same i (omega (arith, h)) }) in
    rw (post_tests_same (within e (post_length * m) post_length (omega arith)), before)

pub track_tests_same : {k l : List ℕ} {b a : ℕ} → Agree k l b a track_length → track_well_formed k b ≡ track_well_formed l a
unfolding track_well_formed
track_tests_same e =
    rw (
      first_same e (omega arith),
      e.same 1 (omega arith),
      e.same 2 (omega arith),
      e.same 3 (omega arith),
      posts_tests_same most_posts (within e head_length posts_length (omega arith)),
    )

-- ## What the calls are handed

-- the bytes of post i, of those of all posts
module _ (l : List ℕ) (i : ℕ) where
  abbrev pub post_part : List ℕ
  post_part = take (post_length * (i + 1) - post_length * i) (drop (post_length * i) l)

  post_agrees : Agree post_part l 0 (0 + post_length * i) post_length
  post_agrees =
      let n : post_length * (i + 1) - post_length * i ≡ post_length = omega arith in
      rw (n, zero-add (post_length * i)) (part_agrees l (post_length * i) post_length)

  pub post_place : {y : Post} → y ≡ post_at post_part 0 → y ≡ post_at l (0 + post_length * i)
  post_place e = e ∙ post_same post_agrees

  pub post_test_place : {b : Bool} → b ≡ post_well_formed post_part 0 → b ≡ post_well_formed l (0 + post_length * i)
  post_test_place e = e ∙ post_tests_same post_agrees

-- the posts of a track, and a track of an image
pub posts_place :
    (l : List ℕ) → posts_well_formed (take posts_length (drop head_length l)) 0 most_posts ≡ posts_well_formed l head_length most_posts
posts_place l = posts_tests_same most_posts (part_agrees l head_length posts_length)

pub track_place : (l : List ℕ) (at : ℕ) → track_well_formed (take track_length (drop at l)) 0 ≡ track_well_formed l at
track_place l at = track_tests_same (part_agrees l at track_length)
