-- Laws of images: the lengths of what is written, by those of its parts; the test of the posts;
-- an image that is well formed is as long as what is written, so the whole of it is written over.
use Prim.Native.Nat.{ℕ, zero, suc, ◌+◌, ◌*◌, ◌<◌, ◌≤◌}
use mathlib.Core.Bool.{Bool, true, false, ◌&&◌}
use mathlib.Core.List.{List, [], ◌∷◌, ◌++◌, append-nil}
use mathlib.Core.Path.{◌≡◌, refl, ap, ◌∙◌}
use native.Mathlib.Nat.{not-suc-le-zero, zero-add}
use native.Mathlib.Numerals.{add-one}
use native.Mathlib.Omega.{arith}
use lib.ListN.{length, drop, get_or, length-append, drop_of_length-le}
use lib.Dec.{eqb}
use borrow.Author.Count.{below_more}
use borrow.Author.Tests.{eqb-true}
use Rattle.std.specs.Int.{from_bool}
use Rattle.std.specs.List.{list_all, range_with_len}
use Rattle.section.specs.Bytes.{truth_number}
use Rattle.section.specs.declared.Post.{Post}
use Rattle.section.specs.declared.Section.{Section}
use Rattle.section.specs.declared.Track.{Track}
use Rattle.section.specs.declared.Walk.{Walk}
use Rattle.section.specs.declared.Walk.TheVariants.{Settled, Turn}
use Rattle.section.specs.Numbers.{most_posts, most_blocks}
use Rattle.section.specs.Post.{blank}
use Rattle.section.proofs.Laws.{and_parts}
use Rattle.layout.specs.Layout.{le16_bytes, settings_bytes}
use Rattle.text.specs.Text.{written}
use Rattle.text.proofs.Laws.{first_texts_whole}
use Rattle.image.specs.Image.{number_length, post_length, head_length, track_length, settings_zeros, track_a, track_b, image_length, layout_number}
use Rattle.image.specs.Image.{post_image, posts_image, numbers_image, walk_image, track_head, track_image, image_head, image_of}
use Rattle.image.specs.Image.{number_at, post_well_formed, posts_well_formed, track_well_formed, image_well_formed}

-- ## Lengths

pub post_length_lem : (o : Post) → length (post_image o) ≡ post_length
unfolding post_image le16_bytes
post_length_lem o = refl

pub le16_length : (x : ℕ) → length (le16_bytes x) ≡ number_length
unfolding le16_bytes
le16_length x = refl

pub posts_length_lem : (m : ℕ) (l : List Post) → length (posts_image m l) ≡ post_length * m
unfolding posts_image
posts_length_lem m l = omega (arith, first_texts_whole (λ (p : ℕ). post_image (get_or l p blank)) post_length m (λ p. post_length_lem (get_or l p blank)))

pub numbers_length_lem : (m : ℕ) (l : List ℕ) → length (numbers_image m l) ≡ number_length * m
unfolding numbers_image
numbers_length_lem m l = omega (arith, first_texts_whole (λ (i : ℕ). le16_bytes (get_or l i 0)) number_length m (λ i. le16_length (get_or l i 0)))

pub image_head_length : (s : Section) → length (image_head s) ≡ track_a
unfolding image_head settings_bytes le16_bytes
image_head_length s = refl

walk_length : (w : Walk) → length (walk_image w) ≡ 2
unfolding walk_image
walk_length Settled = refl
walk_length (Turn p act) = refl

pub head_length_lem : (t : Track) → length (track_head t) ≡ head_length
unfolding track_head
head_length_lem t = ap suc (length-append (walk_image t.walk) (0 ∷ []) ∙ omega (arith, walk_length t.walk))

pub track_length_lem : (t : Track) → length (track_image t) ≡ track_length
unfolding track_image
track_length_lem t =
    simp length-append
    (omega (arith, head_length_lem t, posts_length_lem most_posts t.posts, numbers_length_lem most_blocks t.trains, numbers_length_lem most_blocks t.last))

pub image_length_lem : (s : Section) → length (image_of s) ≡ image_length
unfolding image_of
image_length_lem s = simp length-append (omega (arith, image_head_length s, track_length_lem s.a, track_length_lem s.b))

-- ## A flag as a number

pub flag_number : (x : Bool) → from_bool x ≡ truth_number x
flag_number true = refl
flag_number false = refl

pub flag_small : (x : Bool) → from_bool x ≤ 1
flag_small true = omega arith
flag_small false = omega arith

-- ## The test of the posts

pub all_well_formed :
    (l : List ℕ) (at m : ℕ) → ((p : ℕ) → p < m → post_well_formed l (at + post_length * p) ≡ true) → posts_well_formed l at m ≡ true
unfolding posts_well_formed
all_well_formed l at zero h = refl
all_well_formed l at (suc m) h = rw (h m (omega arith), all_well_formed l at m (λ p k. h p (omega (arith, k))))

pub each_post : (l : List ℕ) (at m : ℕ) → posts_well_formed l at m ≡ true → (p : ℕ) → p < m → post_well_formed l (at + post_length * p) ≡ true
unfolding posts_well_formed
each_post l at zero e p h = absurd (not-suc-le-zero h)
each_post l at (suc m) e p h =
    let parts = and_parts (post_well_formed l (at + post_length * m)) (posts_well_formed l at m) e in
    below_more (λ (q : ℕ). post_well_formed l (at + post_length * q) ≡ true) m (each_post l at m parts.1) parts.0 p (rw add-one h)

-- a test of the numbers from a on, the last of them first
last_first : (test : ℕ → Bool) (a n : ℕ) → list_all test (range_with_len a (suc n)) ≡ (test (a + n) && list_all test (range_with_len a n))
last_first test a zero = let e : a + 0 ≡ a = omega arith in rw e
last_first test a (suc n) =
    let e : a + 1 + n ≡ a + suc n = omega arith in
    let rest = list_all test (range_with_len (a + 1) n) in
    ap (λ (b : Bool). test a && b) (last_first test (a + 1) n ∙ rw e) ∙ swapped (test a) (test (a + suc n)) rest
  where
    swapped : (b c d : Bool) → (b && (c && d)) ≡ (c && (b && d))
    swapped true c d = refl
    swapped false true d = refl
    swapped false false d = refl

-- the posts tested in a row, from the first on
pub posts_tested :
    (l : List ℕ) (at m : ℕ) → list_all (λ (p : ℕ). post_well_formed l (at + post_length * p)) (range_with_len 0 m) ≡ posts_well_formed l at m
unfolding posts_well_formed
posts_tested l at zero = refl
posts_tested l at (suc m) =
    let test = λ (p : ℕ). post_well_formed l (at + post_length * p) in
    last_first test 0 m ∙ rw (zero-add m, posts_tested l at m)

-- ## A well-formed image is as long as what is written

-- what the tests of an image say
pub record ImageTested (l : List ℕ) : Type 0 where
  pub right_length : length l ≡ image_length
  pub right_layout : number_at l 0 ≡ layout_number
  pub zeros : number_at l settings_zeros ≡ 0
  pub a_well_formed : track_well_formed l track_a ≡ true
  pub b_well_formed : track_well_formed l track_b ≡ true

pub image_tested : (l : List ℕ) → image_well_formed l ≡ true → ImageTested l
unfolding image_well_formed
image_tested l e =
    let tracks = track_well_formed l track_a && track_well_formed l track_b in
    let settings = eqb (number_at l settings_zeros) 0 && tracks in
    let length-first = and_parts (eqb (length l) image_length) (eqb (number_at l 0) layout_number && settings) e in
    let layout-next = and_parts (eqb (number_at l 0) layout_number) settings length-first.1 in
    let zeros-next = and_parts (eqb (number_at l settings_zeros) 0) tracks layout-next.1 in
    let tracks-last = and_parts (track_well_formed l track_a) (track_well_formed l track_b) zeros-next.1 in
    record {
      right_length = eqb-true (length l) image_length length-first.0;
      right_layout = eqb-true (number_at l 0) layout_number layout-next.0;
      zeros = eqb-true (number_at l settings_zeros) 0 zeros-next.0;
      a_well_formed = tracks-last.0;
      b_well_formed = tracks-last.1;
    }

pub well_formed_length : (l : List ℕ) → image_well_formed l ≡ true → length l ≡ image_length
well_formed_length l e = (image_tested l e).right_length

pub whole_written : (l : List ℕ) (s : Section) → length l ≡ image_length → written l 0 (image_of s) ≡ image_of s
unfolding written
whole_written l s e =
    let n = image_length_lem s in
    let past : drop (0 + length (image_of s)) l ≡ [] = drop_of_length-le l {i = 0 + length (image_of s)} (omega arith) in
    ap (λ (r : List ℕ). image_of s ++ r) past ∙ append-nil (image_of s)
