-- What is read is written back: each part of a well-formed image is the part written of what it says.
use Prim.Native.Nat.{ℕ, zero, suc, ◌+◌, ◌*◌, ◌/◌, ◌%◌, ◌<◌, ◌≤◌}
use mathlib.Core.Bool.{Bool, true, false, cond, ◌&&◌}
use mathlib.Core.List.{List, [], ◌∷◌, ◌++◌}
use mathlib.Core.Path.{◌≡◌, refl, sym, ap, ◌∙◌}
use native.Mathlib.Nat.{div-div-eq-div-mul}
use native.Mathlib.Omega.{arith}
use lib.Dec.{eqb, leb}
use lib.ListN.{length, take, drop, length-drop}
use lib.Seq.{take_all, take-add, drop-drop, get_or-drop}
use borrow.Author.Tests.{eqb-true, leb-true}
use Rattle.section.specs.Bytes.{byte, AllBytes, le16, truth_number}
use Rattle.section.specs.Items.{items}
use Rattle.section.specs.Numbers.{most_posts, most_blocks}
use Rattle.section.specs.Post.{blank}
use Rattle.section.proofs.Items.{same_items, first_items, item_at}
use Rattle.section.proofs.Laws.{and_parts}
use Rattle.text.specs.Text.{first_texts}
use Rattle.layout.specs.Layout.{longest_settings, le16_bytes, settings_bytes, settings_of}
use Rattle.layout.proofs.Numbers.{le16_bytes_lem}
use Rattle.image.specs.Image.{number_length, post_length, posts_length, numbers_length, head_length, track_length}
use Rattle.image.specs.Image.{settings_place, track_a, track_b, image_length}
use Rattle.image.specs.Image.{faults_byte, post_image, posts_image, numbers_image, act_number, walk_image, track_head, track_image, image_head, image_of}
use Rattle.image.specs.Image.{number_at, post_at, posts_from, numbers_from, walk_of, track_from, section_of}
use Rattle.image.specs.Image.{post_well_formed, posts_well_formed, walk_well_formed, track_well_formed}
use Rattle.image.specs.RoundTrip.{WritesBack}
use Rattle.image.proofs.Laws.{ImageTested, image_tested, each_post}

-- ## Parts of bytes

-- so many bytes from a place on
abbrev part : List ℕ → ℕ → ℕ → List ℕ
part l at m = take m (drop at l)

-- a part, byte by byte
listed_part : (l : List ℕ) (at m : ℕ) → at + m ≤ length l → part l at m ≡ items (λ (i : ℕ). byte l (at + i)) m
listed_part l at m h =
    sym (first_items 0 (drop at l) m (rw (length-drop at l) (omega arith)))
    ∙ same_items (λ (i : ℕ). byte (drop at l) i) (λ (i : ℕ). byte l (at + i)) m (λ i k. get_or-drop at l i 0)

-- a part, and the one behind it
parts_joined : (l : List ℕ) (at m k : ℕ) → part l at m ++ part l (at + m) k ≡ part l at (m + k)
parts_joined l at m k = ap (λ (r : List ℕ). part l at m ++ take k r) (sym (drop-drop m at l)) ∙ sym (take-add m k (drop at l))

-- items of one length, each the part at its place, are one part
items_joined :
    (item : ℕ → List ℕ) (size : ℕ) (l : List ℕ) (at m : ℕ) → ((i : ℕ) → i < m → item i ≡ part l (at + size * i) size) →
    first_texts item m ≡ part l at (size * m)
unfolding first_texts
items_joined item size l at zero h = let e : size * 0 ≡ 0 = omega arith in rw e
items_joined item size l at (suc m) h =
    let e : size * suc m ≡ size * m + size = omega arith in
    rw (items_joined item size l at m (λ i k. h i (omega (arith, k))), h m (omega arith), e) (parts_joined l at (size * m) size)

-- ## Flags

flag_kept : (x : ℕ) → x ≤ 1 → truth_number (eqb x 1) ≡ x
flag_kept zero h = refl
flag_kept (suc zero) h = refl
flag_kept (suc (suc x)) h = absurd (omega (arith, h))

module _ (x : ℕ) (h : x ≤ 15) where
  faults_kept :
      truth_number (eqb (x % 2) 1) + truth_number (eqb (x / 2 % 2) 1) * 2
      + truth_number (eqb (x / 4 % 2) 1) * 4 + truth_number (eqb (x / 8 % 2) 1) * 8
      ≡ x
  faults_kept =
      rw (
        flag_kept (x % 2) (omega arith),
        flag_kept (x / 2 % 2) (omega arith),
        flag_kept (x / 4 % 2) (omega arith),
        flag_kept (x / 8 % 2) (omega arith),
        ← div-div-eq-div-mul x 2 4,
        ← div-div-eq-div-mul (x / 2) 2 2,
        ← div-div-eq-div-mul x 2 2,
      )
      (omega arith)

-- ## A number and a post

module _ (l : List ℕ) (bytes : AllBytes l) where
  number_kept : (at : ℕ) → le16_bytes (number_at l at) ≡ byte l at ∷ byte l (at + 1) ∷ []
  unfolding number_at
  number_kept at = le16_bytes_lem (byte l at) (byte l (at + 1)) (bytes at) (bytes (at + 1))

  number_part : (at : ℕ) → at + number_length ≤ length l → le16_bytes (number_at l at) ≡ part l at number_length
  unfolding items
  number_part at h = let e : at + 0 ≡ at = omega arith in rw (listed_part l at number_length h, e) (number_kept at)

-- what the tests of a post say
record PostTested (l : List ℕ) (at : ℕ) : Type 0 where
  device : byte l at ≤ 1
  permission : byte l (at + 1) ≤ 1
  measures : byte l (at + 2) ≤ 1
  faults : byte l (at + 3) ≤ 15
  mark : byte l (at + 4) ≤ 1
  zero_next : byte l (at + 5) ≡ 0

module _ (l : List ℕ) (at : ℕ) where
  post_tested : post_well_formed l at ≡ true → PostTested l at
  unfolding post_well_formed
  post_tested e =
      let five = leb (byte l (at + 4)) 1 && eqb (byte l (at + 5)) 0 in
      let four = leb (byte l (at + 3)) 15 && five in
      let three = leb (byte l (at + 2)) 1 && four in
      let two = leb (byte l (at + 1)) 1 && three in
      let by-device = and_parts (leb (byte l at) 1) two e in
      let by_permission = and_parts (leb (byte l (at + 1)) 1) three by-device.1 in
      let by-measures = and_parts (leb (byte l (at + 2)) 1) four by_permission.1 in
      let by-faults = and_parts (leb (byte l (at + 3)) 15) five by-measures.1 in
      let by-mark = and_parts (leb (byte l (at + 4)) 1) (eqb (byte l (at + 5)) 0) by-faults.1 in
      record {
        device = leb-true _ _ by-device.0;
        permission = leb-true _ _ by_permission.0;
        measures = leb-true _ _ by-measures.0;
        faults = leb-true _ _ by-faults.0;
        mark = leb-true _ _ by-mark.0;
        zero_next = eqb-true _ _ by-mark.1;
      }

  post_kept : AllBytes l → at + post_length ≤ length l → post_well_formed l at ≡ true → post_image (post_at l at) ≡ part l at post_length
  unfolding post_image post_at faults_byte items
  post_kept bytes h e =
      let t = post_tested e in
      let none : at + 0 ≡ at = omega arith in
      let seven : at + 6 + 1 ≡ at + 7 = omega arith in
      let nine : at + 8 + 1 ≡ at + 9 = omega arith in
      rw (
        listed_part l at post_length h,
        none,
        flag_kept (byte l at) t.device,
        flag_kept (byte l (at + 1)) t.permission,
        flag_kept (byte l (at + 2)) t.measures,
        faults_kept (byte l (at + 3)) t.faults,
        flag_kept (byte l (at + 4)) t.mark,
        t.zero_next,
        number_kept l bytes (at + 6),
        number_kept l bytes (at + 8),
        seven,
        nine,
      )

-- ## Numbers and posts, one after another

module _ (l : List ℕ) (bytes : AllBytes l) (at m : ℕ) where
  numbers_kept : at + number_length * m ≤ length l → numbers_image m (numbers_from l at m) ≡ part l at (number_length * m)
  unfolding numbers_image numbers_from
  numbers_kept h =
      items_joined _ number_length l at m
      (λ i k.
      ap le16_bytes (item_at (λ (j : ℕ). number_at l (at + number_length * j)) 0 m i k)
      ∙ number_part l bytes (at + number_length * i) (omega arith))

  posts_kept :
      at + post_length * m ≤ length l → posts_well_formed l at m ≡ true → posts_image m (posts_from l at m) ≡ part l at (post_length * m)
  unfolding posts_image posts_from
  posts_kept h e =
      items_joined _ post_length l at m
      (λ p k.
      ap post_image (item_at (λ (q : ℕ). post_at l (at + post_length * q)) blank m p k)
      ∙ post_kept l (at + post_length * p) bytes (omega arith) (each_post l at m e p k))

-- ## A track

act_small : (act post : ℕ) → walk_well_formed act post ≡ true → act ≤ 3
unfolding walk_well_formed
act_small act post e = go (eqb act 0) refl e
  where
    go : (b : Bool) → eqb act 0 ≡ b → cond b (eqb post 0) (leb act 3) ≡ true → act ≤ 3
    go true z k = omega (arith, eqb-true act 0 z)
    go false z k = leb-true act 3 k

walk_kept : (act post : ℕ) → act ≤ 3 → walk_well_formed act post ≡ true → walk_image (walk_of act post) ≡ act ∷ post ∷ []
unfolding walk_well_formed walk_of walk_image act_number
walk_kept zero post h e = ap (λ (p : ℕ). 0 ∷ p ∷ []) (sym (eqb-true post 0 e))
walk_kept (suc zero) post h e = refl
walk_kept (suc (suc zero)) post h e = refl
walk_kept (suc (suc (suc zero))) post h e = refl
walk_kept (suc (suc (suc (suc act)))) post h e = absurd (omega (arith, h))

-- what the tests of a track say
record TrackTested (l : List ℕ) (at : ℕ) : Type 0 where
  direction : byte l at ≤ 1
  walk : walk_well_formed (byte l (at + 1)) (byte l (at + 2)) ≡ true
  zero_next : byte l (at + 3) ≡ 0
  posts : posts_well_formed l (at + head_length) most_posts ≡ true

module _ (l : List ℕ) (at : ℕ) where
  track_tested : track_well_formed l at ≡ true → TrackTested l at
  unfolding track_well_formed
  track_tested e =
      let three = eqb (byte l (at + 3)) 0 && posts_well_formed l (at + head_length) most_posts in
      let two = walk_well_formed (byte l (at + 1)) (byte l (at + 2)) && three in
      let by-direction = and_parts (leb (byte l at) 1) two e in
      let by-walk = and_parts (walk_well_formed (byte l (at + 1)) (byte l (at + 2))) three by-direction.1 in
      let by_zero = and_parts (eqb (byte l (at + 3)) 0) (posts_well_formed l (at + head_length) most_posts) by-walk.1 in
      record {
        direction = leb-true _ _ by-direction.0;
        walk = by-walk.0;
        zero_next = eqb-true _ _ by_zero.0;
        posts = by_zero.1;
      }

  head_kept : at + head_length ≤ length l → TrackTested l at → track_head (track_from l at) ≡ part l at head_length
  unfolding track_head track_from items
  head_kept h t =
      let none : at + 0 ≡ at = omega arith in
      let act = byte l (at + 1) in
      let post = byte l (at + 2) in
      rw (
        listed_part l at head_length h,
        none,
        flag_kept (byte l at) t.direction,
        walk_kept act post (act_small act post t.walk) t.walk,
        t.zero_next,
      )

  track_kept : AllBytes l → at + track_length ≤ length l → track_well_formed l at ≡ true → track_image (track_from l at) ≡ part l at track_length
  unfolding track_image track_from
  track_kept bytes h e =
      let t = track_tested e in
      let posts-at = at + head_length in
      let trains-at = at + (head_length + posts_length) in
      let last-at = at + (head_length + (posts_length + numbers_length)) in
      let past_posts : posts-at + posts_length ≡ trains-at = omega arith in
      let past_trains : trains-at + numbers_length ≡ last-at = omega arith in
      rw (
        head_kept (omega arith) t,
        posts_kept l bytes posts-at most_posts (omega arith) t.posts,
        numbers_kept l bytes trains-at most_blocks (omega arith),
        numbers_kept l bytes last-at most_blocks (omega arith),
        ← past_trains,
        parts_joined l trains-at numbers_length numbers_length,
        ← past_posts,
        parts_joined l posts-at posts_length (numbers_length + numbers_length),
      )
      (parts_joined l at head_length (posts_length + (numbers_length + numbers_length)))

-- ## An image

module _ (l : List ℕ) (bytes : AllBytes l) (t : ImageTested l) where
  settings_kept : settings_bytes (settings_of (part l settings_place longest_settings)) ≡ part l settings_place longest_settings
  unfolding settings_bytes settings_of items le16 number_at
  settings_kept =
      let whole = t.right_length in
      let low : byte l 8 ≡ 0 = omega (arith, t.zeros) in
      let high : byte l 9 ≡ 0 = omega (arith, t.zeros) in
      rw (
        listed_part l settings_place longest_settings (omega arith),
        le16_bytes_lem (byte l 4) (byte l 5) (bytes 4) (bytes 5),
        le16_bytes_lem (byte l 6) (byte l 7) (bytes 6) (bytes 7),
        low,
        high,
      )

  head_of_image_kept : image_head (section_of l) ≡ part l 0 track_a
  unfolding image_head section_of
  head_of_image_kept =
      let whole = t.right_length in
      rw (← t.right_layout, number_part l bytes 0 (omega arith), settings_kept) (parts_joined l 0 number_length longest_settings)

  image_kept : image_of (section_of l) ≡ l
  unfolding image_of section_of
  image_kept =
      let whole = t.right_length in
      rw (
        head_of_image_kept,
        track_kept l track_a bytes (omega arith) t.a_well_formed,
        track_kept l track_b bytes (omega arith) t.b_well_formed,
        parts_joined l track_a track_length track_length,
        parts_joined l 0 track_a (track_length + track_length),
      )
      (take_all image_length l (omega arith))

pub writes_back : WritesBack
writes_back l bytes e = image_kept l bytes (image_tested l e)
