-- What is written is read back: each part of an image, wherever it stands in the bytes.
use Prim.Native.Nat.{ℕ, ◌+◌, ◌*◌, ◌/◌, ◌%◌, ◌≤◌}
use mathlib.Core.Bool.{Bool, true, false}
use mathlib.Core.List.{List, [], ◌∷◌, ◌++◌, append_assoc, append-nil}
use mathlib.Core.Path.{◌≡◌, refl, sym, ap, ◌∙◌}
use native.Mathlib.Omega.{arith}
use lib.Dec.{eqb, leb}
use lib.ListN.{length, take, drop, get_or, length-append}
use lib.Seq.{take_all, get_or-append-add}
use borrow.Author.Tests.{eq-eqb, le-leb}
use Rattle.section.specs.declared.Act.TheVariants.{Set, Announce, Acknowledge}
use Rattle.section.specs.declared.Post.{Post}
use Rattle.section.specs.declared.Section.{Section}
use Rattle.section.specs.declared.Track.{Track}
use Rattle.section.specs.declared.Walk.{Walk}
use Rattle.section.specs.declared.Walk.TheVariants.{Settled, Turn}
use Rattle.section.specs.Bytes.{byte, le16, truth_number}
use Rattle.section.specs.Numbers.{most_posts, most_blocks, most_crossings}
use Rattle.section.specs.Post.{blank}
use Rattle.layout.specs.Layout.{longest_settings, le16_bytes, settings_bytes, settings_of}
use Rattle.layout.proofs.Numbers.{le16_number, listed}
use Rattle.section.proofs.StepLaws.{truth_same}
use Rattle.image.specs.Image.{number_length, post_length, posts_length, numbers_length, head_length}
use Rattle.image.specs.Image.{settings_place, settings_zeros, track_a, track_b, image_length, layout_number}
use Rattle.image.specs.Image.{faults_byte, post_image, posts_image, numbers_image, act_number, walk_image, track_head, track_image, image_head, image_of}
use Rattle.image.specs.Image.{number_at, post_at, posts_from, numbers_from, walk_of, track_from, section_of}
use Rattle.image.specs.Image.{post_well_formed, posts_well_formed, walk_well_formed, track_well_formed, image_well_formed}
use Rattle.image.specs.RoundTrip.{Small, TrackHeld, SectionHeld, ReadsBack}
use Rattle.section.proofs.Items.{same_items, first_items}
use Rattle.image.proofs.Items.{each}
use Rattle.image.proofs.Laws.{post_length_lem, le16_length, posts_length_lem, numbers_length_lem, head_length_lem, track_length_lem}
use Rattle.image.proofs.Laws.{image_head_length, image_length_lem, all_well_formed}

-- ## Flags

truth_well_formed : (x : Bool) → leb (truth_number x) 1 ≡ true
truth_well_formed true = refl
truth_well_formed false = refl

truth_small : (x : Bool) → truth_number x ≤ 1
truth_small true = omega arith
truth_small false = omega arith

-- a binary digit is the flag that it was made from
flag_back : (n : ℕ) (x : Bool) → n ≡ truth_number x → eqb n 1 ≡ x
flag_back n x e = ap (λ (k : ℕ). eqb k 1) e ∙ truth_same x

module _ (a b c d : Bool) where
  abbrev four_flags : ℕ
  four_flags = truth_number a + truth_number b * 2 + truth_number c * 4 + truth_number d * 8

record FaultsBack (a b c d : Bool) : Type 0 where
  first : eqb (four_flags a b c d % 2) 1 ≡ a
  second : eqb (four_flags a b c d / 2 % 2) 1 ≡ b
  third : eqb (four_flags a b c d / 4 % 2) 1 ≡ c
  fourth : eqb (four_flags a b c d / 8 % 2) 1 ≡ d
  all_known : leb (four_flags a b c d) 15 ≡ true

faults_back : (a b c d : Bool) → FaultsBack a b c d
faults_back a b c d =
    let all = four_flags a b c d in
    let wa = truth_small a in
    let wb = truth_small b in
    let wc = truth_small c in
    let wd = truth_small d in
    record {
      first = flag_back (all % 2) a (omega arith);
      second = flag_back (all / 2 % 2) b (omega arith);
      third = flag_back (all / 4 % 2) c (omega arith);
      fourth = flag_back (all / 8 % 2) d (omega arith);
      all_known = le-leb all 15 (omega arith);
    }

-- ## Past a first part

module _ (front rest : List ℕ) {at : ℕ} (here : length front ≡ at) where
  past : (n : ℕ) → byte (front ++ rest) (at + n) ≡ byte rest n
  past n = ap (λ (k : ℕ). byte (front ++ rest) (k + n)) (sym here) ∙ get_or-append-add front rest n 0

  past_none : byte (front ++ rest) at ≡ byte rest 0
  past_none = let e : at + 0 ≡ at = omega arith in ap (byte (front ++ rest)) (sym e) ∙ past 0

-- ## A number and a post

module _ (front : List ℕ) {at : ℕ} (here : length front ≡ at) (rest : List ℕ) where
  number_back : (x : ℕ) → Small x → number_at (front ++ (le16_bytes x ++ rest)) at ≡ x
  unfolding number_at le16_bytes
  number_back x h = rw (past_none front (le16_bytes x ++ rest) here, past front (le16_bytes x ++ rest) here 1) (le16_number x h)

  module _ (o : Post) where
    post_well_formed_lem : post_well_formed (front ++ (post_image o ++ rest)) at ≡ true
    unfolding post_well_formed post_image faults_byte
    post_well_formed_lem =
        let l = post_image o ++ rest in
        rw (
          past_none front l here,
          past front l here 1,
          past front l here 2,
          past front l here 3,
          past front l here 4,
          past front l here 5,
          truth_well_formed o.device,
          truth_well_formed o.permission,
          truth_well_formed o.measures,
          (faults_back o.faults.one o.faults.two o.faults.three o.faults.four).all_known,
          truth_well_formed o.mark,
        )

    post_back : Small o.seals → Small o.caution → post_at (front ++ (post_image o ++ rest)) at ≡ o
    unfolding post_at number_at post_image faults_byte le16_bytes
    post_back seals caution =
        let l = post_image o ++ rest in
        let faults = faults_back o.faults.one o.faults.two o.faults.three o.faults.four in
        let seven : at + 6 + 1 ≡ at + 7 = omega arith in
        let nine : at + 8 + 1 ≡ at + 9 = omega arith in
        rw (
          seven,
          nine,
          past_none front l here,
          past front l here 1,
          past front l here 2,
          past front l here 3,
          past front l here 4,
          past front l here 6,
          past front l here 7,
          past front l here 8,
          past front l here 9,
          truth_same o.device,
          truth_same o.permission,
          truth_same o.measures,
          faults.first,
          faults.second,
          faults.third,
          faults.fourth,
          truth_same o.mark,
          le16_number o.seals seals,
          le16_number o.caution caution,
        )

-- ## Numbers and posts, one after another

module _ (front : List ℕ) {at : ℕ} (here : length front ≡ at) where
  numbers_back :
      (l : List ℕ) → ((i : ℕ) → Small (get_or l i 0)) → (m : ℕ) (rest : List ℕ) → m ≤ length l →
      numbers_from (front ++ (numbers_image m l ++ rest)) at m ≡ take m l
  unfolding numbers_from numbers_image
  numbers_back l small m rest h =
      let back =
      each (λ (i : ℕ). le16_bytes (get_or l i 0)) number_length (λ i. le16_length (get_or l i 0)) front at here
      (λ (i : ℕ) (k : List ℕ). number_at k (at + number_length * i) ≡ get_or l i 0)
      (λ i before behind e. number_back before e behind (get_or l i 0) (small i)) m rest in
      same_items _ _ m back ∙ first_items 0 l m h

  module _ (l : List Post) (m : ℕ) (rest : List ℕ) where
    posts_back :
        ((p : ℕ) → Small (get_or l p blank).seals) → ((p : ℕ) → Small (get_or l p blank).caution) → m ≤ length l →
        posts_from (front ++ (posts_image m l ++ rest)) at m ≡ take m l
    unfolding posts_from posts_image
    posts_back seals cautions h =
        let back =
        each (λ (p : ℕ). post_image (get_or l p blank)) post_length (λ p. post_length_lem (get_or l p blank)) front at here
        (λ (p : ℕ) (k : List ℕ). post_at k (at + post_length * p) ≡ get_or l p blank)
        (λ p before behind e. post_back before e behind (get_or l p blank) (seals p) (cautions p)) m rest in
        same_items _ _ m back ∙ first_items blank l m h

    posts_well_formed_lem : posts_well_formed (front ++ (posts_image m l ++ rest)) at m ≡ true
    unfolding posts_image
    posts_well_formed_lem =
        all_well_formed _ at m
        (each (λ (p : ℕ). post_image (get_or l p blank)) post_length (λ p. post_length_lem (get_or l p blank)) front at here
        (λ (p : ℕ) (k : List ℕ). post_well_formed k (at + post_length * p) ≡ true)
        (λ p before behind e. post_well_formed_lem before e behind (get_or l p blank)) m rest)

-- ## A track

module _ (w : Walk) (parts rest : List ℕ) where
  walk_back :
      walk_of (byte (((walk_image w ++ (0 ∷ [])) ++ parts) ++ rest) 0) (byte (((walk_image w ++ (0 ∷ [])) ++ parts) ++ rest) 1) ≡ w
  unfolding walk_of walk_image act_number
  walk_back = go w
    where
      go : (v : Walk) → walk_of (byte (((walk_image v ++ (0 ∷ [])) ++ parts) ++ rest) 0) (byte (((walk_image v ++ (0 ∷ [])) ++ parts) ++ rest) 1) ≡ v
      go Settled = refl
      go (Turn p Set) = refl
      go (Turn p Announce) = refl
      go (Turn p Acknowledge) = refl

  walk_well_formed_lem :
      walk_well_formed (byte (((walk_image w ++ (0 ∷ [])) ++ parts) ++ rest) 0) (byte (((walk_image w ++ (0 ∷ [])) ++ parts) ++ rest) 1) ≡ true
  unfolding walk_well_formed walk_image act_number
  walk_well_formed_lem = go w
    where
      go :
          (v : Walk) →
          walk_well_formed (byte (((walk_image v ++ (0 ∷ [])) ++ parts) ++ rest) 0) (byte (((walk_image v ++ (0 ∷ [])) ++ parts) ++ rest) 1) ≡ true
      go Settled = refl
      go (Turn p Set) = refl
      go (Turn p Announce) = refl
      go (Turn p Acknowledge) = refl

  zero_behind_walk : byte (((walk_image w ++ (0 ∷ [])) ++ parts) ++ rest) 2 ≡ 0
  unfolding walk_image
  zero_behind_walk = go w
    where
      go : (v : Walk) → byte (((walk_image v ++ (0 ∷ [])) ++ parts) ++ rest) 2 ≡ 0
      go Settled = refl
      go (Turn p act) = refl

module _ (front head posts trains last rest : List ℕ) where
  posts_apart : front ++ ((head ++ (posts ++ (trains ++ last))) ++ rest) ≡ (front ++ head) ++ (posts ++ ((trains ++ last) ++ rest))
  posts_apart = simp append_assoc

  trains_apart : front ++ ((head ++ (posts ++ (trains ++ last))) ++ rest) ≡ (front ++ (head ++ posts)) ++ (trains ++ (last ++ rest))
  trains_apart = simp append_assoc

  last_trains_apart : front ++ ((head ++ (posts ++ (trains ++ last))) ++ rest) ≡ (front ++ (head ++ (posts ++ trains))) ++ (last ++ rest)
  last_trains_apart = simp append_assoc

module _ (front : List ℕ) {at : ℕ} (here : length front ≡ at) (rest : List ℕ) (t : Track) where
  abbrev posts : List ℕ
  posts = posts_image most_posts t.posts

  abbrev trains : List ℕ
  trains = numbers_image most_blocks t.trains

  abbrev last : List ℕ
  last = numbers_image most_blocks t.last

  at_posts : length (front ++ track_head t) ≡ at + head_length
  at_posts = length-append front (track_head t) ∙ omega (arith, head_length_lem t)

  at_trains : length (front ++ (track_head t ++ posts)) ≡ at + (head_length + posts_length)
  at_trains = simp length-append (omega (arith, head_length_lem t, posts_length_lem most_posts t.posts))

  at_last : length (front ++ (track_head t ++ (posts ++ trains))) ≡ at + (head_length + (posts_length + numbers_length))
  at_last = simp length-append (omega (arith, head_length_lem t, posts_length_lem most_posts t.posts, numbers_length_lem most_blocks t.trains))

  track_back : TrackHeld t → track_from (front ++ (track_image t ++ rest)) at ≡ t
  unfolding track_from track_image track_head
  track_back h =
      let all = track_image t ++ rest in
      let held-posts = h.posts_held in
      let held-trains = h.trains_held in
      let held-last = h.last_held in
      let p : posts_from (front ++ all) (at + head_length) most_posts ≡ t.posts =
      ap (λ (k : List ℕ). posts_from k (at + head_length) most_posts) (posts_apart front (track_head t) posts trains last rest)
      ∙ posts_back (front ++ track_head t) at_posts t.posts most_posts ((trains ++ last) ++ rest) h.seals_small h.cautions_small (omega arith)
      ∙ take_all most_posts t.posts (omega arith) in
      let n : numbers_from (front ++ all) (at + (head_length + posts_length)) most_blocks ≡ t.trains =
      ap (λ (k : List ℕ). numbers_from k (at + (head_length + posts_length)) most_blocks) (trains_apart front (track_head t) posts trains last rest)
      ∙ numbers_back (front ++ (track_head t ++ posts)) at_trains t.trains h.trains_small most_blocks (last ++ rest) (omega arith)
      ∙ take_all most_blocks t.trains (omega arith) in
      let l : numbers_from (front ++ all) (at + (head_length + (posts_length + numbers_length))) most_blocks ≡ t.last =
      ap (λ (k : List ℕ). numbers_from k (at + (head_length + (posts_length + numbers_length))) most_blocks)
      (last_trains_apart front (track_head t) posts trains last rest)
      ∙ numbers_back (front ++ (track_head t ++ (posts ++ trains))) at_last t.last h.last_small most_blocks rest (omega arith)
      ∙ take_all most_blocks t.last (omega arith) in
      rw (
        p,
        n,
        l,
        past_none front all here,
        past front all here 1,
        past front all here 2,
        truth_same t.cvt,
        walk_back t.walk (posts ++ (trains ++ last)) rest,
      )

  track_well_formed_lem : track_well_formed (front ++ (track_image t ++ rest)) at ≡ true
  unfolding track_well_formed track_image track_head
  track_well_formed_lem =
      let all = track_image t ++ rest in
      let p : posts_well_formed (front ++ all) (at + head_length) most_posts ≡ true =
      ap (λ (k : List ℕ). posts_well_formed k (at + head_length) most_posts) (posts_apart front (track_head t) posts trains last rest)
      ∙ posts_well_formed_lem (front ++ track_head t) at_posts t.posts most_posts ((trains ++ last) ++ rest) in
      rw (
        p,
        past_none front all here,
        past front all here 1,
        past front all here 2,
        past front all here 3,
        truth_well_formed t.cvt,
        walk_well_formed_lem t.walk (posts ++ (trains ++ last)) rest,
        zero_behind_walk t.walk (posts ++ (trains ++ last)) rest,
      )

-- ## A section

module _ (s : Section) where
  settings_back :
      Small s.settings.mask → Small s.settings.line → length s.settings.crossings ≡ most_crossings →
      settings_of (take longest_settings (drop settings_place (image_of s))) ≡ s.settings
  unfolding settings_of image_of image_head settings_bytes le16_bytes
  settings_back m l k =
      rw (le16_number s.settings.mask m, le16_number s.settings.line l, ← listed most_crossings 0 s.settings.crossings k)

  b_apart : image_of s ≡ (image_head s ++ track_image s.a) ++ (track_image s.b ++ [])
  unfolding image_of
  b_apart = rw (append-nil (track_image s.b), append_assoc)

  at_b : length (image_head s ++ track_image s.a) ≡ track_b
  at_b = length-append (image_head s) (track_image s.a) ∙ omega (arith, image_head_length s, track_length_lem s.a)

  a_back : TrackHeld s.a → track_from (image_of s) track_a ≡ s.a
  unfolding image_of
  a_back h = track_back (image_head s) (image_head_length s) (track_image s.b) s.a h

  b_back : TrackHeld s.b → track_from (image_of s) track_b ≡ s.b
  b_back h = ap (λ (k : List ℕ). track_from k track_b) b_apart ∙ track_back (image_head s ++ track_image s.a) at_b [] s.b h

  a_well_formed : track_well_formed (image_of s) track_a ≡ true
  unfolding image_of
  a_well_formed = track_well_formed_lem (image_head s) (image_head_length s) (track_image s.b) s.a

  b_well_formed : track_well_formed (image_of s) track_b ≡ true
  b_well_formed = ap (λ (k : List ℕ). track_well_formed k track_b) b_apart ∙ track_well_formed_lem (image_head s ++ track_image s.a) at_b [] s.b

  layout_said : number_at (image_of s) 0 ≡ layout_number
  unfolding number_at image_of image_head le16_bytes le16
  layout_said = refl

  settings_zeros_lem : number_at (image_of s) settings_zeros ≡ 0
  unfolding number_at image_of image_head settings_bytes le16_bytes le16
  settings_zeros_lem = refl

  pub image_well_formed_lem : image_well_formed (image_of s) ≡ true
  unfolding image_well_formed
  image_well_formed_lem =
      rw (
        eq-eqb (length (image_of s)) image_length (image_length_lem s),
        eq-eqb (number_at (image_of s) 0) layout_number layout_said,
        eq-eqb (number_at (image_of s) settings_zeros) 0 settings_zeros_lem,
        a_well_formed,
        b_well_formed,
      )

  section_back : SectionHeld s → section_of (image_of s) ≡ s
  unfolding section_of
  section_back h = rw (settings_back h.mask_small h.line_small h.crossings_held, a_back h.a_held, b_back h.b_held)

pub reads_back : ReadsBack
reads_back s h = (image_well_formed_lem s, section_back s h)
