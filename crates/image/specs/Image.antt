-- The image of a section, 466 bytes, little-endian: the layout's number, the settings with their crossings, then track A and track B. The layout
-- may change with any delivery, and its number with it.
use Rattle.std.specs.Prelude.{ℕ, zero, suc, ◌+◌, ◌*◌, ◌/◌, ◌%◌, Bool, true, cond, ◌&&◌, List, [], ◌∷◌, ◌++◌, length, take, drop, get_or, eqb, leb}
use Rattle.section.specs.declared.Act.{Act}
use Rattle.section.specs.declared.Act.TheVariants.{Set, Announce, Acknowledge}
use Rattle.section.specs.declared.Post.{Post}
use Rattle.section.specs.declared.Section.{Section}
use Rattle.section.specs.declared.Track.{Track}
use Rattle.section.specs.declared.Walk.{Walk}
use Rattle.section.specs.declared.Walk.TheVariants.{Settled, Turn}
use Rattle.section.specs.Bytes.{byte, le16, truth_number}
use Rattle.section.specs.Items.{items}
use Rattle.section.specs.Numbers.{most_posts, most_blocks}
use Rattle.section.specs.Post.{blank}
use Rattle.text.specs.Text.{first_texts}
use Rattle.layout.specs.Layout.{longest_settings, le16_bytes, settings_bytes, settings_of}

-- ## Lengths and places

abbrev pub number_length : ℕ
number_length = 2

abbrev pub post_length : ℕ
post_length = 10

abbrev pub posts_length : ℕ
posts_length = post_length * most_posts

abbrev pub numbers_length : ℕ
numbers_length = number_length * most_blocks

-- before a track's posts: direction, act, turn's post, zero
abbrev pub head_length : ℕ
head_length = 4

-- 224
abbrev pub track_length : ℕ
track_length = head_length + (posts_length + (numbers_length + numbers_length))

-- before the tracks: the layout's number, settings
abbrev pub settings_place : ℕ
settings_place = number_length

-- bytes 6–7 of the settings
abbrev pub settings_zeros : ℕ
settings_zeros = settings_place + 6

abbrev pub track_a : ℕ
track_a = settings_place + longest_settings

abbrev pub track_b : ℕ
track_b = track_a + track_length

-- 466
abbrev pub image_length : ℕ
image_length = track_a + (track_length + track_length)

abbrev pub layout_number : ℕ
layout_number = 2

-- ## What is written

-- fault 1 at bit 0, fault 2 at bit 1, fault 3 at bit 2, fault 4 at bit 3
unfoldable pub faults_byte : Post → ℕ
faults_byte o =
    truth_number o.faults.one + truth_number o.faults.two * 2 + truth_number o.faults.three * 4 + truth_number o.faults.four * 8

-- device (1 at CVT), permission, measures, faults, mark, zero, seals, the caution form's train (0 for none)
unfoldable pub post_image : Post → List ℕ
post_image o =
    truth_number o.device ∷ truth_number o.permission ∷ truth_number o.measures ∷ faults_byte o ∷ truth_number o.mark ∷ 0
    ∷ (le16_bytes o.seals ++ le16_bytes o.caution)

-- the first m posts
unfoldable pub posts_image : ℕ → List Post → List ℕ
posts_image m l = first_texts (λ (p : ℕ). post_image (get_or l p blank)) m

-- the first m numbers
unfoldable pub numbers_image : ℕ → List ℕ → List ℕ
numbers_image m l = first_texts (λ (i : ℕ). le16_bytes (get_or l i 0)) m

unfoldable pub act_number : Act → ℕ
act_number Set = 1
act_number Announce = 2
act_number Acknowledge = 3

-- the act and the turn's post; two zeros with no reversal
unfoldable pub walk_image : Walk → List ℕ
walk_image Settled = 0 ∷ 0 ∷ []
walk_image (Turn p act) = act_number act ∷ p ∷ []

-- direction (1 for CVT), act, turn's post, zero
unfoldable pub track_head : Track → List ℕ
track_head t = truth_number t.cvt ∷ (walk_image t.walk ++ (0 ∷ []))

unfoldable pub track_image : Track → List ℕ
track_image t = track_head t ++ (posts_image most_posts t.posts ++ (numbers_image most_blocks t.trains ++ numbers_image most_blocks t.last))

unfoldable pub image_head : Section → List ℕ
image_head s = le16_bytes layout_number ++ settings_bytes s.settings

unfoldable pub image_of : Section → List ℕ
image_of s = image_head s ++ (track_image s.a ++ track_image s.b)

-- ## What is read

unfoldable pub number_at : List ℕ → ℕ → ℕ
number_at l at = le16 (byte l at) (byte l (at + 1))

unfoldable pub post_at : List ℕ → ℕ → Post
post_at l at = record {
  device = eqb (byte l at) 1;
  permission = eqb (byte l (at + 1)) 1;
  measures = eqb (byte l (at + 2)) 1;
  faults = record {
    one = eqb (byte l (at + 3) % 2) 1;
    two = eqb (byte l (at + 3) / 2 % 2) 1;
    three = eqb (byte l (at + 3) / 4 % 2) 1;
    four = eqb (byte l (at + 3) / 8 % 2) 1;
  };
  mark = eqb (byte l (at + 4)) 1;
  seals = number_at l (at + 6);
  caution = number_at l (at + 8);
}

-- m posts, one after another
unfoldable pub posts_from : List ℕ → ℕ → ℕ → List Post
posts_from l at m = items (λ (p : ℕ). post_at l (at + post_length * p)) m

-- m numbers, one after another
unfoldable pub numbers_from : List ℕ → ℕ → ℕ → List ℕ
numbers_from l at m = items (λ (i : ℕ). number_at l (at + number_length * i)) m

unfoldable pub walk_of : ℕ → ℕ → Walk
walk_of act post = cond (eqb act 0) Settled (cond (eqb act 1) (Turn post Set) (cond (eqb act 2) (Turn post Announce) (Turn post Acknowledge)))

unfoldable pub track_from : List ℕ → ℕ → Track
track_from l at = record {
  posts = posts_from l (at + head_length) most_posts;
  trains = numbers_from l (at + (head_length + posts_length)) most_blocks;
  last = numbers_from l (at + (head_length + (posts_length + numbers_length))) most_blocks;
  cvt = eqb (byte l at) 1;
  walk = walk_of (byte l (at + 1)) (byte l (at + 2));
}

unfoldable pub section_of : List ℕ → Section
section_of l = record { settings = settings_of (take longest_settings (drop settings_place l)); a = track_from l track_a; b = track_from l track_b }

-- ## Whether every byte stands for a value
-- A byte that says nothing is zero. The settings' numbers and those of trains and seals may be any: the ranges are the engine's to test.

unfoldable pub post_well_formed : List ℕ → ℕ → Bool
post_well_formed l at =
    leb (byte l at) 1
    && (leb (byte l (at + 1)) 1
    && (leb (byte l (at + 2)) 1 && (leb (byte l (at + 3)) 15 && (leb (byte l (at + 4)) 1 && eqb (byte l (at + 5)) 0))))

-- of m posts, one after another
unfoldable pub posts_well_formed : List ℕ → ℕ → ℕ → Bool
posts_well_formed l at zero = true
posts_well_formed l at (suc m) = post_well_formed l (at + post_length * m) && posts_well_formed l at m

-- of the act and the turn's post, which is zero with no reversal
unfoldable pub walk_well_formed : ℕ → ℕ → Bool
walk_well_formed act post = cond (eqb act 0) (eqb post 0) (leb act 3)

-- all sixteen posts are read and written back, past n − 1 too
unfoldable pub track_well_formed : List ℕ → ℕ → Bool
track_well_formed l at =
    leb (byte l at) 1
    && (walk_well_formed (byte l (at + 1)) (byte l (at + 2))
    && (eqb (byte l (at + 3)) 0 && posts_well_formed l (at + head_length) most_posts))

-- of this length and this layout; "bytes 6–7 zero" of the settings; and both tracks
unfoldable pub image_well_formed : List ℕ → Bool
image_well_formed l =
    eqb (length l) image_length
    && (eqb (number_at l 0) layout_number
    && (eqb (number_at l settings_zeros) 0 && (track_well_formed l track_a && track_well_formed l track_b)))
