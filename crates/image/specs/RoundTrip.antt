-- What is written is read back, and what is read is written back exactly. The proofs are in proofs/RoundTrip.antt and proofs/WritesBack.antt.
use Rattle.std.specs.Prelude.{ℕ, ◌<◌, true, List, ◌≡◌, length, get_or}
use Rattle.section.specs.declared.Section.{Section}
use Rattle.section.specs.declared.Track.{Track}
use Rattle.section.specs.Bytes.{AllBytes}
use Rattle.section.specs.Numbers.{most_posts, most_blocks, most_crossings}
use Rattle.section.specs.Post.{blank}
use Rattle.image.specs.Image.{image_well_formed, image_of, section_of}

-- a number of 16 bits
abbrev pub Small : ℕ → Type 0
Small x = x < 65536

-- as many posts and cells as a track's arrays have, and numbers of their widths
pub record TrackHeld (t : Track) : Type 0 where
  pub posts_held : length t.posts ≡ most_posts
  pub trains_held : length t.trains ≡ most_blocks
  pub last_held : length t.last ≡ most_blocks
  pub seals_small : (p : ℕ) → Small (get_or t.posts p blank).seals
  pub cautions_small : (p : ℕ) → Small (get_or t.posts p blank).caution
  pub trains_small : (i : ℕ) → Small (get_or t.trains i 0)
  pub last_small : (i : ℕ) → Small (get_or t.last i 0)

pub record SectionHeld (s : Section) : Type 0 where
  pub mask_small : Small s.settings.mask
  pub line_small : Small s.settings.line
  pub crossings_held : length s.settings.crossings ≡ most_crossings
  pub a_held : TrackHeld s.a
  pub b_held : TrackHeld s.b

-- the image of every section that the code can hold is well formed, and says that section
abbrev pub ReadsBack : Type 0
ReadsBack = (s : Section) → SectionHeld s → (image_well_formed (image_of s) ≡ true) × (section_of (image_of s) ≡ s)

-- the section that an image says has that image, byte for byte: the cells past n too
abbrev pub WritesBack : Type 0
WritesBack = (image : List ℕ) → AllBytes image → image_well_formed image ≡ true → image_of (section_of image) ≡ image
