-- The ends of every range that settings and a state have, in plain numbers (document 01, "The section", "The day file"; document 02, requests 1
-- and 5), and a fresh section.
use Prim.Native.Nat.{ℕ}
use mathlib.Core.Bool.{Bool, true, false}
use mathlib.Core.Path.{◌≡◌, refl}
use mathlib.Core.List.{List, [], ◌∷◌, ◌++◌, map}
use lib.ListN.{replicate}
use Rattle.section.specs.declared.Act.TheVariants.{Set, Announce, Acknowledge}
use Rattle.section.specs.declared.Post.{Post}
use Rattle.section.specs.declared.Section.{Section}
use Rattle.section.specs.declared.Settings.{Settings}
use Rattle.section.specs.declared.Track.{Track}
use Rattle.section.specs.declared.Walk.{Walk}
use Rattle.section.specs.declared.Walk.TheVariants.{Settled, Turn}
use Rattle.section.specs.Bytes.{within}
use Rattle.section.specs.Crossings.{crossings_in_range}
use Rattle.section.specs.Fresh.{fresh_track, fresh_section}
use Rattle.section.specs.Geometry.{upward, rank, block, is_first, is_last}
use Rattle.section.specs.Post.{permitted}
use Rattle.section.specs.Range.{post_in_range, posts_in_range, numbers_in_range, act_in_range, walk_in_range, track_in_range, in_range}
use Rattle.section.specs.Settings.{is_signalled, none_from, settings_in_range}
use Rattle.section.specs.Store.{with_track, with_post}
use Rattle.section.proofs.Rows.{◌gives◌, Holds}

-- ## Settings

-- n, the form, the mask, the line number, the bytes of crossings
unfoldable pub settings : ℕ → ℕ → ℕ → ℕ → List ℕ → Bool
unfolding settings_in_range is_signalled none_from within crossings_in_range
settings n form mask line crossings = settings_in_range (record { posts = n; form = form; mask = mask; line = line; crossings = crossings })

abbrev none : List ℕ
none = 255 ∷ 255 ∷ 255 ∷ 255 ∷ 255 ∷ 255 ∷ 255 ∷ 255 ∷ []

pub settings_ends :
    Holds
    -- "n from 2 to 16"; with 17 posts the mask has both ends set
    ((settings 1 0 1 1 none gives false)
    ∷ (settings 2 0 3 1 none gives true)
    ∷ (settings 16 0 65535 1 none gives true)
    ∷ (settings 17 0 131071 1 none gives false)
    -- "form (0 telephone, 1 materialised)"
    ∷ (settings 4 1 9 1 none gives true)
    ∷ (settings 4 2 9 1 none gives false)
    -- "a mask, bit p set for a signalled post, both ends set, none above n−1"
    ∷ (settings 4 0 15 1 none gives true)
    ∷ (settings 4 0 8 1 none gives false)
    ∷ (settings 4 0 1 1 none gives false)
    ∷ (settings 4 0 25 1 none gives false)
    ∷ (settings 4 0 32777 1 none gives false)
    ∷ (settings 16 1 32769 1 none gives true)
    ∷ (settings 16 1 1 1 none gives false)
    ∷ (settings 16 1 98305 1 none gives false)
    -- "line number 1 to 999"
    ∷ (settings 2 0 3 0 none gives false)
    ∷ (settings 2 0 3 999 none gives true)
    ∷ (settings 2 0 3 1000 none gives false)
    ∷ [])
unfolding settings
settings_ends = refl

-- crossings on a line of n posts, all of them signalled for n = 2 and 16
abbrev crossings2 : List ℕ → Bool
crossings2 bytes = settings 2 0 3 1 (bytes ++ (255 ∷ 255 ∷ 255 ∷ 255 ∷ 255 ∷ 255 ∷ 255 ∷ []))

abbrev crossings16 : List ℕ → Bool
crossings16 bytes = settings 16 0 65535 1 bytes

pub crossings_ends :
    Holds
    -- "a block section number, plus 128"
    ((map crossings2 ((0 ∷ []) ∷ (1 ∷ []) ∷ (127 ∷ []) ∷ (128 ∷ []) ∷ (129 ∷ []) ∷ (254 ∷ []) ∷ (255 ∷ []) ∷ (256 ∷ []) ∷ [])
    gives true ∷ false ∷ false ∷ true ∷ false ∷ false ∷ true ∷ false ∷ [])
    -- the eighth byte: it names a block section, does not fall, and stands before those with the 128 in its section
    ∷ (map (λ (b : ℕ). crossings16 (1 ∷ 1 ∷ 1 ∷ 1 ∷ 1 ∷ 1 ∷ 129 ∷ b ∷ [])) (0 ∷ 1 ∷ 129 ∷ 2 ∷ 14 ∷ 142 ∷ 15 ∷ 143 ∷ 255 ∷ 256 ∷ [])
    gives false ∷ false ∷ true ∷ true ∷ true ∷ true ∷ false ∷ false ∷ true ∷ false ∷ [])
    -- the first
    ∷ (map (λ (b : ℕ). crossings16 (b ∷ 14 ∷ 142 ∷ 142 ∷ 142 ∷ 142 ∷ 142 ∷ 142 ∷ [])) (0 ∷ 14 ∷ 142 ∷ 15 ∷ 255 ∷ [])
    gives true ∷ true ∷ false ∷ false ∷ false ∷ [])
    -- one between
    ∷ (map (λ (b : ℕ). crossings16 (0 ∷ 128 ∷ 1 ∷ b ∷ 2 ∷ 255 ∷ 255 ∷ 255 ∷ [])) (0 ∷ 128 ∷ 1 ∷ 129 ∷ 2 ∷ 130 ∷ 255 ∷ [])
    gives false ∷ false ∷ true ∷ true ∷ true ∷ false ∷ false ∷ [])
    ∷ [])
unfolding settings
crossings_ends = refl

-- ## A track

abbrev at : ℕ → ℕ → Post
at seals caution = record {
  device = false;
  permission = false;
  measures = false;
  faults = record { one = false; two = false; three = false; four = false };
  mark = false;
  seals = seals;
  caution = caution;
}

abbrev track : List Post → List ℕ → List ℕ → Bool → Walk → Track
track posts trains last cvt walk = record { posts = posts; trains = trains; last = last; cvt = cvt; walk = walk }

-- of a line of three posts, on A or else B
unfoldable pub tracks : Bool → Track → Bool
unfolding track_in_range posts_in_range post_in_range numbers_in_range walk_in_range act_in_range upward rank is_first is_last
tracks b t = track_in_range 3 b t

-- "a seal count 0 to 999"; a caution form for a train, to 59,999
abbrev posts : List Post → Bool
posts l = tracks false (track l [] [] false Settled)

pub posts_ends :
    Holds
    ((posts (at 0 0 ∷ at 999 59999 ∷ at 0 0 ∷ []) gives true)
    ∷ (posts (at 1000 0 ∷ at 0 0 ∷ at 0 0 ∷ []) gives false)
    ∷ (posts (at 0 60000 ∷ at 0 0 ∷ at 0 0 ∷ []) gives false)
    -- post n−1, and post n, which is not tested
    ∷ (posts (at 0 0 ∷ at 0 0 ∷ at 1000 0 ∷ []) gives false)
    ∷ (posts (at 0 0 ∷ at 0 0 ∷ at 0 60000 ∷ []) gives false)
    ∷ (posts (at 0 0 ∷ at 0 0 ∷ at 0 0 ∷ at 1000 60000 ∷ []) gives true)
    ∷ [])
unfolding tracks
posts_ends = refl

-- "Each block section on each track keeps its train (0 for none) and the last train that entered it (0 for none yet)"
pub trains_ends :
    Holds
    ((tracks false (track [] (0 ∷ 59999 ∷ []) [] false Settled) gives true)
    ∷ (tracks false (track [] (60000 ∷ 0 ∷ []) [] false Settled) gives false)
    ∷ (tracks false (track [] (0 ∷ 60000 ∷ []) [] false Settled) gives false)
    ∷ (tracks false (track [] (0 ∷ 0 ∷ 60000 ∷ []) [] false Settled) gives true)
    ∷ (tracks false (track [] [] (0 ∷ 59999 ∷ []) false Settled) gives true)
    ∷ (tracks false (track [] [] (60000 ∷ 0 ∷ []) false Settled) gives false)
    ∷ (tracks false (track [] [] (0 ∷ 60000 ∷ []) false Settled) gives false)
    ∷ (tracks false (track [] [] (0 ∷ 0 ∷ 60000 ∷ []) false Settled) gives true)
    ∷ [])
unfolding tracks
trains_ends = refl

-- a reversal in which it is the turn of post 0, 1, 2, 3
abbrev turns : Bool → Bool → (ℕ → Walk) → List Bool
turns b cvt walk = map (λ (p : ℕ). tracks b (track [] [] [] cvt (walk p))) (0 ∷ 1 ∷ 2 ∷ 3 ∷ [])

-- "set, announce (never at the last post) or acknowledge (never at the first)": upward on A in VNS and on B in CVT, else downward
pub turns_ends :
    Holds
    ((turns false false (λ p. Turn p Set) gives true ∷ true ∷ true ∷ false ∷ [])
    ∷ (turns false false (λ p. Turn p Announce) gives true ∷ true ∷ false ∷ false ∷ [])
    ∷ (turns false false (λ p. Turn p Acknowledge) gives false ∷ true ∷ true ∷ false ∷ [])
    ∷ (turns true true (λ p. Turn p Set) gives true ∷ true ∷ true ∷ false ∷ [])
    ∷ (turns true true (λ p. Turn p Announce) gives true ∷ true ∷ false ∷ false ∷ [])
    ∷ (turns true true (λ p. Turn p Acknowledge) gives false ∷ true ∷ true ∷ false ∷ [])
    ∷ (turns true false (λ p. Turn p Set) gives true ∷ true ∷ true ∷ false ∷ [])
    ∷ (turns true false (λ p. Turn p Announce) gives false ∷ true ∷ true ∷ false ∷ [])
    ∷ (turns true false (λ p. Turn p Acknowledge) gives true ∷ true ∷ false ∷ false ∷ [])
    ∷ (turns false true (λ p. Turn p Set) gives true ∷ true ∷ true ∷ false ∷ [])
    ∷ (turns false true (λ p. Turn p Announce) gives false ∷ true ∷ true ∷ false ∷ [])
    ∷ (turns false true (λ p. Turn p Acknowledge) gives true ∷ true ∷ false ∷ false ∷ [])
    ∷ [])
unfolding tracks
turns_ends = refl

-- ## A fresh section

abbrev line : ℕ → Settings
line number = record { posts = 3; form = 0; mask = 7; line = number; crossings = none }

abbrev three_posts : Settings
three_posts = line 1

-- "A fresh section has all devices and running directions at VNS, no reversal, no train or last train, no measures, no fault, no mark, counts 0,
-- permission at each track's VNS sending end.": sixteen posts and fifteen block sections on each track
pub fresh_tracks :
    Holds
    ((fresh_track 3 false
    gives track (permitted true (at 0 0) ∷ replicate 15 (at 0 0)) (replicate 15 0) (replicate 15 0) false Settled)
    ∷ (fresh_track 3 true
    gives track (at 0 0 ∷ at 0 0 ∷ permitted true (at 0 0) ∷ replicate 13 (at 0 0)) (replicate 15 0) (replicate 15 0) false Settled)
    ∷ (fresh_track 16 true
    gives track (replicate 15 (at 0 0) ++ permitted true (at 0 0) ∷ []) (replicate 15 0) (replicate 15 0) false Settled)
    ∷ [])
unfolding fresh_track
fresh_tracks = refl

-- track A, track B
pub fresh_section_lem : Holds (((fresh_section three_posts).a gives fresh_track 3 false) ∷ ((fresh_section three_posts).b gives fresh_track 3 true) ∷ [])
unfolding fresh_section
fresh_section_lem = refl

pub fresh_settings : (fresh_section three_posts).settings ≡ three_posts
unfolding fresh_section
fresh_settings = refl

-- 6 looks at the settings and at both tracks
unfoldable pub whole : Section → Bool
unfolding in_range settings tracks fresh_section fresh_track
whole s = in_range s

abbrev broken : Bool → Section
broken b = with_track (fresh_section three_posts) b (with_post (fresh_track 3 b) 1 (at 1000 0))

pub sections_in_range :
    Holds
    ((whole (fresh_section three_posts) gives true)
    ∷ (whole (broken false) gives false)
    ∷ (whole (broken true) gives false)
    ∷ (whole (fresh_section (line 0)) gives false)
    ∷ [])
unfolding whole
sections_in_range = refl

-- ## Positions

-- "Normal direction, VNS, runs upward (from post 0) on A and downward on B. Counter direction, CVT, is the reverse (art. 901)."
pub directions :
    Holds
    ((upward false false gives true)
    ∷ (upward true false gives false)
    ∷ (upward false true gives false)
    ∷ (upward true true gives true)
    ∷ [])
unfolding upward
directions = refl

-- "Block section i lies between posts i and i+1.": of four posts, in the order of a run upward and downward
pub positions :
    Holds
    ((map (rank 4 true) (0 ∷ 1 ∷ 2 ∷ 3 ∷ []) gives 0 ∷ 1 ∷ 2 ∷ 3 ∷ [])
    ∷ (map (rank 4 false) (0 ∷ 1 ∷ 2 ∷ 3 ∷ []) gives 3 ∷ 2 ∷ 1 ∷ 0 ∷ [])
    ∷ (map (block 4 true) (0 ∷ 1 ∷ 2 ∷ []) gives 0 ∷ 1 ∷ 2 ∷ [])
    ∷ (map (block 4 false) (0 ∷ 1 ∷ 2 ∷ []) gives 2 ∷ 1 ∷ 0 ∷ [])
    ∷ [])
unfolding rank block
positions = refl

pub ends :
    Holds
    ((map (is_first 4 true) (0 ∷ 1 ∷ 2 ∷ 3 ∷ []) gives true ∷ false ∷ false ∷ false ∷ [])
    ∷ (map (is_first 4 false) (0 ∷ 1 ∷ 2 ∷ 3 ∷ []) gives false ∷ false ∷ false ∷ true ∷ [])
    ∷ (map (is_last 4 true) (0 ∷ 1 ∷ 2 ∷ 3 ∷ []) gives false ∷ false ∷ false ∷ true ∷ [])
    ∷ (map (is_last 4 false) (0 ∷ 1 ∷ 2 ∷ 3 ∷ []) gives true ∷ false ∷ false ∷ false ∷ [])
    ∷ [])
unfolding is_first is_last rank
ends = refl
