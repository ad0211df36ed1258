-- The lamp table's index, entries and length (document 02, request 6), and the number of posts shown: on both tracks, in both directions and both
-- forms. By telephone too a post is next to set; where a post commands no part fault 1 still counts, and a train ahead does not.
use Prim.Native.Nat.{ℕ, ◌+◌}
use mathlib.Core.Bool.{true}
use mathlib.Core.Path.{◌≡◌, refl}
use mathlib.Core.List.{List, [], ◌∷◌, ◌++◌}
use lib.ListN.{length}
use Rattle.section.specs.declared.Settings.{Settings}
use Rattle.section.specs.declared.Post.{Post}
use Rattle.section.specs.declared.Act.TheVariants.{Set, Announce, Acknowledge}
use Rattle.section.specs.declared.Walk.{Walk}
use Rattle.section.specs.declared.Walk.TheVariants.{Settled, Turn}
use Rattle.section.specs.declared.Fault.TheVariants.{One, Two, Three, Four}
use Rattle.section.specs.Items.{items}
use Rattle.section.specs.Post.{blank, turned, permitted, measured, faulty, marked, cautioned}
use Rattle.section.specs.Store.{track_of}
use Rattle.rules.specs.Line.{line_in}
use Rattle.rules.specs.Site.{site_on}
use Rattle.rules.specs.Indications.{lamps_at, track_indications}
use Rattle.rules.specs.LampTable.{index_of, lamps_of, entry_of, lamp_entry, lamp_table, taken_apart}
use Rattle.rules.proofs.Days.{telephone, materialised, fresh}
use Rattle.rules.proofs.Rows.{Row, ◌gives◌, Holds}
use Rattle.rules.proofs.IndicationExamples.{lamps, shown_after}
use Rattle.rules.proofs.Directions.{Way, Form, every_way, telephone_else, place, mask_without1, standing, free, in_first, in_second, in_third}

-- ## The index

module _ (form : Form) (w : Way) where
  -- at a place of the run, with these trains on the track, and that record at the post
  unfoldable pub index : Settings → Walk → List ℕ → Post → ℕ → ℕ
  unfolding shown_after standing index_of
  index c walk trains own j =
      let s = standing w c walk trains (place w j) own in
      index_of (lamps_at (line_in s) (site_on w.track (place w j) (track_of s w.track)) (track_of s w.track).trains)

  -- "the index adds 1 for materialised"
  abbrev with1 : ℕ → ℕ
  with1 k = telephone_else form k (1 + k)

  -- "2 for device CVT, .. 8 for fault 1, 16 for fault 3, 32 for the part ahead occupied, 64 for a post that commands a part (by telephone, any
  -- but the receiving end), 128 for start permission"
  abbrev of_post : List (Row ℕ)
  of_post =
      (index (form 4 15) Settled free blank 1 gives with1 64)
      ∷ (index (form 4 15) Settled free (turned true blank) 1 gives with1 66)
      ∷ (index (form 4 15) Settled free (faulty One true blank) 1 gives with1 72)
      ∷ (index (form 4 15) Settled free (marked true (faulty One true blank)) 1 gives with1 72)
      ∷ (index (form 4 15) Settled free (faulty Three true blank) 1 gives with1 80)
      ∷ (index (form 4 15) Settled free (faulty Two true (faulty Four true (measured true (cautioned 7 blank)))) 1 gives with1 64)
      ∷ (index (form 4 15) Settled free (permitted true blank) 1 gives with1 192)
      -- a train ahead, and one before or further ahead
      ∷ (index (form 4 15) Settled in_second blank 1 gives with1 96)
      ∷ (index (form 4 15) Settled in_first blank 1 gives with1 64)
      ∷ (index (form 4 15) Settled in_third blank 1 gives with1 64)
      ∷ (index (form 4 (mask_without1 w)) Settled in_second blank 0 gives telephone_else form 64 97)
      -- the receiving end
      ∷ (index (form 4 15) Settled in_third blank 3 gives with1 0)
      ∷ (index (form 4 15) Settled in_third (permitted true (turned true (faulty One true (faulty Three true blank)))) 3 gives with1 154)
      -- a post without signals
      ∷ (index (form 4 (mask_without1 w)) Settled in_second blank 1 gives telephone_else form 96 1)
      ∷ (index (form 4 (mask_without1 w)) Settled in_second (faulty One true blank) 1 gives telephone_else form 104 9)
      ∷ []

  -- "4 for previous post set in this reversal and this one not": in both forms, at every post
  abbrev in_reversal : List (Row ℕ)
  in_reversal =
      (index (form 4 15) (Turn (place w 0) Set) free blank 1 gives with1 64)
      ∷ (index (form 4 15) (Turn (place w 0) Announce) free blank 1 gives with1 68)
      ∷ (index (form 4 15) (Turn (place w 1) Acknowledge) free blank 1 gives with1 68)
      ∷ (index (form 4 15) (Turn (place w 1) Set) free blank 1 gives with1 68)
      ∷ (index (form 4 15) (Turn (place w 1) Announce) free blank 1 gives with1 64)
      ∷ (index (form 4 15) (Turn (place w 2) Set) free blank 1 gives with1 64)
      ∷ (index (form 4 15) (Turn (place w 0) Announce) free blank 2 gives with1 64)
      ∷ (index (form 4 15) (Turn (place w 0) Set) free blank 0 gives with1 64)
      ∷ (index (form 4 15) (Turn (place w 0) Announce) free blank 0 gives with1 64)
      ∷ (index (form 4 15) (Turn (place w 3) Set) free blank 3 gives with1 4)
      ∷ (index (form 4 (mask_without1 w)) (Turn (place w 1) Set) free blank 1 gives telephone_else form 68 5)
      -- whatever the device stands at, and though the lamp is dark
      ∷ (index (form 4 15) (Turn (place w 1) Set) free (turned true (faulty Three true blank)) 1 gives with1 86)
      ∷ []

pub index_of_lamps : Holds (every_way (λ form w. of_post form w ++ in_reversal form w))
unfolding index
index_of_lamps = refl

-- ## Entries

-- "The entry is CIRCULATION + 5 × TRONÇON + 15 × permission (0 or 1)."
pub entries :
    Holds
    ((lamp_entry 0 gives 1)
    ∷ (lamp_entry 2 gives 2)
    -- flashing in the materialised form alone, and not when dark
    ∷ (lamp_entry 4 gives 1)
    ∷ (lamp_entry 5 gives 4)
    ∷ (lamp_entry 7 gives 3)
    ∷ (lamp_entry 21 gives 0)
    -- TRONÇON of a post that commands a part
    ∷ (lamp_entry 8 gives 1)
    ∷ (lamp_entry 32 gives 1)
    ∷ (lamp_entry 64 gives 6)
    ∷ (lamp_entry 72 gives 11)
    ∷ (lamp_entry 96 gives 11)
    ∷ (lamp_entry 104 gives 11)
    -- permission
    ∷ (lamp_entry 128 gives 16)
    ∷ (lamp_entry 239 gives 28)
    ∷ (lamp_entry 255 gives 25)
    ∷ [])
unfolding lamp_entry lamps_of entry_of shown_after
entries = refl

pub entries_taken_apart :
    Holds
    ((taken_apart 1 gives lamps 1 0 0)
    ∷ (taken_apart 9 gives lamps 4 1 0)
    ∷ (taken_apart 11 gives lamps 1 2 0)
    ∷ (taken_apart 16 gives lamps 1 0 1)
    ∷ (taken_apart 28 gives lamps 3 2 1)
    ∷ [])
unfolding taken_apart
entries_taken_apart = refl

-- ## Lengths

-- "It has 256 entries"
pub table_of_256 : length lamp_table ≡ 256
unfolding lamp_table items
table_of_256 = refl

-- "0 to n−1, n from 2 to 16": sixteen posts a track, dark from post n on
pub sixteen_posts_shown :
    Holds
    ((track_indications (fresh (telephone 2 3)) 0
    gives lamps 1 1 1 ∷ lamps 1 0 0 ∷ items (λ (i : ℕ). lamps 0 0 0) 14)
    ∷ (track_indications (fresh (materialised 16 65535)) 1
    gives lamps 1 0 0 ∷ items (λ (i : ℕ). lamps 1 1 0) 14 ++ lamps 1 1 1 ∷ [])
    ∷ [])
unfolding track_indications items shown_after
sixteen_posts_shown = refl
