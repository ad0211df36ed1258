-- The walk over the steps: the tracks are those of the section that the steps so far have left, and what is kept of them is written.
use Prim.Native.Nat.{ℕ, ◌+◌, ◌*◌, ◌≤◌, ◌<◌}
use mathlib.Core.Bool.{true}
use mathlib.Core.List.{List}
use mathlib.Core.Path.{◌≡◌, refl, ◌∙◌, ap}
use native.Mathlib.Omega.{arith}
use lib.ListN.{length}
use Rattle.section.specs.declared.Answer.{Answer}
use Rattle.section.specs.declared.Section.{Section}
use Rattle.section.specs.declared.Track.{Track}
use Rattle.section.specs.Refusal.{Verdict}
use Rattle.section.specs.Range.{in_range}
use Rattle.section.specs.Words.{track_letter}
use Rattle.rules.specs.Judge.{judge_in_range}
use Rattle.rules.proofs.RangeLaw.{judged_in_range}
use Rattle.layout.specs.Layout.{step_at}
use Rattle.text.specs.Text.{written, first_texts}
use Rattle.text.proofs.Laws.{none_put}
use Rattle.judging_in_place.specs.Offered.{section_before, answer_to}
use Rattle.judging_in_place.specs.Entries.{Entry, AsLong, entry_of, entry_on, entries_of}
use Rattle.judging_in_place.specs.Tracks.{tracks_of, track_at, section_of, answer_in}
use Rattle.judging_in_place.proofs.Laws.{step_after, answered, range_kept, one_fits, entry_put}

-- after the first i steps
pub record Walked
    (first : Section)
    (entry : Entry)
    (steps : List ℕ)
    (count : ℕ)
    (lent : List ℕ)
    (tracks : List Track)
    (buffer : List ℕ)
    (i : ℕ) : Type 0 where
  pub within : i ≤ count
  pub room : entry.long * count ≤ length lent
  pub same_length : length buffer ≡ length lent
  pub kept : buffer ≡ written lent 0 (first_texts (entry_on entry first steps) i)
  pub before : section_of first.settings tracks ≡ section_before first steps i
  pub range : in_range (section_of first.settings tracks) ≡ true

pub begins :
    (first : Section) (entry : Entry) (steps : List ℕ) (count : ℕ) (lent : List ℕ) → in_range first ≡ true
    → entry.long * count ≤ length lent → Walked first entry steps count lent (tracks_of first) lent 0
unfolding section_before
begins first entry steps count lent right room = record {
  within = omega arith;
  room = room;
  same_length = refl;
  kept = (none_put (entry_on entry first steps) lent 0).1;
  before = refl;
  range = right;
}

module _
    {first : Section}
    {entry : Entry}
    {steps : List ℕ}
    {count : ℕ}
    {lent : List ℕ}
    {tracks : List Track}
    {buffer : List ℕ}
    {i : ℕ}
    (w : Walked first entry steps count lent tracks buffer i) where
  pub entry_fits : i < count → entry.long * i + entry.long ≤ length buffer
  entry_fits more = one_fits entry count i more (omega (arith, w.room, w.same_length))

  -- one step more
  pub goes_on :
      AsLong entry → i < count → {part : List ℕ} {tracks' : List Track} {v : Verdict} {buffer' : List ℕ} → part ≡ step_at steps i
      → answer_in (section_of first.settings tracks') v ≡ judge_in_range (section_of first.settings tracks) part
      → buffer' ≡ written buffer (i * entry.long) (entry.bytes v (track_letter (track_at tracks' 0)) (track_letter (track_at tracks' 1)))
      → length buffer' ≡ length buffer → Walked first entry steps count lent tracks' buffer' (i + 1)
  unfolding entry_of
  goes_on as_long more {part} {tracks'} {v} {buffer'} here told put stays =
      let s = section_of first.settings tracks in
      let after = answer_in (section_of first.settings tracks') v in
      let answer : after ≡ answer_to first steps i = answered first steps i s part after w.before here (judged_in_range s part after w.range told) in
      record {
        within = omega arith;
        room = w.room;
        same_length = stays ∙ w.same_length;
        kept = entry_put entry as_long first steps lent count i after more w.room w.kept answer put;
        before = ap (λ (a : Answer). a.section) answer ∙ step_after first steps i;
        range = range_kept s part after w.range told;
      }

  pub ends :
      count ≤ i → {left : Section} → left ≡ section_of first.settings tracks
      → (left ≡ section_before first steps count) × (buffer ≡ written lent 0 (entries_of entry first steps count))
  unfolding entries_of
  ends done handed =
      let e : i ≡ count = omega (arith, w.within) in
      (handed ∙ (rw e at w.before), rw e at w.kept)
