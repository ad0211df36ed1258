-- The notes of a day.
use Prim.Native.Nat.{ℕ, zero, suc, ◌*◌, ◌≤◌, ◌<◌}
use mathlib.Core.Bool.{Bool, true, false, not}
use mathlib.Core.List.{List, ◌++◌, append_assoc}
use mathlib.Core.Path.{◌≡◌, refl, ◌∙◌, ap}
use native.Mathlib.Omega.{arith}
use borrow.Author.Tests.{ltb-true, ltb-false, le-ltb, not-false}
use lib.Dec.{ltb}
use lib.ListN.{length, take, drop}
use lib.Seq.{take_at, drop_at}
use Rattle.std.specs.Prelude.{Ok}
use Rattle.section.specs.declared.CallRefusal.TheVariants.{MalformedStep, NoRoom, StateOutOfRange}
use Rattle.section.specs.Refusal.{call_figure}
use Rattle.section.specs.declared.Section.{Section}
use Rattle.section.specs.declared.Settings.{Settings}
use Rattle.section.specs.Fresh.{fresh_section}
use Rattle.section.specs.Numbers.{step_length}
use Rattle.section.specs.Outcome.{if_done}
use Rattle.section.specs.Range.{in_range}
use Rattle.section.specs.Settings.{settings_in_range}
use Rattle.section.proofs.Laws.{fresh_in_range}
use Rattle.section.proofs.Outcomes.{other_refusal, step_refusal, no_refusal, past_refusal}
use Rattle.text.specs.Text.{written, first_texts}
use Rattle.text.proofs.Laws.{at_front, first_texts_whole, same_texts}
use Rattle.notes.specs.Note.{note_length, note}
use Rattle.notes.proofs.Laws.{note_length_lem}
use Rattle.judging_in_place.specs.Offered.{answer_to}
use Rattle.judging_in_place.specs.Entries.{notes, entry_of, entry_on, entries_of}
use Rattle.judging_in_place.specs.Notes.{note_on, notes_of, whole_steps, day_outcome, notes_after, IndexOfTheFirstNotWhole}

-- ## A day begins in its ranges

pub started : (s : Section) (c : Settings) → s ≡ fresh_section c → settings_in_range c ≡ true → in_range s ≡ true
started s c e h = ap in_range e ∙ fresh_in_range c h

-- ## What the walk keeps of a day are its notes

note_kept : (c : Settings) (steps : List ℕ) (i : ℕ) → entry_on notes (fresh_section c) steps i ≡ note_on c steps i
unfolding entry_on entry_of note_on note
note_kept c steps i = refl

pub notes_kept : (c : Settings) (steps : List ℕ) (count : ℕ) → entries_of notes (fresh_section c) steps count ≡ notes_of c steps count
unfolding entries_of notes_of
notes_kept c steps count = same_texts _ _ count (λ i h. note_kept c steps i)

-- ## How long the notes are

note_on_length : (c : Settings) (steps : List ℕ) (i : ℕ) → length (note_on c steps i) ≡ note_length
unfolding note_on
note_on_length c steps i = note_length_lem (answer_to _ steps i)

pub notes_length : (c : Settings) (steps : List ℕ) (m : ℕ) → length (first_texts (note_on c steps) m) ≡ m * note_length
notes_length c steps m = first_texts_whole (note_on c steps) note_length m (note_on_length c steps)

-- ## The note of a step, among those of the day

module _ (c : Settings) (steps : List ℕ) (i : ℕ) where
  -- it stands at its place
  abbrev Stands : List ℕ → Type 0
  Stands notes = take note_length (drop (i * note_length) notes) ≡ note_on c steps i

  note_among : (m : ℕ) (rest : List ℕ) → i < m → Stands (first_texts (note_on c steps) m ++ rest)
  unfolding first_texts
  note_among zero rest h = absurd (omega arith)
  note_among (suc m) rest h =
      rw (append_assoc (first_texts (note_on c steps) m) (note_on c steps m) rest)
      (go (ltb i m) refl (note_among m (note_on c steps m ++ rest)))
    where
      go : (b : Bool) → ltb i m ≡ b → (i < m → Stands (first_texts (note_on c steps) m ++ (note_on c steps m ++ rest)))
          → Stands (first_texts (note_on c steps) m ++ (note_on c steps m ++ rest))
      go true t earlier = earlier (ltb-true i m t)
      go false t earlier =
          let e : m ≡ i = omega (arith, ltb-false i m t) in
          let skipped : length (first_texts (note_on c steps) m) ≡ i * note_length = notes_length c steps m ∙ ap (λ (k : ℕ). k * note_length) e in
          rw (drop_at (first_texts (note_on c steps) m) (note_on c steps m ++ rest) (i * note_length) skipped, ← e)
          (take_at (note_on c steps m) rest note_length (note_on_length c steps m))

  pub note_written : (count : ℕ) (lent : List ℕ) → i < count → Stands (written lent 0 (notes_of c steps count))
  unfolding notes_of
  note_written count lent h = rw (at_front lent (first_texts (note_on c steps) count)) (note_among count _ h)

-- ## A day that can be noted, and the buffer afterwards

pub record DayFits (c : Settings) (steps : List ℕ) (count room : ℕ) : Type 0 where
  pub settings_well : settings_in_range c ≡ true
  pub steps_there : step_length * count ≤ length steps
  pub notes_fit : note_length * count ≤ room

pub day_fits : (c : Settings) (steps : List ℕ) (count room figure : ℕ) → day_outcome c steps count room ≡ Ok figure → DayFits c steps count room
unfolding day_outcome
day_fits c steps count room figure e =
    let a = past_refusal (not (settings_in_range c)) StateOutOfRange figure _ e in
    let b = past_refusal (ltb (whole_steps steps) count) (MalformedStep (whole_steps steps)) figure _ a.1 in
    let d = past_refusal (ltb room (note_length * count)) NoRoom figure (Ok count) b.1 in
    record {
      settings_well = not-false _ a.0;
      steps_there = omega (arith, ltb-false (whole_steps steps) count b.0);
      notes_fit = ltb-false room (note_length * count) d.0;
    }

pub day_done : (c : Settings) (steps : List ℕ) (count room : ℕ) → DayFits c steps count room → day_outcome c steps count room ≡ Ok count
unfolding day_outcome
day_done c steps count room h =
    let there : count ≤ whole_steps steps = omega (arith, h.steps_there) in
    rw (h.settings_well, le-ltb (whole_steps steps) count there, le-ltb room (note_length * count) h.notes_fit)

pub notes_written :
    (c : Settings) (steps : List ℕ) (count figure : ℕ) (lent : List ℕ) → day_outcome c steps count (length lent) ≡ Ok figure
    → notes_after c steps count lent ≡ written lent 0 (notes_of c steps count)
unfolding notes_after if_done
notes_written c steps count figure lent e = rw e

-- ## 4 comes with the index of the first step that is not there whole

pub index_of_the_first_not_whole : IndexOfTheFirstNotWhole
unfolding day_outcome call_figure
index_of_the_first_not_whole c steps count room =
    let first = whole_steps steps in
    other_refusal first (not (settings_in_range c)) StateOutOfRange _ (λ e. omega arith)
    (step_refusal first (ltb first count) _
    (other_refusal first (ltb room (note_length * count)) NoRoom _ (λ e. omega arith)
    (no_refusal first count)))
