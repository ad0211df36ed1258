-- The reader's answers, each by the tests that lead to it.
use mathlib.Core.Path.{◌∙◌, ap, sym, ◌≡◌, refl}
use mathlib.Core.Bool.{Bool, true, false, not, ◌||◌}
use mathlib.Core.List.{List}
use Prim.Native.Nat.{ℕ, suc, ◌+◌, ◌-◌, ◌%◌, ◌<◌, ◌≤◌}
use native.Mathlib.Omega.{arith}
use lib.ListN.{length, drop, length-drop}
use lib.Seq.{length-take-le}
use lib.Dec.{ltb}
use borrow.Author.Tests.{ltb-false, eqb-true, not-true, not-false, lt-ltb, le-ltb, eq-eqb}
use Rattle.std.specs.Prelude.{Ok, Err}
use Rattle.section.specs.declared.CallRefusal.TheVariants.{WrongLength, WrongTrailer, WrongSettings, MalformedStep}
use Rattle.section.specs.declared.Settings.{Settings}
use Rattle.section.specs.Numbers.{step_length}
use Rattle.section.specs.Outcome.{if_done}
use Rattle.section.proofs.Outcomes.{past_refusal, same_done}
use Rattle.layout.specs.Layout.{most_steps, settings_length, shortest_file, settings_distance, longest_file, step_count, from_end}
use Rattle.layout.specs.Layout.{tail_in, settings_in, steps_in, settings_of}
use Rattle.layout.proofs.Parts.{steps_length}
use Rattle.file_tests.specs.Tests.{length_wrong, trailer_fits, settings_well_formed, some_malformed, first_malformed}
use Rattle.file_tests.proofs.Laws.{neither, TrailerFits, trailer_fits_lem}
use Rattle.dayfile.specs.Answers.{read_of}
use Rattle.dayfile.specs.declared.ReadDay.{ReadDay}

-- ## A right length

pub record LengthRight (l : ℕ) : Type 0 where
  pub least : shortest_file ≤ l
  pub most : l ≤ longest_file
  pub whole : l % step_length ≡ 0

pub length_right : (l : ℕ) → length_wrong l ≡ false → LengthRight l
unfolding length_wrong
length_right l e =
    let f = neither (ltb l shortest_file) _ e in
    let g = neither (ltb longest_file l) _ f.1 in
    record {
      least = ltb-false _ _ f.0;
      most = ltb-false _ _ g.0;
      whole = eqb-true _ _ (not-false _ g.1);
    }

pub long_enough : {l : ℕ} {wrong : Bool} → wrong ≡ length_wrong l → not wrong ≡ true → shortest_file ≤ l
long_enough {l} e h = (length_right l (sym e ∙ not-true _ h)).least

pub not_wrong : (l : ℕ) → LengthRight l → length_wrong l ≡ false
unfolding length_wrong
not_wrong l h = rw (le-ltb _ _ h.least, le-ltb _ _ h.most, eq-eqb _ _ h.whole)

-- ## The parts of a file

pub settings_length_lem : (file : List ℕ) → settings_distance (tail_in file) ≤ length file → length (settings_in file) ≡ settings_length + tail_in file
unfolding settings_in from_end
settings_length_lem file h =
    let tail = tail_in file in
    length-take-le (settings_length + tail) (drop (length file - settings_distance tail) file) (simp length-drop (omega arith))

-- whatever its mark, a file has room for one step more at most
pub steps_bounded : (file : List ℕ) → LengthRight (length file) → step_count (steps_in file) ≤ suc most_steps
unfolding step_count
steps_bounded file h = omega (arith, steps_length file, h.most)

-- ## The answers, of the parts that the calls handed over

pub answer_1 : (file : List ℕ) → length_wrong (length file) ≡ true → Err WrongLength ≡ read_of file
unfolding read_of
answer_1 file e = rw e

module _ (file : List ℕ) (e₁ : length_wrong (length file) ≡ false) where
  pub answer_2 : trailer_fits file ≡ false → Err WrongTrailer ≡ read_of file
  unfolding read_of
  answer_2 e₂ = rw (e₁, e₂)

  module _ (e₂ : trailer_fits file ≡ true) (s : List ℕ) (eb : s ≡ settings_in file) where
    pub answer_3 : settings_well_formed s ≡ false → Err WrongSettings ≡ read_of file
    unfolding read_of
    answer_3 e₃ = rw (e₁, e₂, ← eb, e₃)

    module _
        (e₃ : settings_well_formed s ≡ true) (c : Settings) (eo : c ≡ settings_of s) (steps : List ℕ) (count first : ℕ) (es : steps ≡ steps_in file)
        (ec : count ≡ step_count steps) (ef : first ≡ first_malformed c.posts steps) where
      pub answer_4 : first < count → Err (MalformedStep first) ≡ read_of file
      unfolding read_of some_malformed
      answer_4 h = rw (e₁, e₂, ← eb, e₃, ← eo, ← es, ← ec, ← ef, lt-ltb _ _ h)

      pub answer_day : count ≤ first → Ok (record { settings = c; count = count }) ≡ read_of file
      unfolding read_of some_malformed
      answer_day h = rw (e₁, e₂, ← eb, e₃, ← eo, ← es, ← ec, ← ef, le-ltb _ _ h)

-- ## A file that is read

pub record DayRead (file : List ℕ) (day : ReadDay) : Type 0 where
  pub length_well : LengthRight (length file)
  pub trailer_well : TrailerFits file
  pub settings_well : settings_well_formed (settings_in file) ≡ true
  pub steps_well : some_malformed (settings_of (settings_in file)).posts (steps_in file) ≡ false
  pub counted : step_count (steps_in file) ≡ day.count
  pub settings_are : day.settings ≡ settings_of (settings_in file)

pub day_read : (file : List ℕ) (day : ReadDay) → read_of file ≡ Ok day → DayRead file day
unfolding read_of
day_read file day e =
    let n = (settings_of (settings_in file)).posts in
    let a = past_refusal (length_wrong (length file)) WrongLength day _ e in
    let b = past_refusal (not (trailer_fits file)) WrongTrailer day _ a.1 in
    let c = past_refusal (not (settings_well_formed (settings_in file))) WrongSettings day _ b.1 in
    let d = past_refusal (some_malformed n (steps_in file)) (MalformedStep (first_malformed n (steps_in file))) day _ c.1 in
    let same = same_done _ _ d.1 in
    record {
      length_well = length_right _ a.0;
      trailer_well = trailer_fits_lem file (not-false _ b.0);
      settings_well = not-false _ c.0;
      steps_well = d.0;
      counted = ap (λ (x : ReadDay). x.count) same;
      settings_are = sym (ap (λ (x : ReadDay). x.settings) same);
    }
