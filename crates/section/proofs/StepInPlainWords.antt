-- A step and its bytes in plain words, from the statements of RoundTrip alone: what is encoded is decoded again, so nothing is lost; what is
-- decoded fits, so it is encoded and decoded again. The last rows are the statements' own word, by computation.
use Prim.Native.Nat.{ℕ, ◌≤◌, ◌<◌}
use mathlib.Core.Path.{◌≡◌, refl, sym, ap, ◌∙◌}
use mathlib.Core.Bool.{Bool, true, false, ◌&&◌}
use native.Mathlib.Omega.{arith}
use lib.Dec.{ltb, leb}
use borrow.Author.Tests.{ltb-true, leb-true}
use Rattle.std.specs.Prelude.{Some, None, Option}
use Rattle.section.specs.declared.Fault.TheVariants.{Four}
use Rattle.section.specs.declared.Step.{Step}
use Rattle.section.specs.declared.Step.TheVariants.{Order, Start, FaultOn, Release, Caution}
use Rattle.section.specs.declared.TrackStep.{TrackStep}
use Rattle.section.specs.Bytes.{within, truth_number}
use Rattle.section.specs.Numbers.{largest_train}
use Rattle.section.specs.RoundTrip.{DecodesWhatIsEncoded, EncodesInEightBytes, EncodesWhatIsDecoded, DecodesOnlyWhatFits}
use Rattle.section.specs.Step.{track_well_formed, number_well_formed, decoded, kind_of, post_of, number_of, encoded, step_in_range}
use Rattle.section.specs.StepInPlainWords.{StepInPlainWords}
use Rattle.section.proofs.Laws.{and_left, and_right}
use Rattle.section.proofs.Codec.{decodes_what_is_encoded, encodes_in_eight_bytes, encodes_what_is_decoded, decodes_only_what_fits}

same_well : (x y : TrackStep) → Some x ≡ Some y → x ≡ y
same_well x y e = cc

not_both : (o : Option TrackStep) (x : TrackStep) → o ≡ Some x → o ≡ None → ⊥
not_both o x e f = let z : ◌≡◌ {A = ℕ} 0 1 = cc in omega arith

-- a step in its ranges: its post, and the number of a start
post_fits : (n : ℕ) (x : TrackStep) → step_in_range n x ≡ true → post_of x.step < n
unfolding step_in_range
post_fits n x h =
    let track = track_well_formed (kind_of x.step) (truth_number x.track) in
    let number = number_well_formed (kind_of x.step) (number_of x.step) in
    ltb-true (post_of x.step) n (and_left (ltb (post_of x.step) n) number (and_right track (ltb (post_of x.step) n && number) h))

start_fits : (n : ℕ) (track : Bool) (p number : ℕ) → step_in_range n (record { track = track; step = Start p number }) ≡ true
    → (1 ≤ number) × (number ≤ 59999)
unfolding step_in_range kind_of post_of number_of number_well_formed within
start_fits n track p number h =
    let fits : (leb 1 number && leb number largest_train) ≡ true = and_right (ltb p n) _ (and_right (track_well_formed 5 (truth_number track)) _ h) in (
      leb-true 1 number (and_left (leb 1 number) (leb number largest_train) fits),
      leb-true number largest_train (and_right (leb 1 number) (leb number largest_train) fits),
    )

module _ (there : DecodesWhatIsEncoded) (eight : EncodesInEightBytes) (back : EncodesWhatIsDecoded) (fits : DecodesOnlyWhatFits) (n : ℕ) where
  in_words : StepInPlainWords n
  in_words = record {
    never_malformed = λ x h. not_both (decoded n (encoded x)) x (there n x h);
    one_step = λ x y h k e. same_well x y (sym (there n x h) ∙ ap (decoded n) e ∙ there n y k);
    eight = λ x m h. (eight n x m h).0;
    are_bytes = λ x m h. (eight n x m h).1;
    one_string = λ s t x hs ht ds dt. sym (back n s x ds hs) ∙ back n t x dt ht;
    said_again = λ s x d. there n x (fits n s x d);
    post_below = λ s x d. post_fits n x (fits n s x d);
    number_of_start = λ s track p number d. start_fits n track p number (fits n s _ d);
  }

pub step_in_plain_words : (n : ℕ) → StepInPlainWords n
step_in_plain_words = in_words decodes_what_is_encoded encodes_in_eight_bytes encodes_what_is_decoded decodes_only_what_fits

-- ## Ranges of a step, on a line of three posts

abbrev fits_three : Bool → Step → Bool
fits_three track x = step_in_range 3 (record { track = track; step = x })

-- post 2 of three; numbers 1 to 59,999 of a train, from 0 on in a release
pub steps_in_range :
    (fits_three false (Order 2) ≡ true)
    × ((fits_three true (FaultOn 2 Four) ≡ true)
    × ((fits_three false (Start 0 1) ≡ true)
    × ((fits_three false (Start 0 59999) ≡ true)
    × ((fits_three true (Caution 1 59999) ≡ true)
    × ((fits_three true (Release 1 0) ≡ true)
    × (fits_three true (Release 1 59999) ≡ true))))))
unfolding step_in_range track_well_formed kind_of post_of number_of number_well_formed within
steps_in_range = (refl, (refl, (refl, (refl, (refl, (refl, refl))))))

pub steps_out_of_range :
    (fits_three false (Order 3) ≡ false)
    × ((fits_three true (FaultOn 3 Four) ≡ false)
    × ((fits_three false (Start 0 0) ≡ false)
    × ((fits_three false (Start 0 60000) ≡ false)
    × ((fits_three true (Caution 1 0) ≡ false)
    × (fits_three true (Release 1 60000) ≡ false)))))
unfolding step_in_range track_well_formed kind_of post_of number_of number_well_formed within
steps_out_of_range = (refl, (refl, (refl, (refl, (refl, refl)))))
