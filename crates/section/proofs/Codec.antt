-- Decoding and encoding a step are inverse to each other. A step's fields pass the tests that its bytes are put to, and give the step back; the
-- step that bytes say has the fields of these bytes, which are in their ranges.
use Prim.Native.Nat.{ℕ, ◌<◌}
use mathlib.Core.Path.{◌≡◌, refl, sym, ◌∙◌, ap}
use mathlib.Core.Bool.{Bool, true, false, ◌&&◌}
use mathlib.Core.List.{List}
use native.Mathlib.Omega.{arith}
use lib.ListN.{length}
use lib.Seq.{ext_get_or}
use lib.Dec.{eqb, ltb}
use borrow.Author.Tests.{lt-ltb, ltb-true}
use Rattle.std.specs.Prelude.{Some, None}
use Rattle.section.specs.declared.TrackStep.{TrackStep}
use Rattle.section.specs.Bytes.{byte, le16, AllBytes, truth_number}
use Rattle.section.specs.Numbers.{step_length}
use Rattle.section.specs.RoundTrip.{DecodesWhatIsEncoded, EncodesInEightBytes, EncodesWhatIsDecoded, DecodesOnlyWhatFits}
use Rattle.section.specs.Step.{Fields, fields_in, track_well_formed, number_well_formed, place_well_formed, fields_well_formed, well_formed, step_said, decoded}
use Rattle.section.specs.Step.{fields_of, kind_of, post_of, number_of, bytes_of, encoded, step_in_range}
use Rattle.section.proofs.Laws.{both, and_left, and_right}
use Rattle.section.proofs.StepLaws.{malformed, well_said, well_length, well_fields, WellFormed, well_formed_fields, below, fields_back, own}
use Rattle.section.proofs.StepLaws.{truth_same, track_small}
use Rattle.section.proofs.StepLaws.{truth_back, low_back, high_back, zero_low, zero_high, le16_back, kind_small, fault_small, number_small, all_bytes}

-- ## From a step to its bytes and back

module _ (n : ℕ) (x : TrackStep) (h : step_in_range n x ≡ true) where
  abbrev own_fields : Fields
  own_fields = fields_of x.step

  own_track : track_well_formed own_fields.kind (truth_number x.track) ≡ true
  unfolding step_in_range kind_of
  own_track = and_left _ _ h

  rest : (ltb own_fields.post n && number_well_formed own_fields.kind own_fields.number) ≡ true
  unfolding step_in_range kind_of post_of number_of
  rest = and_right (track_well_formed own_fields.kind (truth_number x.track)) _ h

  own_post : ltb own_fields.post n ≡ true
  own_post = and_left (ltb own_fields.post n) (number_well_formed own_fields.kind own_fields.number) rest

  own_number : number_well_formed own_fields.kind own_fields.number ≡ true
  own_number = and_right (ltb own_fields.post n) (number_well_formed own_fields.kind own_fields.number) rest

  own_fit : fields_well_formed n (truth_number x.track) own_fields 0 ≡ true
  unfolding fields_well_formed place_well_formed
  own_fit = rw ((own x.step).kind_well_formed, own_track, own_post, (own x.step).fault_well_formed_lem, own_number)

le16_zero : le16 0 0 ≡ 0
unfolding le16
le16_zero = refl

same_step : (x : TrackStep) → step_said (encoded x) ≡ x
unfolding step_said encoded bytes_of
same_step x = rw (truth_same x.track, le16_back (fields_of x.step).number, (own x.step).same)

encoded_well : (n : ℕ) (x : TrackStep) → step_in_range n x ≡ true → well_formed n (encoded x) ≡ true
unfolding well_formed encoded bytes_of
encoded_well n x h = rw (le16_back (fields_of x.step).number, le16_zero) (own_fit n x h)

pub decodes_what_is_encoded : DecodesWhatIsEncoded
decodes_what_is_encoded n x h = well_said n (encoded x) (encoded_well n x h) ∙ ap Some (same_step x)

pub encodes_in_eight_bytes : EncodesInEightBytes
unfolding encoded bytes_of
encodes_in_eight_bytes n x m h =
    let f = fields_of x.step in
    let kind = kind_small f.kind (own x.step).kind_well_formed in
    let track = track_small f.kind (truth_number x.track) (own_track n x h) in
    let post = ltb-true f.post n (own_post n x h) in
    let fault = fault_small f.kind f.fault (own x.step).fault_well_formed_lem in
    let number = number_small f.kind f.number (own_number n x h) in (
      refl,
      all_bytes (encoded x)
          (omega arith, (omega arith, (omega arith, (omega arith, (omega arith, (omega arith, (omega arith, (omega arith, tt)))))))),
    )

-- ## From bytes to their step and back

module _ (n : ℕ) (s : List ℕ) (x : TrackStep) (d : decoded n s ≡ Some x) where
  well : well_formed n s ≡ true
  well = go (well_formed n s) refl
    where
      go : (b : Bool) → well_formed n s ≡ b → b ≡ true
      go true e = refl
      go false e = let said : None ≡ Some x = sym (malformed n s e) ∙ d in let z : ◌≡◌ {A = ℕ} 0 1 = cc in absurd (omega arith)

  is_said : x ≡ step_said s
  is_said = cc (d, well_said n s well)

  tests : WellFormed n (byte s 1) (fields_in s) (le16 (byte s 6) (byte s 7))
  tests = well_formed_fields n (byte s 1) (fields_in s) (le16 (byte s 6) (byte s 7)) (well_fields n s well)

  pub decoded_length : length s ≡ step_length
  decoded_length = well_length n s well

  pub decoded_track : x.track ≡ eqb (byte s 1) 1
  unfolding step_said
  decoded_track = ap (λ (y : TrackStep). y.track) is_said

  -- the fields, read off the bytes
  pub decoded_fields : fields_of x.step ≡ fields_in s
  unfolding step_said
  decoded_fields = rw is_said (fields_back (fields_in s) tests.kind_well_formed tests.fault_well_formed_lem tests.number_well_formed_lem)

  pub decoded_kind : kind_of x.step ≡ byte s 0
  unfolding kind_of
  decoded_kind = ap (λ (f : Fields). f.kind) decoded_fields

  pub decoded_post : post_of x.step ≡ byte s 2
  unfolding post_of
  decoded_post = ap (λ (f : Fields). f.post) decoded_fields

  pub decoded_number : number_of x.step ≡ le16 (byte s 4) (byte s 5)
  unfolding number_of
  decoded_number = ap (λ (f : Fields). f.number) decoded_fields

  -- and their ranges
  pub decoded_post_below : post_of x.step < n
  decoded_post_below = rw decoded_post tests.post_below

  pub decoded_number_well_formed : number_well_formed (kind_of x.step) (number_of x.step) ≡ true
  decoded_number_well_formed = rw (decoded_kind, decoded_number) tests.number_well_formed_lem

  track_below : byte s 1 < 2
  track_below = track_small (byte s 0) (byte s 1) tests.track_well_formed_lem

  track_again : truth_number x.track ≡ byte s 1
  track_again = rw decoded_track (truth_back (byte s 1) track_below)

  pub decoded_track_well_formed : track_well_formed (kind_of x.step) (truth_number x.track) ≡ true
  decoded_track_well_formed = rw (decoded_kind, track_again) tests.track_well_formed_lem

  decoded_fits : step_in_range n x ≡ true
  unfolding step_in_range
  decoded_fits = both decoded_track_well_formed (both (lt-ltb _ _ decoded_post_below) decoded_number_well_formed)

  encoded_decoded : AllBytes s → encoded x ≡ s
  unfolding encoded bytes_of
  encoded_decoded bytes =
      let zero6 : 0 ≡ byte s 6 = zero_low (byte s 6) (byte s 7) tests.zeros_none in
      let zero7 : 0 ≡ byte s 7 = zero_high (byte s 6) (byte s 7) tests.zeros_none in
      let low = low_back (byte s 4) (byte s 5) (bytes 4) in
      let high = high_back (byte s 4) (byte s 5) (bytes 4) in
      ap (bytes_of (truth_number x.track)) decoded_fields
      ∙ ext_get_or 0 (bytes_of (truth_number x.track) (fields_in s)) s (sym decoded_length)
      (below (λ (i : ℕ). byte (bytes_of (truth_number x.track) (fields_in s)) i ≡ byte s i) step_length
      (refl, (track_again, (refl, (refl, (low, (high, (zero6, (zero7, tt)))))))))

pub decodes_only_what_fits : DecodesOnlyWhatFits
decodes_only_what_fits n s x d = decoded_fits n s x d

pub encodes_what_is_decoded : EncodesWhatIsDecoded
encodes_what_is_decoded n s x d = encoded_decoded n s x d
