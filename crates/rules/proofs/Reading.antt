-- What the bytes of a well-formed step say: its fields are its bytes, in their ranges. Both are laws of the step's bytes; here the number's range
-- is told by the step's view.
use Prim.Native.Nat.{ℕ, ◌≤◌, ◌<◌}
use mathlib.Core.Bool.{true}
use mathlib.Core.Path.{◌≡◌}
use mathlib.Core.List.{List}
use lib.Dec.{eqb}
use borrow.Author.Tests.{leb-true}
use Rattle.std.specs.Prelude.{Some}
use Rattle.section.specs.declared.Step.{Step}
use Rattle.section.specs.declared.TrackStep.{TrackStep}
use Rattle.section.specs.Bytes.{byte, le16, within}
use Rattle.section.specs.Numbers.{largest_train}
use Rattle.section.specs.Step.{decoded, number_well_formed, kind_of, post_of, number_of}
use Rattle.section.proofs.Codec.{decoded_track, decoded_kind, decoded_post, decoded_number, decoded_post_below, decoded_number_well_formed}
use Rattle.rules.proofs.Facts.{within→}
use Rattle.rules.proofs.View.{start, pass, leave, measures, fault, caution, View, walks, runs, notes, releases, flat, post_flat}
use Rattle.rules.proofs.View.{Seen, on, as_step, seen, as_step_seen}

-- ## A step whose post is below n, and whose number is in the range of its kind

abbrev pub NumberFits : View → Type 0
NumberFits (walks r) = Unit {0}
NumberFits (runs m z) = (0 < z) × (z ≤ largest_train)
NumberFits (notes (measures x)) = Unit {0}
NumberFits (notes (fault x f)) = Unit {0}
NumberFits (notes (caution z)) = (0 < z) × (z ≤ largest_train)
NumberFits (releases z) = z ≤ largest_train

pub record Fits (n p : ℕ) (k : View) : Type 0 where
  pub below : p < n
  pub number : NumberFits k

number_fits : (p : ℕ) (k : View) → number_well_formed (kind_of (flat p k)) (number_of (flat p k)) ≡ true → NumberFits k
unfolding number_well_formed within kind_of number_of flat
number_fits p (walks r) h = tt
number_fits p (runs start z) h = within→ 1 largest_train z h
number_fits p (runs pass z) h = within→ 1 largest_train z h
number_fits p (runs leave z) h = within→ 1 largest_train z h
number_fits p (notes (measures x)) h = tt
number_fits p (notes (fault x f)) h = tt
number_fits p (notes (caution z)) h = within→ 1 largest_train z h
number_fits p (releases z) h = leb-true z largest_train h

-- a step with its track
abbrev pub SeenFits : ℕ → Seen → Type 0
SeenFits n (on b p k) = Fits n p k

seen_fits : (n : ℕ) (y : Seen) → post_of (as_step y).step < n → number_well_formed (kind_of (as_step y).step) (number_of (as_step y).step) ≡ true → SeenFits n y
seen_fits n (on b p k) h w = record { below = rw (post_flat p k) at h; number = number_fits p k w }

-- ## Bytes

-- the step x has these fields
pub record HasFields (kind post number : ℕ) (x : Step) : Type 0 where
  pub post_is : post_of x ≡ post
  pub kind_is : kind_of x ≡ kind
  pub number_is : number_of x ≡ number

pub record Says (n : ℕ) (bytes : List ℕ) (x : TrackStep) : Type 0 where
  pub decodes : decoded n bytes ≡ Some x
  pub track_is : x.track ≡ eqb (byte bytes 1) 1
  pub fits : SeenFits n (seen x)
  pub fields : HasFields (byte bytes 0) (byte bytes 2) (le16 (byte bytes 4) (byte bytes 5)) x.step

pub decoded_says : (n : ℕ) (bytes : List ℕ) (x : TrackStep) → decoded n bytes ≡ Some x → Says n bytes x
decoded_says n bytes x e = record {
  decodes = e;
  track_is = decoded_track n bytes x e;
  fits = seen_fits n (seen x) (rw (as_step_seen x) (decoded_post_below n bytes x e)) (rw (as_step_seen x) (decoded_number_well_formed n bytes x e));
  fields = record {
    post_is = decoded_post n bytes x e;
    kind_is = decoded_kind n bytes x e;
    number_is = decoded_number n bytes x e;
  };
}
