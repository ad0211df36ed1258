-- The lamps of a track take 48 bytes. The answers of a preview, each by the branch that led to it.
use Prim.Native.Nat.{ℕ, ◌<◌, ◌≤◌}
use mathlib.Core.Bool.{Bool, true, false, cond}
use mathlib.Core.List.{List}
use mathlib.Core.Path.{◌≡◌, refl, ap, ◌∙◌}
use native.Mathlib.Omega.{arith}
use lib.ListN.{length, get_or}
use borrow.Author.Tests.{lt-ltb, le-ltb, le-leb, lt-leb}
use Rattle.std.specs.List.{flat_map}
use Rattle.section.specs.Refusal.{figure, refusal_by}
use Rattle.section.specs.declared.Indications.{Indications}
use Rattle.section.specs.Items.{items}
use Rattle.section.specs.declared.Section.{Section}
use Rattle.section.specs.Numbers.{most_posts}
use Rattle.section.specs.Range.{in_range}
use Rattle.section.specs.Words.{said_by, said_number}
use Rattle.rules.specs.Indications.{dark}
use Rattle.rules.specs.Judge.{judge}
use Rattle.text.specs.Text.{written}
use Rattle.text.proofs.Laws.{first_texts_whole}
use Rattle.image.proofs.Made.{joined}
use Rattle.packed.specs.Packed.{packed_verdict, packed_verdict_by}
use Rattle.image.specs.Image.{image_well_formed, section_of}
use Rattle.engine.specs.Preview.{preview}
use Rattle.engine.specs.declared.previews.Previewed.{Previewed}
use Rattle.capi_preview.specs.Preview.{lamps_length, track_lamps_length, lamp_bytes, track_lamps, lamps, preview_answer, lamps_after, preview_lamps}

-- three bytes a post
pub track_lamps_length_lem : (shown : List Indications) → length (track_lamps shown) ≡ track_lamps_length
unfolding track_lamps lamp_bytes
track_lamps_length_lem shown = first_texts_whole (λ p. lamp_bytes (get_or shown p dark)) 3 most_posts (λ p. omega arith)

-- arrays of three bytes, one for each post, are the lamps of a track
pub track_flat : (shown : List Indications) {parts : List (List ℕ)} {flat : List ℕ} →
    parts ≡ items (λ (p : ℕ). lamp_bytes (get_or shown p dark)) most_posts → flat ≡ flat_map (λ x. x) parts → flat ≡ track_lamps shown
unfolding track_lamps
track_flat shown e f = f ∙ ap (flat_map (λ x. x)) e ∙ joined _ most_posts

-- ## The answers

-- judging a state out of range answers 6
six : (s : Section) (step : List ℕ) → in_range s ≡ false → packed_verdict (preview s step).verdict ≡ 6
unfolding preview judge packed_verdict_by refusal_by said_by said_number figure
six s step h = rw h

module _ (image step buffer : List ℕ) where
  -- the answer, and the buffer afterwards
  abbrev Answered : ℕ → List ℕ → Type 0
  Answered r after = (r ≡ preview_answer image step (length buffer)) × (after ≡ preview_lamps image step buffer)

  pub no_image : image_well_formed image ≡ false → Answered 6 buffer
  unfolding preview_answer preview_lamps
  no_image e = (rw e, rw e)

  module _ (e : image_well_formed image ≡ true) {s : Section} (es : s ≡ section_of image) where
    pub too_short : {r : ℕ} → length buffer < lamps_length → r ≡ cond (in_range s) 5 6 → Answered r buffer
    unfolding preview_answer preview_lamps
    too_short h er = (rw (e, ← es, lt-ltb _ _ h) er, rw (e, lt-leb _ _ h))

    pub tried :
        {after : List ℕ} {r : ℕ} {p : Previewed} → lamps_length ≤ length buffer → p ≡ preview s step
        → r ≡ packed_verdict p.verdict → after ≡ written buffer 0 (lamps p.a p.b) → Answered r after
    unfolding preview_answer preview_lamps lamps_after
    tried {r = r} room ep er ew = (
      rw (e, ← es, le-ltb _ _ room) (answered (in_range s) refl),
      rw (e, ← es, le-leb _ _ room, ← ep) ew,
    )
      where
        judged : r ≡ packed_verdict (preview s step).verdict
        judged = er ∙ ap (λ (x : Previewed). packed_verdict x.verdict) ep

        answered : (b : Bool) → in_range s ≡ b → r ≡ cond b (packed_verdict (preview s step).verdict) 6
        answered true h = judged
        answered false h = judged ∙ six s step h
