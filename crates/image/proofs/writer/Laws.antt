-- The two bytes of a walk in a track's head, and a track's parts put one after another: each begins where the one before it ended, and the lengths of
-- the parts are known.
use Prim.Native.Nat.{ℕ}
use mathlib.Core.List.{List, [], ◌∷◌, ◌++◌, append_assoc}
use mathlib.Core.Path.{◌≡◌, refl}
use native.Mathlib.Omega.{arith}
use lib.ListN.{length-append}
use Rattle.section.specs.declared.Track.{Track}
use Rattle.section.specs.declared.Walk.{Walk}
use Rattle.section.specs.declared.Walk.TheVariants.{Settled, Turn}
use Rattle.section.specs.Bytes.{byte}
use Rattle.section.specs.Numbers.{most_posts, most_blocks}
use Rattle.text.specs.declared.Text.{Text}
use Rattle.text.specs.Put.{HasRoom, put}
use Rattle.text.proofs.Put.{put_twice}
use Rattle.image.specs.Image.{track_length, posts_image, numbers_image, walk_image, track_head, track_image}
use Rattle.image.proofs.Laws.{posts_length_lem, numbers_length_lem, head_length_lem}

-- the two bytes of a walk, and a zero
pub two_and_zero : (w : Walk) (d : ℕ) → d ∷ byte (walk_image w) 0 ∷ byte (walk_image w) 1 ∷ 0 ∷ [] ≡ d ∷ (walk_image w ++ (0 ∷ []))
unfolding walk_image
two_and_zero Settled d = refl
two_and_zero (Turn p act) d = refl

-- ## Parts put one after another

module _ (u : Text) (t : Track) (room : HasRoom u track_length) where
  abbrev posts_of : List ℕ
  posts_of = posts_image most_posts t.posts

  abbrev trains_of : List ℕ
  trains_of = numbers_image most_blocks t.trains

  track_parts : put (put (put (put u (track_head t)) posts_of) trains_of) (numbers_image most_blocks t.last) ≡ put u (track_image t)
  unfolding track_image
  track_parts =
      let n = head_length_lem t in
      let m = posts_length_lem most_posts t.posts in
      let k = numbers_length_lem most_blocks t.trains in
      rw (
        put_twice u (track_head t) posts_of (omega arith),
        put_twice u (track_head t ++ posts_of) trains_of (simp length-append (omega arith)),
        put_twice u ((track_head t ++ posts_of) ++ trains_of) (numbers_image most_blocks t.last) (simp length-append (omega arith)),
      )
      (simp append_assoc)

  pub track_put :
      {head posts trains last : List ℕ} {u₁ u₂ u₃ u₄ : Text} → head ≡ track_head t → posts ≡ posts_of → trains ≡ trains_of →
      last ≡ numbers_image most_blocks t.last → u₁ ≡ put u head → u₂ ≡ put u₁ posts → u₃ ≡ put u₂ trains → u₄ ≡ put u₃ last →
      u₄ ≡ put u (track_image t)
  track_put eh ep et el h₁ h₂ h₃ h₄ = rw (h₄, h₃, h₂, h₁, eh, ep, et, el) track_parts
