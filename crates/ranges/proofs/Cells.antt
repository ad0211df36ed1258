-- The cells of a track: its posts, and the block sections between them.
use Rattle.std.proofs.Common.{ℕ, zero, suc, ◌-◌, ◌<◌, Bool, true, false, ◌&&◌, ◌↔◌, get_or, leb, ◌≡◌, ◌∙◌, refl, sym, arith, sub-one}
use Rattle.std.proofs.Math.Bool.{and_assoc}
use Rattle.std.proofs.lemmas.Bool.{le-leb, leb-true}
use Rattle.section.proofs.Laws.{both, and_left, and_right, posts_each, posts_all, numbers_each, numbers_all, cell_test, cells}
use Rattle.section.specs.declared.Track.{Track}
use Rattle.section.specs.Numbers.{largest_train}
use Rattle.section.specs.Post.{blank}
use Rattle.section.specs.Range.{post_in_range, posts_in_range, numbers_in_range}

module _ (t : Track) where
  cells_each : (m : ℕ) → cells t m ≡ true → (i : ℕ) → i < m → cell_test t i ≡ true
  cells_each m e i h =
      let numbers = and_right (posts_in_range m t.posts) _ e in
      both (posts_each t.posts m (and_left _ _ e) i h)
      (both (le-leb _ _ (numbers_each t.trains m (and_left _ _ numbers) i h)) (le-leb _ _ (numbers_each t.last m (and_right _ _ numbers) i h)))

  cells_all : (m : ℕ) → ((i : ℕ) → i < m → cell_test t i ≡ true) → cells t m ≡ true
  cells_all m h =
      both (posts_all t.posts m (λ i k. and_left _ _ (h i k)))
      (both (numbers_all t.trains m (λ i k. leb-true _ _ (and_left _ _ (and_right (post_in_range (get_or t.posts i blank)) _ (h i k)))))
      (numbers_all t.last m (λ i k. leb-true _ _ (and_right _ _ (and_right (post_in_range (get_or t.posts i blank)) _ (h i k))))))

  cells_where : (m : ℕ) (r : Bool) → (r ≡ true) ↔ ((i : ℕ) → i < m → cell_test t i ≡ true) → r ≡ cells t m
  cells_where m true h = sym (cells_all m (h.0 refl))
  cells_where m false h = go (cells t m) refl
    where
      go : (b : Bool) → cells t m ≡ b → false ≡ b
      go true e = h.1 (cells_each m e)
      go false e = refl

  -- the end post n − 1 is tested by itself
  with_end : (n : ℕ) → 0 < n → (posts_in_range n t.posts && (numbers_in_range (n - 1) t.trains && numbers_in_range (n - 1) t.last))
      ≡ (post_in_range (get_or t.posts (n - 1) blank) && cells t (n - 1))
  unfolding posts_in_range
  with_end zero h = absurd (omega arith)
  with_end (suc m) h = rw (sub-one (suc m)) (and_assoc (post_in_range (get_or t.posts m blank)) (posts_in_range m t.posts) _)

  pub end_out :
      (n : ℕ) (b : Bool) → b ≡ post_in_range (get_or t.posts (n - 1) blank) → b ≡ false → 0 < n →
      b ≡ (posts_in_range n t.posts && (numbers_in_range (n - 1) t.trains && numbers_in_range (n - 1) t.last))
  end_out n b e f h = f ∙ sym (with_end n h ∙ rw (sym e ∙ f) refl)

  pub end_in :
      (n : ℕ) (b r : Bool) → b ≡ post_in_range (get_or t.posts (n - 1) blank) → b ≡ true → 0 < n →
      (r ≡ true) ↔ ((i : ℕ) → i < n - 1 → cell_test t i ≡ true) →
      r ≡ (posts_in_range n t.posts && (numbers_in_range (n - 1) t.trains && numbers_in_range (n - 1) t.last))
  end_in n b r e f h each = cells_where (n - 1) r each ∙ sym (with_end n h ∙ rw (sym e ∙ f) refl)
