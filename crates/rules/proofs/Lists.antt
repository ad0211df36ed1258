-- Lists that hold the same elements, and what is kept of them in sequence: a step put at the end, or before steps none of which has an owner in
-- common with it, changes no owner's sequence.
use Prim.Native.Nat.{ℕ}
use mathlib.Core.Bool.{Bool, true, false, cond, true≢false}
use mathlib.Core.Path.{◌≡◌, refl, sym, ap, ◌∙◌}
use mathlib.Core.List.{List, [], ◌∷◌, ◌++◌, append-nil}
use Rattle.rules.specs.Demand3.{AcceptedStep, keep, All, Reordering, none_left, same, swapped, chained, is_of_post, is_step_of_train, is_announcement}

module _ {A : Type 0} where
  -- ## All

  pub all_last : (P : A → Type 0) (l : List A) (x : A) → All P l → P x → All P (l ++ x ∷ [])
  all_last P [] x h p = (p, tt)
  all_last P (y ∷ l) x h p = (h.0, all_last P l x h.1 p)

  pub all_map : (P Q : A → Type 0) (l : List A) → ((x : A) → P x → Q x) → All P l → All Q l
  all_map P Q [] f h = tt
  all_map P Q (x ∷ l) f h = (f x h.0, all_map P Q l f h.1)

  -- ## Reordering

  reordering_refl : (l : List A) → Reordering l l
  reordering_refl [] = none_left
  reordering_refl (x ∷ l) = same x (reordering_refl l)

  reordering_right : (c : List A) {a b : List A} → Reordering a b → Reordering (a ++ c) (b ++ c)
  reordering_right c none_left = reordering_refl c
  reordering_right c (same x h) = same x (reordering_right c h)
  reordering_right c (swapped x y l) = swapped x y (l ++ c)
  reordering_right c (chained h k) = chained (reordering_right c h) (reordering_right c k)

  reordering_last : (x : A) (l : List A) → Reordering (x ∷ l) (l ++ x ∷ [])
  reordering_last x [] = reordering_refl (x ∷ [])
  reordering_last x (y ∷ l) = chained (swapped x y l) (same y (reordering_last x l))

  reordering_insert : (x : A) (a l : List A) → Reordering ((a ++ x ∷ []) ++ l) ((a ++ l) ++ x ∷ [])
  reordering_insert x [] l = reordering_last x l
  reordering_insert x (y ∷ a) l = same y (reordering_insert x a l)

  -- ## keep

  cond_cons : (t : Bool) (x : A) (l m n : List A) → l ≡ m ++ n → cond t (x ∷ l) l ≡ cond t (x ∷ m) m ++ n
  cond_cons true x l m n e = ap (λ k. x ∷ k) e
  cond_cons false x l m n e = e

  pub keep_append : (f : A → Bool) (a b : List A) → keep f (a ++ b) ≡ keep f a ++ keep f b
  keep_append f [] b = refl
  keep_append f (x ∷ a) b = cond_cons (f x) x (keep f (a ++ b)) (keep f a) (keep f b) (keep_append f a b)

  cond_none : (t : Bool) (x : A) (l : List A) → t ≡ false → l ≡ [] → cond t (x ∷ l) l ≡ []
  cond_none true x l h e = absurd (true≢false h)
  cond_none false x l h e = e

  pub keep_none : (f : A → Bool) (l : List A) → All (λ x. f x ≡ false) l → keep f l ≡ []
  keep_none f [] h = refl
  keep_none f (x ∷ l) h = cond_none (f x) x (keep f l) h.0 (keep_none f l h.1)

  insert_kept : (t : Bool) (x : A) (a l : List A) → (t ≡ true → l ≡ []) → (a ++ cond t (x ∷ []) []) ++ l ≡ (a ++ l) ++ cond t (x ∷ []) []
  insert_kept true x a l h = rw (h refl) (append-nil (a ++ x ∷ []) ∙ ap (λ k. k ++ x ∷ []) (sym (append-nil a)))
  insert_kept false x a l h = ap (λ k. k ++ l) (append-nil a) ∙ sym (append-nil (a ++ l))

  keep_insert : (f : A → Bool) (x : A) (a l : List A) → (f x ≡ true → keep f l ≡ []) → keep f ((a ++ x ∷ []) ++ l) ≡ keep f (a ++ l) ++ keep f (x ∷ [])
  keep_insert f x a l h =
      keep_append f (a ++ x ∷ []) l ∙ ap (λ k. k ++ keep f l) (keep_append f a (x ∷ []))
      ∙ insert_kept (f x) x (keep f a) (keep f l) h ∙ ap (λ k. k ++ keep f (x ∷ [])) (sym (keep_append f a l))

-- ## The new order so far

-- whose steps are to stay in sequence: a post's, a train's, and the announcements
pub data Owner : Type 0 where
  a_post : Bool → ℕ → Owner
  a_train : ℕ → Owner
  announcers : Owner

abbrev pub owns : Owner → AcceptedStep → Bool
owns (a_post b p) = is_of_post b p
owns (a_train z) = is_step_of_train z
owns announcers = is_announcement

pub record Reordered (ds new : List AcceptedStep) : Type 0 where
  pub each_once : Reordering new ds
  pub in_sequence : (o : Owner) → keep (owns o) new ≡ keep (owns o) ds

pub reordered_nil : Reordered [] []
reordered_nil = record { each_once = none_left; in_sequence = λ o. refl }

-- one more step, last in both
pub reordered_last : (ds new : List AcceptedStep) (x : AcceptedStep) → Reordered ds new → Reordered (ds ++ x ∷ []) (new ++ x ∷ [])
reordered_last ds new x r = record {
  each_once = reordering_right (x ∷ []) r.each_once;
  in_sequence = λ o. keep_append (owns o) new (x ∷ []) ∙ ap (λ l. l ++ keep (owns o) (x ∷ [])) (r.in_sequence o) ∙ sym (keep_append (owns o) ds (x ∷ []));
}

-- one more step, before the part l, none of which has the same owner
pub reordered_insert : (ds a l : List AcceptedStep) (x : AcceptedStep) → ((o : Owner) → owns o x ≡ true → keep (owns o) l ≡ []) → Reordered ds (a ++ l)
    → Reordered (ds ++ x ∷ []) ((a ++ x ∷ []) ++ l)
reordered_insert ds a l x h r = record {
  each_once = chained (reordering_insert x a l) (reordering_right (x ∷ []) r.each_once);
  in_sequence = λ o. keep_insert (owns o) x a l (h o) ∙ ap (λ m. m ++ keep (owns o) (x ∷ [])) (r.in_sequence o) ∙ sym (keep_append (owns o) ds (x ∷ []));
}
