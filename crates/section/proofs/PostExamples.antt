-- What each change of a post's record changes, and that it changes nothing else: of a post that has everything and of a blank one, all ten fields.
use Prim.Native.Nat.{ℕ}
use mathlib.Core.Bool.{Bool, true, false}
use mathlib.Core.Path.{refl}
use mathlib.Core.List.{List, [], ◌∷◌, map}
use Rattle.section.specs.declared.Fault.{Fault}
use Rattle.section.specs.declared.Fault.TheVariants.{One, Two, Three, Four}
use Rattle.section.specs.declared.Post.{Post}
use Rattle.section.specs.Post.{blank, turned, permitted, measured, faulty, marked, sealed, cautioned, has_fault}
use Rattle.section.proofs.Rows.{◌gives◌, Holds}

abbrev on : Bool
on = true

abbrev off : Bool
off = false

-- device, permission, measures; faults 1, 2, 3, 4; mark, seals, caution form
abbrev post : Bool → Bool → Bool → Bool → Bool → Bool → Bool → Bool → ℕ → ℕ → Post
post device permission measures one two three four mark seals caution = record {
  device = device;
  permission = permission;
  measures = measures;
  faults = record { one = one; two = two; three = three; four = four };
  mark = mark;
  seals = seals;
  caution = caution;
}

abbrev full : Post
full = post on on on on on on on on 3 7

pub changes_of_a_blank_post :
    Holds
    ((blank gives post off off off off off off off off 0 0)
    ∷ (turned true blank gives post on off off off off off off off 0 0)
    ∷ (permitted true blank gives post off on off off off off off off 0 0)
    ∷ (measured true blank gives post off off on off off off off off 0 0)
    ∷ (faulty One true blank gives post off off off on off off off off 0 0)
    ∷ (faulty Two true blank gives post off off off off on off off off 0 0)
    ∷ (faulty Three true blank gives post off off off off off on off off 0 0)
    ∷ (faulty Four true blank gives post off off off off off off on off 0 0)
    ∷ (marked true blank gives post off off off off off off off on 0 0)
    ∷ (sealed blank gives post off off off off off off off off 1 0)
    ∷ (cautioned 9 blank gives post off off off off off off off off 0 9)
    ∷ [])
changes_of_a_blank_post = refl

pub changes_of_a_full_post :
    Holds
    ((turned false full gives post off on on on on on on on 3 7)
    ∷ (permitted false full gives post on off on on on on on on 3 7)
    ∷ (measured false full gives post on on off on on on on on 3 7)
    ∷ (faulty One false full gives post on on on off on on on on 3 7)
    ∷ (faulty Two false full gives post on on on on off on on on 3 7)
    ∷ (faulty Three false full gives post on on on on on off on on 3 7)
    ∷ (faulty Four false full gives post on on on on on on off on 3 7)
    ∷ (marked false full gives post on on on on on on on off 3 7)
    ∷ (sealed full gives post on on on on on on on on 4 7)
    ∷ (cautioned 0 full gives post on on on on on on on on 3 0)
    ∷ [])
changes_of_a_full_post = refl

-- the faults that a post has
abbrev faults_of : Post → List Bool
faults_of o = map (λ (f : Fault). has_fault f o) (One ∷ Two ∷ Three ∷ Four ∷ [])

pub faults_had :
    Holds
    ((faults_of (post off off off on off off off off 0 0) gives on ∷ off ∷ off ∷ off ∷ [])
    ∷ (faults_of (post off off off off on off off off 0 0) gives off ∷ on ∷ off ∷ off ∷ [])
    ∷ (faults_of (post off off off off off on off off 0 0) gives off ∷ off ∷ on ∷ off ∷ [])
    ∷ (faults_of (post off off off off off off on off 0 0) gives off ∷ off ∷ off ∷ on ∷ [])
    ∷ (faults_of (post on on on off off off off on 3 7) gives off ∷ off ∷ off ∷ off ∷ [])
    ∷ [])
faults_had = refl
