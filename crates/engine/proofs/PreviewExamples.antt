-- Examples of a step tried first, on the fresh section of three posts: an accepted step, a refused one, a malformed one, and a state that gives 6.
use Prim.Native.Nat.{ℕ, ◌+◌, ◌*◌}
use mathlib.Core.Path.{refl}
use mathlib.Core.List.{List, [], ◌∷◌, ◌++◌, map}
use lib.ListN.{take}
use Rattle.section.specs.declared.Indications.{Indications}
use Rattle.section.specs.declared.Section.{Section}
use Rattle.section.specs.Items.{items}
use Rattle.section.specs.Words.{refusal_of}
use Rattle.rules.specs.Indications.{set_count, is_next_to_set, circulation, troncon, shown, lamps_at, dark, indications_on, indications, track_indications}
use Rattle.rules.proofs.Days.{telephone, fresh, refusals}
use Rattle.rules.proofs.Rows.{◌gives◌, Holds}
use Rattle.engine.specs.Preview.{preview}

-- CIRCULATION, TRONÇON and permission as three figures, of the posts 0 to 3
abbrev figures : List Indications → List ℕ
figures shown = map (λ (l : Indications). l.circulation * 100 + l.troncon * 10 + l.permission) (take 4 shown)

-- 0 or the refusal, then the posts of A, then those of B
unfoldable pub tried : Section → List ℕ → List ℕ
unfolding refusals preview track_indications items indications indications_on lamps_at shown circulation troncon is_next_to_set set_count dark
tried s bytes = refusal_of (preview s bytes).verdict ∷ (figures (preview s bytes).a ++ figures (preview s bytes).b)

-- start of train 7 at that post of A
abbrev pub start_at : ℕ → List ℕ
start_at post = 5 ∷ 0 ∷ post ∷ 0 ∷ 7 ∷ 0 ∷ 0 ∷ 0 ∷ []

pub tried_first :
    Holds
    -- "the answer and all indications after a step": the train is ahead of post 0, whose TRONÇON is red
    ((tried (fresh (telephone 3 7)) (start_at 0) gives 0 ∷ (121 ∷ 110 ∷ 100 ∷ 0 ∷ []) ++ (100 ∷ 110 ∷ 111 ∷ 0 ∷ []))
    -- "refusals included": the section as it is
    ∷ (tried (fresh (telephone 3 7)) (start_at 1) gives 12 ∷ (111 ∷ 110 ∷ 100 ∷ 0 ∷ []) ++ (100 ∷ 110 ∷ 111 ∷ 0 ∷ []))
    ∷ (tried (fresh (telephone 3 7)) [] gives 4 ∷ (111 ∷ 110 ∷ 100 ∷ 0 ∷ []) ++ (100 ∷ 110 ∷ 111 ∷ 0 ∷ []))
    -- "Every indication of a state that gives 6 .. is 0": the end post 2 is not signalled
    ∷ (tried (fresh (telephone 3 3)) (start_at 0) gives 6 ∷ (0 ∷ 0 ∷ 0 ∷ 0 ∷ []) ++ (0 ∷ 0 ∷ 0 ∷ 0 ∷ []))
    ∷ [])
unfolding tried fresh
tried_first = refl
