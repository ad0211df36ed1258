-- The row of checks as the code walks it: `Past ks ls` says that the checks of ks before its rest ls all hold. The code asks the next
-- check by `check(holds, refusal)?`.
use Rattle.std.proofs.Common.{◌≡◌, ℕ, Bool, true, false, List, [], ◌∷◌, Ok, Err, refl, sym, ◌∙◌, ap}
use Rattle.section.specs.declared.Refusal.{Refusal}
use Rattle.rules.specs.declared.Effect.{Effect}
use Rattle.rules.specs.Table.{Check, ◌else◌}
use Rattle.site.specs.Ruling.{ruling_of}

pub data Past : List Check → List Check → Type 0 where
  none : {ks : List Check} → Past ks ks
  then : {ks ls : List Check} {b : Bool} {k : Refusal} → Past ks ((b else k) ∷ ls) → b ≡ true → Past ks ls

same : {ks ls : List Check} (f : Effect) → Past ks ls → ruling_of ks f ≡ ruling_of ls f
unfolding ruling_of
same f none = refl
same f (then p e) = same f p ∙ rw e

-- past all checks, a step that does what its row says
pub accepted : {ks : List Check} {does f : Effect} → does ≡ f → Past ks [] → Ok does ≡ ruling_of ks f
unfolding ruling_of
accepted {ks} {does} {f} e p = ap Ok e ∙ sym (same f p)

pub refused : {ks ls : List Check} {b : Bool} {k : Refusal} (f : Effect) → Past ks ((b else k) ∷ ls) → b ≡ false → Err k ≡ ruling_of ks f
unfolding ruling_of
refused f p e = sym (same f p ∙ rw e)
