-- A search over ranks, one rank at a time.
use Prim.Native.Nat.{ℕ, suc, ◌+◌, ◌-◌, ◌<◌}
use mathlib.Core.Bool.{Bool, true, false, not, ◌&&◌, ◌||◌}
use mathlib.Core.Path.{◌≡◌, ◌∙◌}
use native.Mathlib.Numerals.{add-one}
use native.Mathlib.Omega.{arith}
use Rattle.rules.specs.Site.{reach}

module _ (ends test : ℕ → Bool) (n j : ℕ) (h : j + 1 < n) where
  reach_step : reach ends test (n - suc j) j ≡ (test j || (not (ends (j + 1)) && reach ends test (n - suc (j + 1)) (j + 1)))
  unfolding reach
  reach_step = let e : n - suc j ≡ suc (n - suc (suc j)) = omega arith in rw (add-one, e)

  pub reach_here : test j ≡ true → reach ends test (n - suc j) j ≡ true
  reach_here e = reach_step ∙ rw e

  pub reach_ended : test j ≡ false → ends (j + 1) ≡ true → reach ends test (n - suc j) j ≡ false
  reach_ended e k = reach_step ∙ rw (e, k)

  pub reach_on : test j ≡ false → ends (j + 1) ≡ false → reach ends test (n - suc j) j ≡ reach ends test (n - suc (j + 1)) (j + 1)
  reach_on e k = reach_step ∙ rw (e, k)
