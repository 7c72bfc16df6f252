-- Numbers that rise along a list, as one is put last, changed or taken out.
use Rattle.std.proofs.Common.{◌≡◌, ℕ, suc, ◌≤◌, Bool, true, false, cond, List, [], ◌∷◌, ◌++◌, map, arith}
use Rattle.std.specs.Prelude.{filter}
use Rattle.sq_model.specs.Rises.{Rise}

module _ {X : Type 0} (number_of : X → ℕ) where
  pub rise_last : (low : ℕ) (xs : List X) (x : X) (next : ℕ) → Rise number_of low xs next → number_of x ≡ next → Rise number_of low (xs ++ x ∷ []) (suc next)
  rise_last low [] x next h e = (omega (arith, h, e), omega (arith, e))
  rise_last low (y ∷ xs) x next h e = (h.0, rise_last (suc (number_of y)) xs x next h.1 e)

  pub rise_lower : (low lower : ℕ) (xs : List X) (next : ℕ) → lower ≤ low → Rise number_of low xs next → Rise number_of lower xs next
  rise_lower low lower [] next le h = omega (arith, le, h)
  rise_lower low lower (x ∷ xs) next le h = (omega (arith, le, h.0), h.1)

  pub rise_filtered : (keep : X → Bool) (low : ℕ) (xs : List X) (next : ℕ) → Rise number_of low xs next → Rise number_of low (filter keep xs) next
  rise_filtered keep low [] next h = h
  rise_filtered keep low (x ∷ xs) next h =
      let rest = rise_filtered keep (suc (number_of x)) xs next h.1 in
      elim (keep x) as (λ b. Rise number_of low (cond b (x ∷ filter keep xs) (filter keep xs)) next) [
        | true ↦ (h.0, rest)
        | false ↦ rise_lower (suc (number_of x)) low (filter keep xs) next (omega (arith, h.0)) rest
      ]

  pub rise_mapped : (f : X → X) (low : ℕ) (xs : List X) (next : ℕ) → ((x : X) → number_of (f x) ≡ number_of x) → Rise number_of low xs next → Rise number_of low (map f xs) next
  rise_mapped f low [] next k h = h
  rise_mapped f low (x ∷ xs) next k h = rw (k x) (h.0, rise_mapped f (suc (number_of x)) xs next k h.1)
