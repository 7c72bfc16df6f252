-- Numbers that rise along a list.
use Rattle.std.specs.Prelude.{ℕ, suc, ◌≤◌, List, [], ◌∷◌}

-- they rise from low on, and stay below the next one
abbrev pub Rise : {X : Type 0} → (X → ℕ) → ℕ → List X → ℕ → Type 0
Rise {X} number_of low [] next = low ≤ next
Rise {X} number_of low (x ∷ xs) next = (low ≤ number_of x) × Rise number_of (suc (number_of x)) xs next
