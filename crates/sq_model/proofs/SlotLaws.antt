-- Slots that are taken, and one that is free.
use Rattle.std.proofs.Common.{◌≡◌, ℕ, zero, suc, ◌+◌, ◌<◌, ◌≤◌, List, [], ◌∷◌, length, Bool, true, false, not, cond, refl, arith, ap, ◌∙◌, inl, inr, ◌⊎◌}
use Rattle.std.specs.Prelude.{nat_eq, filter, ◌||◌, ◌==◌}
use Rattle.std.specs.List.{list_any}
use Rattle.std.proofs.lemmas.Bool.{eqb-true, cases_lt}
use Rattle.std.proofs.lemmas.Grind.{common_steps}
use Rattle.sq_base.specs.declared.row.Row.{Row}
use Rattle.sq_model.specs.Rows.{is_free}

not_longer : {X : Type 0} (p : X → Bool) (xs : List X) → length (filter (λ x. not (p x)) xs) ≤ length xs
not_longer p [] = omega arith
not_longer p (x ∷ xs) =
    elim (p x) as (λ b. length (cond (not b) (x ∷ filter (λ x. not (p x)) xs) (filter (λ x. not (p x)) xs)) ≤ length (x ∷ xs))
    [ true ↦ omega (arith, not_longer p xs) | false ↦ omega (arith, not_longer p xs) ]

-- what is found is one less when it is taken out
found_shorter : {X : Type 0} (p : X → Bool) (xs : List X) → list_any p xs ≡ true → length (filter (λ x. not (p x)) xs) < length xs
found_shorter p [] h = absurd cc
found_shorter p (x ∷ xs) h =
    elim (p x) as (λ b. p x ≡ b → (b || list_any p xs) ≡ true → length (cond (not b) (x ∷ filter (λ x. not (p x)) xs) (filter (λ x. not (p x)) xs)) < length (x ∷ xs))
    [ true ↦ (λ e k. omega (arith, not_longer p xs)) | false ↦ (λ e k. omega (arith, found_shorter p xs k)) ] refl h

differs : (a j k : ℕ) → nat_eq a k ≡ true → j < k → nat_eq a j ≡ false
differs a j k e lt = let is : a ≡ k = eqb-true a k e in grind (arith, common_steps)

-- a slot is still taken when another one is freed
still_taken : (j k : ℕ) (rows : List Row) → j < k → list_any (λ row. row.slot == j) (filter (λ row. not (row.slot == k)) rows) ≡ list_any (λ row. row.slot == j) rows
still_taken j k [] lt = refl
still_taken j k (row ∷ rows) lt =
    elim (nat_eq row.slot k) as (λ b. nat_eq row.slot k ≡ b → list_any (λ row. row.slot == j) (cond (not b) (row ∷ filter (λ row. not (row.slot == k)) rows) (filter (λ row. not (row.slot == k)) rows)) ≡ list_any (λ row. row.slot == j) (row ∷ rows))
    [ true ↦ (λ e. rw (differs row.slot j k e lt) (still_taken j k rows lt)) | false ↦ (λ e. ap (λ b. nat_eq row.slot j || b) (still_taken j k rows lt)) ] refl

pub not_false : (b : Bool) → not b ≡ false → b ≡ true
not_false true e = refl
not_false false e = absurd cc

-- so many slots are taken by as many rows at least
pub taken_by : (n : ℕ) (rows : List Row) → ((k : ℕ) → k < n → is_free k rows ≡ false) → n ≤ length rows
taken_by zero rows h = omega arith
taken_by (suc n) rows h =
    let in_list : list_any (λ row. row.slot == n) rows ≡ true = not_false _ (h n (omega arith)) in
    let fewer = found_shorter (λ row. row.slot == n) rows in_list in
    let rest = taken_by n (filter (λ row. not (row.slot == n)) rows) (λ k lt. ap not (still_taken k n rows lt) ∙ h k (omega (arith, lt))) in
    omega (arith, fewer, rest)

pub taken_more : (n m : ℕ) (rows : List Row) → n ≤ m → ((k : ℕ) → k < m → is_free k rows ≡ false) → list_any (λ row. row.slot == n) rows ≡ true → (k : ℕ) → k < n + 1 → is_free k rows ≡ false
taken_more n m rows le h in_list k lt =
    elim (cases_lt k n) [ inl low ↦ h k (omega (arith, low)) | inr high ↦ (let same : k ≡ n = omega (arith, high) in rw (same, in_list) refl) ]

taken_next : (n : ℕ) (rows : List Row) → ((k : ℕ) → k < n → is_free k rows ≡ false) → is_free n rows ≡ false → (k : ℕ) → k < suc n → is_free k rows ≡ false
taken_next n rows h in_list k lt =
    elim (cases_lt k n) [ inl low ↦ h k low | inr high ↦ (let same : k ≡ n = omega (arith, high) in rw same in_list) ]

-- one of the first slots is free, or all of them are taken
free_below : (n : ℕ) (rows : List Row) → ((k : ℕ) × (k < n) × (is_free k rows ≡ true)) ⊎ ((k : ℕ) → k < n → is_free k rows ≡ false)
free_below zero rows = inr (λ k lt. absurd (omega (arith, lt)))
free_below (suc n) rows =
    elim (free_below n rows) [
      | inl found ↦ inl (found.0, omega (arith, found.1), found.2)
      | inr taken ↦ elim (is_free n rows) as (λ b. is_free n rows ≡ b → ((k : ℕ) × (k < suc n) × (is_free k rows ≡ true)) ⊎ ((k : ℕ) → k < suc n → is_free k rows ≡ false))
          [ true ↦ (λ e. inl (n, omega arith, e)) | false ↦ (λ e. inr (taken_next n rows taken e)) ] refl
    ]

-- among one slot more than there are rows, one is free
pub free_slot : (rows : List Row) → (slot : ℕ) × (slot ≤ length rows) × (is_free slot rows ≡ true)
free_slot rows =
    elim (free_below (length rows + 1) rows) [
      | inl found ↦ (found.0, omega (arith, found.1), found.2)
      | inr taken ↦ absurd (omega (arith, taken_by (length rows + 1) rows taken))
    ]
