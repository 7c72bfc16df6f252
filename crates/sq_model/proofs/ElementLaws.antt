-- What stands where in a list.
use Rattle.std.proofs.Common.{◌≡◌, ◌≢◌, ◌⊎◌, ℕ, zero, suc, ◌<◌, List, [], ◌∷◌, ◌++◌, length, map, refl, ap, sym, ◌∙◌, inl, inr, arith, Some, slice_get, slice_set, ◌+◌, subst}
use Rattle.std.proofs.lemmas.Bool.Decides.{eqb_tells}
use Rattle.std.specs.List.{AllByRecursion}

pub get_old : {X : Type 0} (xs : List X) (x y : X) (k : ℕ) → slice_get xs k ≡ Some y → slice_get (xs ++ x ∷ []) k ≡ Some y
get_old [] x y k h = absurd cc
get_old (z ∷ zs) x y zero h = h
get_old (z ∷ zs) x y (suc k) h = get_old zs x y k h

pub get_new : {X : Type 0} (xs : List X) (x : X) → slice_get (xs ++ x ∷ []) (length xs) ≡ Some x
get_new [] x = refl
get_new (z ∷ zs) x = get_new zs x

pub get_cases : {X : Type 0} (xs : List X) (x y : X) (k : ℕ) → slice_get (xs ++ x ∷ []) k ≡ Some y → (slice_get xs k ≡ Some y) ⊎ ((k ≡ length xs) × (y ≡ x))
get_cases [] x y zero h = inr (refl, cc)
get_cases [] x y (suc k) h = absurd cc
get_cases (z ∷ zs) x y zero h = inl h
get_cases (z ∷ zs) x y (suc k) h = elim (get_cases zs x y k h) [ inl g ↦ inl g | inr g ↦ inr (ap suc g.0, g.1) ]

pub get_within : {X : Type 0} (xs : List X) (k : ℕ) → k < length xs → (x : X) × (slice_get xs k ≡ Some x)
get_within [] k lt = absurd (omega (arith, lt))
get_within (z ∷ zs) zero lt = (z, refl)
get_within (z ∷ zs) (suc k) lt = get_within zs k (omega (arith, lt))

pub get_map : {X Y : Type 0} (f : X → Y) (xs : List X) (k : ℕ) (x : X) → slice_get xs k ≡ Some x → slice_get (map f xs) k ≡ Some (f x)
get_map f [] k x h = absurd cc
get_map f (z ∷ zs) zero x h = let e : z ≡ x = cc in ap (λ y. Some (f y)) e
get_map f (z ∷ zs) (suc k) x h = get_map f zs k x h

pub get_mapped : {X Y : Type 0} (f : X → Y) (xs : List X) (k : ℕ) (y : Y) → slice_get (map f xs) k ≡ Some y → (x : X) × (slice_get xs k ≡ Some x) × (y ≡ f x)
get_mapped f [] k y h = absurd cc
get_mapped f (z ∷ zs) zero y h = (z, refl, let e : f z ≡ y = cc in sym e)
get_mapped f (z ∷ zs) (suc k) y h = get_mapped f zs k y h

pub some_same : {X : Type 0} {x y : X} → Some x ≡ Some y → x ≡ y
some_same {X} {x} {y} e = cc

pub get_same : {X : Type 0} (xs : List X) (i : ℕ) (old new : X) → slice_get xs i ≡ Some old → slice_get (slice_set xs i new) i ≡ Some new
get_same [] i old new h = absurd cc
get_same (x ∷ xs) zero old new h = refl
get_same (x ∷ xs) (suc i) old new h = get_same xs i old new h

pub get_other : {X : Type 0} (xs : List X) (i j : ℕ) (new : X) → i ≢ j → slice_get (slice_set xs i new) j ≡ slice_get xs j
get_other [] i j new ne = refl
get_other (x ∷ xs) zero zero new ne = absurd (ne refl)
get_other (x ∷ xs) zero (suc j) new ne = refl
get_other (x ∷ xs) (suc i) zero new ne = refl
get_other (x ∷ xs) (suc i) (suc j) new ne = get_other xs i j new (λ e. ne (ap suc e))

-- another element in the place of one that was there
pub set_cases : {X : Type 0} (xs : List X) (i j : ℕ) (old new y : X) → slice_get xs i ≡ Some old → slice_get (slice_set xs i new) j ≡ Some y → ((i ≢ j) × (slice_get xs j ≡ Some y)) ⊎ ((i ≡ j) × (y ≡ new))
set_cases xs i j old new y in_list h = elim (eqb_tells i j) as (λ _. ((i ≢ j) × (slice_get xs j ≡ Some y)) ⊎ ((i ≡ j) × (y ≡ new))) [
  | inl p ↦ inr (p.1, some_same (sym h ∙ ap (slice_get (slice_set xs i new)) (sym p.1) ∙ get_same xs i old new in_list))
  | inr p ↦ inl (p.1, sym (get_other xs i j new p.1) ∙ h)
]

-- what stood there before
pub set_kept : {X : Type 0} (xs : List X) (i j : ℕ) (old new x : X) → slice_get xs i ≡ Some old → slice_get xs j ≡ Some x → ((i ≢ j) × (slice_get (slice_set xs i new) j ≡ Some x)) ⊎ ((i ≡ j) × (x ≡ old) × (slice_get (slice_set xs i new) j ≡ Some new))
set_kept xs i j old new x in_list h = elim (eqb_tells i j) as (λ _. ((i ≢ j) × (slice_get (slice_set xs i new) j ≡ Some x)) ⊎ ((i ≡ j) × (x ≡ old) × (slice_get (slice_set xs i new) j ≡ Some new))) [
  | inl p ↦ inr (p.1, some_same (sym h ∙ ap (slice_get xs) (sym p.1) ∙ in_list), ap (slice_get (slice_set xs i new)) (sym p.1) ∙ get_same xs i old new in_list)
  | inr p ↦ inl (p.1, get_other xs i j new p.1 ∙ h)
]

at_or_below : (i j : ℕ) → j < i + 1 → (j ≡ i) ⊎ (j < i)
at_or_below i j lt = elim (eqb_tells j i) as (λ _. (j ≡ i) ⊎ (j < i)) [ inl p ↦ inl p.1 | inr p ↦ inr (let ne : j ≢ i = p.1 in omega (arith, lt)) ]

-- what holds below i and at i holds below the next
pub below_more : (P : ℕ → Type 0) (i : ℕ) → ((j : ℕ) → j < i → P j) → P i → (j : ℕ) → j < i + 1 → P j
below_more P i before here j lt = elim (at_or_below i j lt) as (λ _. P j) [ inl e ↦ subst P (sym e) here | inr k ↦ before j k ]

pub all_get : {X : Type 0} (P : X → Type 0) (xs : List X) → AllByRecursion P xs → (k : ℕ) (x : X) → slice_get xs k ≡ Some x → P x
all_get P [] all k x h = absurd cc
all_get P (z ∷ zs) all zero x h = subst P (some_same h) all.0
all_get P (z ∷ zs) all (suc k) x h = all_get P zs all.1 k x h
