-- What stays of a list that is filtered.
use Rattle.std.specs.Prelude.{◌≡◌, Bool, true, false, cond, List, [], ◌∷◌, map, filter, refl}
use Rattle.std.specs.List.{AllByRecursion}
use Rattle.std.proofs.Common.{ap}

pub all_filter : {X : Type 0} (P : X → Type 0) (p : X → Bool) (xs : List X) → AllByRecursion P xs → AllByRecursion P (filter p xs)
all_filter P p [] h = h
all_filter P p (x ∷ xs) h = elim (p x) as (λ v. AllByRecursion P (cond v (x ∷ filter p xs) (filter p xs))) [ true ↦ (h.0, all_filter P p xs h.1) | false ↦ all_filter P p xs h.1 ]

pub filter_under : {X Y : Type 0} (f : X → Y) (p : Y → Bool) (xs : List X) → map f (filter (λ x. p (f x)) xs) ≡ filter p (map f xs)
filter_under f p [] = refl
filter_under f p (x ∷ xs) =
    let rest = filter_under f p xs in
    elim (p (f x)) as (λ v. map f (cond v (x ∷ filter (λ x. p (f x)) xs) (filter (λ x. p (f x)) xs)) ≡ cond v (f x ∷ filter p (map f xs)) (filter p (map f xs))) [ true ↦ ap (λ ys. f x ∷ ys) rest | false ↦ rest ]

-- two tests may be made in either order
pub filter_swap : {X : Type 0} (p q : X → Bool) (xs : List X) → filter p (filter q xs) ≡ filter q (filter p xs)
filter_swap p q [] = refl
filter_swap p q (x ∷ xs) =
    let rest = filter_swap p q xs in
    elim (p x) as (λ v. p x ≡ v → filter p (cond (q x) (x ∷ filter q xs) (filter q xs)) ≡ filter q (cond v (x ∷ filter p xs) (filter p xs))) [
      | true ↦ (λ e. elim (q x) as (λ w. q x ≡ w → filter p (cond w (x ∷ filter q xs) (filter q xs)) ≡ filter q (x ∷ filter p xs)) [ true ↦ (λ d. rw (e, d) (ap (λ ys. x ∷ ys) rest)) | false ↦ (λ d. rw d rest) ] refl)
      | false ↦ (λ e. elim (q x) as (λ w. filter p (cond w (x ∷ filter q xs) (filter q xs)) ≡ filter q (filter p xs)) [ true ↦ rw e rest | false ↦ rest ])
    ] refl
