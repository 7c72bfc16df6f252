-- What a stable sort leaves in order.
use Rattle.std.specs.Prelude.{◌≡◌, ℕ, ◌+◌, ◌<◌, Bool, true, false, cond, List, [], ◌∷◌, length, map, filter, refl}
use Rattle.std.specs.List.{AllByRecursion, slice_index_or}
use Rattle.std.specs.List.Sorted.{IsSortedBy, IsStableBy, ties}
use Rattle.std.specs.Cmp.{IsStrictWeakOrder}
use Rattle.std.proofs.Common.{zero, suc, arith, add-one, sym, ap, ◌∙◌, subst}
use Rattle.std.proofs.lemmas.List.Sorted.{sorted_far}
use Rattle.std.proofs.lemmas.List.Elements.{recursion_from_All}
use Rattle.sq_model.specs.Merges.{InOrder}
use Rattle.sq_steps.proofs.FilterLaws.{all_filter, filter_swap}

order_filter : {X : Type 0} (lt : X → X → Bool) (p : X → Bool) (xs : List X) → InOrder lt xs → InOrder lt (filter p xs)
order_filter lt p [] h = h
order_filter lt p (x ∷ xs) h = elim (p x) as (λ v. InOrder lt (cond v (x ∷ filter p xs) (filter p xs))) [ true ↦ (all_filter (λ y. lt y x ≡ false) p xs h.0, order_filter lt p xs h.1) | false ↦ order_filter lt p xs h.1 ]

all_under : {X Y : Type 0} (f : X → Y) (P : Y → Type 0) (xs : List X) → AllByRecursion P (map f xs) → AllByRecursion (λ x. P (f x)) xs
all_under f P [] h = tt
all_under f P (x ∷ xs) h = (h.0, all_under f P xs h.1)

all_over : {X Y : Type 0} (f : X → Y) (P : Y → Type 0) (xs : List X) → AllByRecursion (λ x. P (f x)) xs → AllByRecursion P (map f xs)
all_over f P [] h = tt
all_over f P (x ∷ xs) h = (h.0, all_over f P xs h.1)

-- the order of what a list is mapped to is that of the list
pub order_under : {X Y : Type 0} (f : X → Y) (lt : Y → Y → Bool) (xs : List X) → InOrder lt (map f xs) → InOrder (λ x y. lt (f x) (f y)) xs
order_under f lt [] h = tt
order_under f lt (x ∷ xs) h = (all_under f (λ y. lt y (f x) ≡ false) xs h.0, order_under f lt xs h.1)

pub order_over : {X Y : Type 0} (f : X → Y) (lt : Y → Y → Bool) (xs : List X) → InOrder (λ x y. lt (f x) (f y)) xs → InOrder lt (map f xs)
order_over f lt [] h = tt
order_over f lt (x ∷ xs) h = (all_over f (λ y. lt y (f x) ≡ false) xs h.0, order_over f lt xs h.1)

neighbours : {X : Type 0} (lt : X → X → Bool) (xs : List X) (k : ℕ) (d : X) → InOrder lt xs → k + 1 < length xs → lt (slice_index_or xs (k + 1) d) (slice_index_or xs k d) ≡ false
neighbours lt [] k d h high = absurd (omega arith)
neighbours lt (x ∷ []) k d h high = absurd (omega arith)
neighbours lt (x ∷ y ∷ r) zero d h high = h.0.0
neighbours lt (x ∷ y ∷ r) (suc k) d h high = rw (add-one (suc k)) (rw (add-one k) at (neighbours lt (y ∷ r) k d h.1 (omega arith)))

pub sorted_from : {X : Type 0} (lt : X → X → Bool) (xs : List X) → InOrder lt xs → IsSortedBy lt xs
sorted_from lt xs h k d low high = neighbours lt xs k d h high

module _ {X : Type 0} (lt : X → X → Bool) (o : IsStrictWeakOrder lt) where
  irrefl : (x : X) → lt x x ≡ false
  irrefl x = elim (lt x x) as (λ v. lt x x ≡ v → v ≡ false) [ true ↦ (λ e. sym e ∙ o.one_way x x e) | false ↦ (λ e. refl) ] refl

  less_through : (x b y : X) → lt x y ≡ true → lt b y ≡ false → lt x b ≡ true
  less_through x b y h g = elim (lt x b) as (λ v. lt x b ≡ v → v ≡ true) [ true ↦ (λ e. refl) | false ↦ (λ e. let k = o.chain x b y e g in cc) ] refl

  none_tie : (x y : X) (bs : List X) → lt x y ≡ true → AllByRecursion (λ b. lt b y ≡ false) bs → filter (ties lt x) bs ≡ []
  none_tie x y [] h all = refl
  none_tie x y (b ∷ bs) h all = rw (less_through x b y h all.0) (none_tie x y bs h all.1)

  head_tie : (x y : X) (xs ys : List X) → InOrder lt (y ∷ ys) → filter (ties lt x) (x ∷ xs) ≡ filter (ties lt x) (y ∷ ys) → lt x y ≡ false
  head_tie x y xs ys r same =
      elim (lt x y) as (λ v. lt x y ≡ v → v ≡ false) [
        | true ↦ (λ e. let k = rw (irrefl x, e) at same in let n = none_tie x y ys e r.0 in cc)
        | false ↦ (λ e. refl)
      ] refl

  -- two lists in order are one, where those that tie stand alike
  sorted_same : (xs ys : List X) → InOrder lt xs → InOrder lt ys → ((z : X) → filter (ties lt z) xs ≡ filter (ties lt z) ys) → xs ≡ ys
  sorted_same [] [] r s h = refl
  sorted_same [] (y ∷ ys) r s h = let k = rw (irrefl y) at (h y) in cc
  sorted_same (x ∷ xs) [] r s h = let k = rw (irrefl x) at (h x) in cc
  sorted_same (x ∷ xs) (y ∷ ys) r s h =
      let a = head_tie x y xs ys s (h x) in
      let b = head_tie y x ys xs r (sym (h y)) in
      let heads = rw (irrefl x, a, b) at (h x) in
      let e : x ≡ y = cc in
      let rest : xs ≡ ys = sorted_same xs ys r.1 s.1 (λ z.
      elim (ties lt z x) as (λ v. cond v (x ∷ filter (ties lt z) xs) (filter (ties lt z) xs) ≡ cond v (x ∷ filter (ties lt z) ys) (filter (ties lt z) ys) → filter (ties lt z) xs ≡ filter (ties lt z) ys)
      [ true ↦ (λ k. cc) | false ↦ (λ k. k) ]
      (subst (λ (w : X). cond (ties lt z x) (x ∷ filter (ties lt z) xs) (filter (ties lt z) xs) ≡ cond (ties lt z w) (w ∷ filter (ties lt z) ys) (filter (ties lt z) ys)) (sym e) (h z))) in
      cc

  pub order_from : (xs : List X) → IsSortedBy lt xs → InOrder lt xs
  order_from [] up = tt
  order_from (x ∷ xs) up = (recursion_from_All (λ y. lt y x ≡ false) xs (λ k d h. sorted_far lt o (x ∷ xs) up 0 (suc k) d (omega arith) (omega arith)), order_from xs (λ k d h g. rw (add-one k) (rw (add-one (suc k)) at (up (suc k) d (omega arith) (omega arith)))))

  -- a part that was in order before a stable sort is the same after it
  pub part_stays : (p : X → Bool) (xs ys : List X) → InOrder lt (filter p xs) → IsSortedBy lt ys → IsStableBy lt xs ys → filter p ys ≡ filter p xs
  part_stays p xs ys before by_stamp stable =
      sorted_same (filter p ys) (filter p xs) (order_filter lt p ys (order_from ys by_stamp)) before
      (λ z. filter_swap (ties lt z) p ys ∙ ap (filter p) (stable z) ∙ sym (filter_swap (ties lt z) p xs))
