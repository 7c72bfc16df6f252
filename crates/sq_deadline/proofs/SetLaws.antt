-- Deadlines as a set beside a list of rows: what comes in and goes out of a permutation, and what is due of it.
use Rattle.std.proofs.Common.{◌≡◌, ◌≢◌, ℕ, zero, suc, ◌+◌, ◌*◌, ◌<◌, ◌≤◌, Bool, true, false, cond, List, [], ◌∷◌, length, map, filter, take, set, get_or, swap, Some, None, refl, sym, ap, ◌∙◌, subst, arith}
use Rattle.std.specs.Prelude.{◌==◌, ◌||◌, count_by, find, if◌then◌else◌, slice_get, All, Contains, IsPermutation}
use Rattle.std.specs.List.{AllByRecursion, IsDistinct, list_any}
use Rattle.std.proofs.lemmas.Bool.{eq-eqb, eqb-true, or_from, or_left, or_parts}
use Rattle.std.proofs.lemmas.Grind.{common_steps}
use Rattle.std.proofs.lemmas.List.Elements.{All-cons, All-head, All-map, All-nil, All-tail}
use Rattle.std.proofs.lemmas.List.Sorted.{All-permutation, Contains-permutation, IsPermutation-cons, IsPermutation-insert, IsPermutation-keeps, IsPermutation-middle, IsPermutation-refl, IsPermutation-sym, IsPermutation-trans, list_any-IsPermutation}
use Rattle.std.proofs.lemmas.List.Sums.{length-filter}
use Rattle.std.proofs.lemmas.Map.Keys.{IsDistinct-IsPermutation, IsDistinct-cons, IsDistinct-head}
use Rattle.sq_deadline.specs.declared.deadline.Deadline.{Deadline}
use Rattle.sq_deadline.specs.Deadlines.{DeadlinesRise, if_due, is_due, is_other, is_same, key_of, with_deadline}
use Rattle.sq_deadline.specs.inside.Deadlines.{is_this}
use Rattle.sq_deadline.proofs.OrderLaws.{comes_in, counts_more, later, one_if, place_of}

-- ---- lists

pub none_passes : {X : Type 0} (p : X → Bool) (xs : List X) → list_any p xs ≡ false → All (λ x. p x ≡ false) xs
none_passes p [] h = All-nil (λ x. p x ≡ false)
none_passes p (x ∷ xs) h = let parts = or_parts (p x) (list_any p xs) h in All-cons (λ y. p y ≡ false) x xs parts.0 (none_passes p xs parts.1)

pub list_any_map : {X Y : Type 0} (p : Y → Bool) (f : X → Y) (xs : List X) → list_any p (map f xs) ≡ list_any (λ x. p (f x)) xs
list_any_map p f [] = refl
list_any_map p f (x ∷ xs) = ap (λ (b : Bool). p (f x) || b) (list_any_map p f xs)

-- what a list of images has is the image of one that the list has
pub contains_image : {X Y : Type 0} (f : X → Y) (xs : List X) (y : Y) → Contains (map f xs) y → (x : X) × Contains xs x × (f x ≡ y)
contains_image f [] y (k, lt, is) = absurd (omega (arith, lt))
contains_image f (x ∷ xs) y (zero, lt, is) = (x, (zero, omega arith, refl), is)
contains_image f (x ∷ xs) y (suc k, lt, is) =
    let rest = contains_image f xs y (k, omega (arith, lt), is) in
    (rest.0, (suc rest.1.0, omega (arith, rest.1.1), rest.1.2), rest.2)

pub find_passes : {X : Type 0} (p : X → Bool) (xs : List X) (x : X) → find p xs ≡ Some x → Contains xs x × (p x ≡ true)
find_passes p [] x h = absurd cc
find_passes {X} p (y ∷ ys) x h =
    elim (p y) as (λ b. p y ≡ b → cond b (Some y) (find p ys) ≡ Some x → Contains (y ∷ ys) x × (p x ≡ true)) [
      | true ↦ (λ e is. let same : y ≡ x = cc in ((zero, omega arith, same), subst (λ (z : X). p z ≡ true) same e))
      | false ↦ (λ e is. let rest = find_passes p ys x is in ((suc rest.0.0, omega (arith, rest.0.1), rest.0.2), rest.1))
    ] refl h

pub find_none : {X : Type 0} (p : X → Bool) (xs : List X) → find p xs ≡ None → list_any p xs ≡ false
find_none p [] h = refl
find_none p (x ∷ xs) h =
    elim (p x) as (λ b. cond b (Some x) (find p xs) ≡ None → (b || list_any p xs) ≡ false) [
      | true ↦ (λ is. absurd cc)
      | false ↦ (λ is. find_none p xs is)
    ] h

pub filter_none : {X : Type 0} (p : X → Bool) (xs : List X) → list_any p xs ≡ false → filter p xs ≡ []
filter_none p [] h = refl
filter_none p (x ∷ xs) h = let parts = or_parts (p x) (list_any p xs) h in rw parts.0 (filter_none p xs parts.1)

pub count_none : {X : Type 0} (p : X → Bool) (xs : List X) → list_any p xs ≡ false → count_by p xs ≡ 0
count_none p xs h = sym (length-filter p xs) ∙ ap length (filter_none p xs h)

-- ---- lists in another order

-- a relation holds along a permutation where it is reflexive and transitive, and goes under a head and over an exchange of two
module _ {X : Type 0} (R : List X → List X → Type 0) (same : (xs : List X) → R xs xs)
    (under : (x : X) (xs ys : List X) → R xs ys → R (x ∷ xs) (x ∷ ys))
    (turned : (x y : X) (xs : List X) → R (x ∷ y ∷ xs) (y ∷ x ∷ xs))
    (joined : (xs ys zs : List X) → R xs ys → R ys zs → R xs zs) where
  with_head : (xs : List X) (j : ℕ) (x d : X) → j < length xs → R (x ∷ xs) (get_or xs j d ∷ set xs j x)
  with_head [] j x d lt = absurd (omega (arith, lt))
  with_head (y ∷ xs) zero x d lt = turned x y xs
  with_head (y ∷ xs) (suc j) x d lt =
      joined _ _ _ (turned x y xs) (joined _ _ _ (under y _ _ (with_head xs j x d (omega (arith, lt)))) (turned y (get_or xs j d) (set xs j x)))

  exchanged : (xs : List X) (i j : ℕ) (d : X) → i < length xs → j < length xs → R xs (set (set xs i (get_or xs j d)) j (get_or xs i d))
  exchanged [] i j d p q = absurd (omega (arith, p))
  exchanged (x ∷ xs) zero zero d p q = same (x ∷ xs)
  exchanged (x ∷ xs) zero (suc j) d p q = with_head xs j x d (omega (arith, q))
  exchanged (x ∷ xs) (suc i) zero d p q = with_head xs i x d (omega (arith, p))
  exchanged (x ∷ xs) (suc i) (suc j) d p q = under x _ _ (exchanged xs i j d (omega (arith, p)) (omega (arith, q)))

  swapped : (xs : List X) (i j : ℕ) → i < length xs → j < length xs → R xs (swap xs i j)
  swapped [] i j p q = same []
  swapped (x ∷ xs) i j p q = exchanged (x ∷ xs) i j x p q

  pub along_permutation : (xs ys : List X) → IsPermutation xs ys → R xs ys
  along_permutation xs = IsPermutation-keeps xs (R xs) (same xs) (λ l i j p q h. joined xs l _ h (swapped l i j p q))

turned_heads : {X : Type 0} (x y : X) (xs : List X) → IsPermutation (x ∷ y ∷ xs) (y ∷ x ∷ xs)
turned_heads x y xs = IsPermutation-middle (x ∷ []) y xs

pub permutation_filter : {X : Type 0} (p : X → Bool) (xs ys : List X) → IsPermutation xs ys → IsPermutation (filter p xs) (filter p ys)
permutation_filter {X} p = along_permutation (λ (xs ys : List X). IsPermutation (filter p xs) (filter p ys))
    (λ xs. IsPermutation-refl (filter p xs))
    (λ x xs ys h. elim (p x) as (λ b. IsPermutation (cond b (x ∷ filter p xs) (filter p xs)) (cond b (x ∷ filter p ys) (filter p ys))) [
      | true ↦ IsPermutation-cons x _ _ h
      | false ↦ h
    ])
    (λ x y xs. elim (p x) as (λ b. IsPermutation (cond b (x ∷ filter p (y ∷ xs)) (filter p (y ∷ xs))) (cond (p y) (y ∷ cond b (x ∷ filter p xs) (filter p xs)) (cond b (x ∷ filter p xs) (filter p xs)))) [
      | true ↦ elim (p y) as (λ c. IsPermutation (x ∷ cond c (y ∷ filter p xs) (filter p xs)) (cond c (y ∷ x ∷ filter p xs) (x ∷ filter p xs))) [
        | true ↦ turned_heads x y (filter p xs)
        | false ↦ IsPermutation-refl (x ∷ filter p xs)
      ]
      | false ↦ IsPermutation-refl (filter p (y ∷ xs))
    ])
    (λ xs ys zs. IsPermutation-trans _ _ _)

-- ---- one comes in

-- where it is in no place, it is not in this one
in_no_place : (d : Deadline) (ds : List Deadline) (index : ℕ) → list_any (is_same d) ds ≡ false → is_this d (slice_get ds index) ≡ false
in_no_place d [] index h = refl
in_no_place d (x ∷ ds) zero h = (or_parts (is_same d x) (list_any (is_same d) ds) h).0
in_no_place d (x ∷ ds) (suc index) h = in_no_place d ds index (or_parts (is_same d x) (list_any (is_same d) ds) h).1

-- one that is not there comes in once
pub comes_in_once : (d : Deadline) (ds : List Deadline) → list_any (is_same d) ds ≡ false → IsPermutation (d ∷ ds) (with_deadline d ds)
comes_in_once d ds h = subst (IsPermutation (d ∷ ds)) (comes_in d ds (in_no_place d ds (place_of d ds) h)) (IsPermutation-insert ds (place_of d ds) d)

-- ---- one goes out

-- one that is not there takes none with it
pub stays_out : (d : Deadline) (ds : List Deadline) → list_any (is_same d) ds ≡ false → filter (is_other d) ds ≡ ds
stays_out d [] h = refl
stays_out d (x ∷ ds) h =
    let parts = or_parts (is_same d x) (list_any (is_same d) ds) h in
    rw parts.0 (ap (λ (rest : List Deadline). x ∷ rest) (stays_out d ds parts.1))

not_same : (a b : ℕ) → a < b → (b == a) ≡ false
not_same a b lt = grind (arith, common_steps)

flips : (a b : ℕ) → (a == b) ≡ (b == a)
flips a b = grind (arith, common_steps)

-- a lower one is none of them
is_none_of : (d : Deadline) (low : ℕ) (ds : List Deadline) → key_of d < low → DeadlinesRise low ds → AllByRecursion (λ e. is_same d e ≡ false) ds
is_none_of d low [] lt h = tt
is_none_of d low (x ∷ ds) lt h = (not_same (key_of d) (key_of x) (omega (arith, lt, h.0)), is_none_of d (key_of x + 1) ds (omega (arith, lt, h.0)) h.2)

-- each stands once
pub stand_once : (low : ℕ) (ds : List Deadline) → DeadlinesRise low ds → IsDistinct is_same ds
unfolding IsDistinct
stand_once low [] h = tt
stand_once low (x ∷ ds) h = IsDistinct-cons is_same x ds (is_none_of x (key_of x + 1) ds (omega arith) h.2) (stand_once (key_of x + 1) ds h.2)

-- where they stand in order, the rest has no deadline that one of them is
pub is_not_in_rest : (low : ℕ) (d : Deadline) (rest ds : List Deadline) → DeadlinesRise low ds → IsPermutation (d ∷ rest) ds → list_any (is_same d) rest ≡ false
is_not_in_rest low d rest ds h same =
    let once = IsDistinct-IsPermutation is_same (λ a b. flips (key_of b) (key_of a)) ds (d ∷ rest) (IsPermutation-sym _ _ same) (stand_once low ds h) in
    none_of rest (IsDistinct-head is_same d rest once)
  where
    none_of : (es : List Deadline) → AllByRecursion (λ e. is_same d e ≡ false) es → list_any (is_same d) es ≡ false
    none_of [] h = refl
    none_of (e ∷ es) h = or_from (is_same d e) (list_any (is_same d) es) h.0 (none_of es h.1)

-- one that is there goes out, and no other
pub goes_out : (low : ℕ) (d : Deadline) (rest ds : List Deadline) → DeadlinesRise low ds → IsPermutation (d ∷ rest) ds → IsPermutation rest (filter (is_other d) ds)
goes_out low d rest ds h same =
    let itself : is_same d d ≡ true = eq-eqb (key_of d) (key_of d) refl in
    let left : filter (is_other d) (d ∷ rest) ≡ rest = rw itself (stays_out d rest (is_not_in_rest low d rest ds h same)) in
    subst (λ (es : List Deadline). IsPermutation es (filter (is_other d) ds)) left (permutation_filter (is_other d) (d ∷ rest) ds same)

-- what is one of them is there
pub is_there : (d : Deadline) (rest ds : List Deadline) → IsPermutation (d ∷ rest) ds → list_any (is_same d) ds ≡ true
is_there d rest ds same = sym (list_any-IsPermutation (is_same d) (d ∷ rest) ds same) ∙ or_left (is_same d d) (list_any (is_same d) rest) (eq-eqb (key_of d) (key_of d) refl)

-- ---- what is there

slot_of : (x y s t : ℕ) → s < 4294967296 → t < 4294967296 → x * 4294967296 + s ≡ y * 4294967296 + t → s ≡ t
slot_of x y s t a b e = omega (arith, a, b, e)

-- those of other slots are others
pub is_of_no_slot : (low : ℕ) (d : Deadline) (ds : List Deadline) → DeadlinesRise low ds → d.slot < 4294967296 → All (λ e. e.slot ≢ d.slot) ds → list_any (is_same d) ds ≡ false
is_of_no_slot low d [] h fits others = refl
is_of_no_slot low d (x ∷ ds) h fits others =
    or_from (is_same d x) (list_any (is_same d) ds) (other (is_same d x) refl) (is_of_no_slot (key_of x + 1) d ds h.2 fits (All-tail (λ e. e.slot ≢ d.slot) x ds others))
  where
    other : (b : Bool) → is_same d x ≡ b → b ≡ false
    other false e = refl
    other true e = absurd (All-head (λ e. e.slot ≢ d.slot) x ds others (slot_of x.moment d.moment x.slot d.slot h.1 fits (eqb-true (key_of x) (key_of d) e)))

-- where no row has its slot, a deadline is not there
pub is_absent : {X : Type 0} (low : ℕ) (d : Deadline) (ds : List Deadline) (key : X → Deadline) (rows : List X) → DeadlinesRise low ds → d.slot < 4294967296 → All (λ x. (key x).slot ≢ d.slot) rows → IsPermutation (map key rows) ds → list_any (is_same d) ds ≡ false
is_absent low d ds key rows h fits others same =
    is_of_no_slot low d ds h fits (All-permutation (λ e. e.slot ≢ d.slot) (map key rows) ds same (All-map (λ e. e.slot ≢ d.slot) key rows others))

-- what is found is the deadline of a row
pub found : {X : Type 0} (p : Deadline → Bool) (d : Deadline) (ds : List Deadline) (key : X → Deadline) (rows : List X) → find p ds ≡ Some d → IsPermutation (map key rows) ds → (x : X) × Contains rows x × (key x ≡ d) × (p d ≡ true)
found p d ds key rows h same =
    let it = find_passes p ds d h in
    let row = contains_image key rows d (Contains-permutation ds (map key rows) d (IsPermutation-sym (map key rows) ds same) it.0) in
    (row.0, row.1, row.2, it.1)

-- where none is found, no row's deadline passes
pub none_found : {X : Type 0} (p : Deadline → Bool) (ds : List Deadline) (key : X → Deadline) (rows : List X) → find p ds ≡ None → IsPermutation (map key rows) ds → list_any (λ x. p (key x)) rows ≡ false
none_found p ds key rows h same = sym (list_any_map p key rows) ∙ list_any-IsPermutation p (map key rows) ds same ∙ find_none p ds h

-- ---- what is due

-- where one is not due, none after it is
pub none_due_after : (m : ℕ) (x : Deadline) (ds : List Deadline) → is_due m x ≡ false → DeadlinesRise (key_of x + 1) ds → list_any (is_due m) ds ≡ false
none_due_after m x [] late h = refl
none_due_after m x (y ∷ ds) late h = let late_too = later m x.moment y.moment x.slot y.slot late h.1 h.0 in or_from (is_due m y) (list_any (is_due m) ds) late_too (none_due_after m y ds late_too h.2)

is_late : (m : ℕ) (x : Deadline) → if_due m (Some x) ≡ None → is_due m x ≡ false
is_late m x none = elim (is_due m x) as (λ b. (if b then Some x else None) ≡ None → b ≡ false) [ true ↦ (λ is. absurd cc) | false ↦ (λ is. refl) ] none

is_early : (m : ℕ) (d x : Deadline) → if_due m (Some x) ≡ Some d → is_due m x ≡ true
is_early m d x some = elim (is_due m x) as (λ b. (if b then Some x else None) ≡ Some d → b ≡ true) [ true ↦ (λ is. refl) | false ↦ (λ is. absurd cc) ] some

-- where one is due at an index, it is the one that stands there
pub due_at : (m : ℕ) (d : Deadline) (ds : List Deadline) (index : ℕ) → if_due m (slice_get ds index) ≡ Some d → (slice_get ds index ≡ Some d) × (is_due m d ≡ true)
due_at m d [] index h = absurd cc
due_at m d (x ∷ ds) zero h =
    elim (is_due m x) as (λ b. is_due m x ≡ b → (if b then Some x else None) ≡ Some d → (Some x ≡ Some d) × (is_due m d ≡ true)) [
      | true ↦ (λ e is. let same : x ≡ d = cc in (is, subst (λ (y : Deadline). is_due m y ≡ true) same e))
      | false ↦ (λ e is. absurd cc)
    ] refl h
due_at m d (x ∷ ds) (suc index) h = due_at m d ds index h

-- a place of one that is due is among the first so many as are due
pub due_is_counted : (m low : ℕ) (d : Deadline) (ds : List Deadline) (index : ℕ) → DeadlinesRise low ds → if_due m (slice_get ds index) ≡ Some d → index < count_by (is_due m) ds
due_is_counted m low d [] index h is = absurd cc
due_is_counted m low d (x ∷ ds) zero h is = let one : one_if (is_due m x) ≡ 1 = ap one_if (is_early m d x is) in omega (arith, one, counts_more (is_due m) x ds)
due_is_counted m low d (x ∷ ds) (suc index) h is =
    let rest = due_is_counted m (key_of x + 1) d ds index h.2 is in
    elim (is_due m x) as (λ b. is_due m x ≡ b → suc index < count_by (is_due m) (x ∷ ds)) [
      | true ↦ (λ e. let one : one_if (is_due m x) ≡ 1 = ap one_if e in omega (arith, rest, one, counts_more (is_due m) x ds))
      | false ↦ (λ e. absurd (omega (arith, rest, count_none (is_due m) ds (none_due_after m x ds e h.2))))
    ] refl

at_most_one : (b : Bool) → one_if b ≤ 1
at_most_one true = omega arith
at_most_one false = omega arith

-- a place of none that is due is past them
pub none_due_is_past : (m low : ℕ) (ds : List Deadline) (index : ℕ) → DeadlinesRise low ds → if_due m (slice_get ds index) ≡ None → count_by (is_due m) ds ≤ index
none_due_is_past m low [] index h none = omega arith
none_due_is_past m low (x ∷ ds) zero h none =
    let late = is_late m x none in
    let no : one_if (is_due m x) ≡ 0 = ap one_if late in
    omega (arith, no, counts_more (is_due m) x ds, count_none (is_due m) ds (none_due_after m x ds late h.2))
none_due_is_past m low (x ∷ ds) (suc index) h none =
    omega (arith, none_due_is_past m (key_of x + 1) ds index h.2 none, counts_more (is_due m) x ds, at_most_one (is_due m x))

-- what is due stands first
pub due_first : (m low : ℕ) (ds : List Deadline) → DeadlinesRise low ds → filter (is_due m) ds ≡ take (count_by (is_due m) ds) ds
due_first m low [] h = refl
due_first m low (x ∷ ds) h =
    elim (is_due m x) as (λ b. is_due m x ≡ b → cond b (x ∷ filter (is_due m) ds) (filter (is_due m) ds) ≡ take (count_by (is_due m) (x ∷ ds)) (x ∷ ds)) [
      | true ↦ (λ e.
          let more : count_by (is_due m) (x ∷ ds) ≡ suc (count_by (is_due m) ds) = let one : one_if (is_due m x) ≡ 1 = ap one_if e in omega (arith, one, counts_more (is_due m) x ds) in
          ap (λ (rest : List Deadline). x ∷ rest) (due_first m (key_of x + 1) ds h.2) ∙ ap (λ (n : ℕ). take n (x ∷ ds)) (sym more))
      | false ↦ (λ e.
          let none = none_due_after m x ds e h.2 in
          let no_more : count_by (is_due m) (x ∷ ds) ≡ 0 = let no : one_if (is_due m x) ≡ 0 = ap one_if e in omega (arith, no, counts_more (is_due m) x ds, count_none (is_due m) ds none) in
          filter_none (is_due m) ds none ∙ ap (λ (n : ℕ). take n (x ∷ ds)) (sym no_more))
    ] refl
