-- Deadlines in rising order: where one stands, comes in and goes out.
use Rattle.std.proofs.Common.{◌≡◌, ℕ, zero, suc, ◌+◌, ◌*◌, ◌<◌, ◌≤◌, Bool, true, false, not, cond, List, [], ◌∷◌, length, filter, Some, None, refl, sym, ap, arith}
use Rattle.std.specs.Prelude.{◌==◌, ◌&&◌, if◌then◌else◌, count_by, nat_le, nat_lt, find, slice_get}
use Rattle.std.specs.List.{insert, position_or_len, remove}
use Rattle.std.proofs.lemmas.Grind.{common_steps}
use Rattle.std.proofs.lemmas.List.Sums.{sum_by-cons}
use Rattle.sq_deadline.specs.declared.deadline.Deadline.{Deadline}
use Rattle.sq_deadline.specs.Deadlines.{DeadlinesRise, if_due, is_above, is_due, is_other, is_same, key_of, with_deadline}
use Rattle.sq_deadline.specs.inside.Deadlines.{is_not_below, is_this}

-- where the first one stands that is not below this one
abbrev pub place_of : Deadline → List Deadline → ℕ
place_of d ds = position_or_len (is_not_below d) ds

next_place : (n : ℕ) → 1 + n ≡ suc n
next_place n = omega arith

is_below : (a b : ℕ) → nat_lt a b ≡ true → nat_le b a ≡ false
is_below a b h = grind (arith, common_steps, h)

is_from : (a b : ℕ) → nat_lt a b ≡ false → nat_le b a ≡ true
is_from a b h = grind (arith, common_steps, h)

-- ---- one comes in

not_same : (a b : ℕ) → a < b → (b == a) ≡ false
not_same a b h = grind (arith, common_steps)

not_below : (a b : ℕ) → nat_lt a b ≡ true → (a == b) ≡ false
not_below a b h = grind (arith, common_steps, h)

-- where it is not there, it stands after those below it
pub comes_in : (d : Deadline) (ds : List Deadline) → is_this d (slice_get ds (place_of d ds)) ≡ false → insert ds (place_of d ds) d ≡ with_deadline d ds
comes_in d [] h = refl
comes_in d (x ∷ ds) h =
    elim (nat_lt (key_of x) (key_of d)) as (λ b. nat_lt (key_of x) (key_of d) ≡ b → insert (x ∷ ds) (place_of d (x ∷ ds)) d ≡ (if b then x ∷ with_deadline d ds else if is_same d x then x ∷ ds else d ∷ x ∷ ds)) [
      | true ↦ (λ e. let below = is_below (key_of x) (key_of d) e in
          rw (below, next_place (place_of d ds)) (ap (λ (rest : List Deadline). x ∷ rest) (comes_in d ds (rw (below, next_place (place_of d ds)) at h))))
      | false ↦ (λ e. let from = is_from (key_of x) (key_of d) e in
          let other : is_same d x ≡ false = rw from at h in
          rw (from, other) refl)
    ] refl

-- where it is there, nothing changes
pub stays : (d : Deadline) (ds : List Deadline) → is_this d (slice_get ds (place_of d ds)) ≡ true → ds ≡ with_deadline d ds
stays d [] h = absurd cc
stays d (x ∷ ds) h =
    elim (nat_lt (key_of x) (key_of d)) as (λ b. nat_lt (key_of x) (key_of d) ≡ b → x ∷ ds ≡ (if b then x ∷ with_deadline d ds else if is_same d x then x ∷ ds else d ∷ x ∷ ds)) [
      | true ↦ (λ e. let below = is_below (key_of x) (key_of d) e in ap (λ (rest : List Deadline). x ∷ rest) (stays d ds (rw (below, next_place (place_of d ds)) at h)))
      | false ↦ (λ e. let from = is_from (key_of x) (key_of d) e in
          let same : is_same d x ≡ true = rw from at h in
          rw same refl)
    ] refl

above_only : (a b : ℕ) → nat_lt a b ≡ false → (a == b) ≡ false → b < a
above_only a b h other = grind (arith, common_steps, h, other)

below_only : (a b : ℕ) → nat_lt a b ≡ true → a < b
below_only a b h = grind (arith, common_steps, h)

pub rise_with : (low : ℕ) (d : Deadline) (ds : List Deadline) → low ≤ key_of d → d.slot < 4294967296 → DeadlinesRise low ds → DeadlinesRise low (with_deadline d ds)
rise_with low d [] le slot h = (le, slot, tt)
rise_with low d (x ∷ ds) le slot h =
    elim (nat_lt (key_of x) (key_of d)) as (λ b. nat_lt (key_of x) (key_of d) ≡ b → DeadlinesRise low (if b then x ∷ with_deadline d ds else if is_same d x then x ∷ ds else d ∷ x ∷ ds)) [
      | true ↦ (λ e. let lt = below_only (key_of x) (key_of d) e in (h.0, h.1, rise_with (key_of x + 1) d ds (omega (arith, lt)) slot h.2))
      | false ↦ (λ e. elim (is_same d x) as (λ b. is_same d x ≡ b → DeadlinesRise low (if b then x ∷ ds else d ∷ x ∷ ds)) [
        | true ↦ (λ f. h)
        | false ↦ (λ f. let lt = above_only (key_of x) (key_of d) e f in (le, slot, (omega (arith, lt), h.1, h.2)))
      ] refl)
    ] refl

-- ---- one goes out

-- none is there that is below them all
none_there : (low : ℕ) (d : Deadline) (ds : List Deadline) → key_of d < low → DeadlinesRise low ds → filter (is_other d) ds ≡ ds
none_there low d [] lt h = refl
none_there low d (x ∷ ds) lt h = rw (not_same (key_of d) (key_of x) (omega (arith, lt, h.0))) (ap (λ (rest : List Deadline). x ∷ rest) (none_there (key_of x + 1) d ds (omega (arith, lt, h.0)) h.2))

same_key : (a b : ℕ) → nat_le b a ≡ true → b < a + 1
same_key a b h = grind (arith, common_steps, h)

pub goes_out : (low : ℕ) (d : Deadline) (ds : List Deadline) → DeadlinesRise low ds → is_this d (slice_get ds (place_of d ds)) ≡ true → remove ds (place_of d ds) ≡ filter (is_other d) ds
goes_out low d [] h there = absurd cc
goes_out low d (x ∷ ds) h there =
    elim (nat_lt (key_of x) (key_of d)) as (λ b. nat_lt (key_of x) (key_of d) ≡ b → remove (x ∷ ds) (place_of d (x ∷ ds)) ≡ filter (is_other d) (x ∷ ds)) [
      | true ↦ (λ e. let below = is_below (key_of x) (key_of d) e in
          rw (not_below (key_of x) (key_of d) e, below, next_place (place_of d ds)) (ap (λ (rest : List Deadline). x ∷ rest) (goes_out (key_of x + 1) d ds h.2 (rw (below, next_place (place_of d ds)) at there))))
      | false ↦ (λ e. let from = is_from (key_of x) (key_of d) e in
          let same : is_same d x ≡ true = rw from at there in
          rw (from, same) (sym (none_there (key_of x + 1) d ds (same_key (key_of x) (key_of d) from) h.2)))
    ] refl

pub is_not_there : (low : ℕ) (d : Deadline) (ds : List Deadline) → DeadlinesRise low ds → is_this d (slice_get ds (place_of d ds)) ≡ false → ds ≡ filter (is_other d) ds
is_not_there low d [] h none = refl
is_not_there low d (x ∷ ds) h none =
    elim (nat_lt (key_of x) (key_of d)) as (λ b. nat_lt (key_of x) (key_of d) ≡ b → x ∷ ds ≡ filter (is_other d) (x ∷ ds)) [
      | true ↦ (λ e. let below = is_below (key_of x) (key_of d) e in
          rw (not_below (key_of x) (key_of d) e) (ap (λ (rest : List Deadline). x ∷ rest) (is_not_there (key_of x + 1) d ds h.2 (rw (below, next_place (place_of d ds)) at none))))
      | false ↦ (λ e. let from = is_from (key_of x) (key_of d) e in
          let other : is_same d x ≡ false = rw from at none in
          rw other (ap (λ (rest : List Deadline). x ∷ rest) (sym (none_there (key_of x + 1) d ds (same_key (key_of x) (key_of d) from) h.2))))
    ] refl

pub rise_later : (low high : ℕ) (ds : List Deadline) → low ≤ high → DeadlinesRise high ds → DeadlinesRise low ds
rise_later low high [] le h = tt
rise_later low high (x ∷ ds) le h = (omega (arith, le, h.0), h.1, h.2)

pub rise_without : (low : ℕ) (d : Deadline) (ds : List Deadline) → DeadlinesRise low ds → DeadlinesRise low (filter (is_other d) ds)
rise_without low d [] h = tt
rise_without low d (x ∷ ds) h =
    elim (is_other d x) as (λ b. DeadlinesRise low (cond b (x ∷ filter (is_other d) ds) (filter (is_other d) ds))) [
      | true ↦ (h.0, h.1, rise_without (key_of x + 1) d ds h.2)
      | false ↦ rise_later low (key_of x + 1) (filter (is_other d) ds) (omega (arith, h.0)) (rise_without (key_of x + 1) d ds h.2)
    ]

pub there_within : (d : Deadline) (ds : List Deadline) (index : ℕ) → is_this d (slice_get ds index) ≡ true → index < length ds
there_within d [] index h = absurd cc
there_within d (x ∷ ds) zero h = omega arith
there_within d (x ∷ ds) (suc index) h = let rest = there_within d ds index h in omega (arith, rest)

-- ---- what is due

pub later : (m x y s t : ℕ) → nat_le x m ≡ false → t < 4294967296 → x * 4294967296 + s + 1 ≤ y * 4294967296 + t → nat_le y m ≡ false
later m x y s t h slot le = grind (arith, common_steps, h)

-- where the first is not due, none is
none_due : (m : ℕ) (p : Deadline → Bool) (x : Deadline) (ds : List Deadline) → is_due m x ≡ false → DeadlinesRise (key_of x + 1) ds → find (λ e. p e && is_due m e) ds ≡ None
none_due m p x [] h rises = refl
none_due m p x (y ∷ ds) h rises =
    let late = later m x.moment y.moment x.slot y.slot h rises.1 rises.0 in
    elim (p y) as (λ b. cond (b && is_due m y) (Some y) (find (λ e. p e && is_due m e) ds) ≡ None) [
      | true ↦ rw late (none_due m p y ds late rises.2)
      | false ↦ none_due m p y ds late rises.2
    ]

-- the first that is due is the first of all, where it is
pub first_due : (m low : ℕ) (ds : List Deadline) → DeadlinesRise low ds → find (is_due m) ds ≡ if_due m (slice_get ds 0)
first_due m low [] h = refl
first_due m low (x ∷ ds) h =
    elim (is_due m x) as (λ b. is_due m x ≡ b → cond b (Some x) (find (is_due m) ds) ≡ (if b then Some x else None)) [
      | true ↦ (λ e. refl)
      | false ↦ (λ e. none_due m (λ _. true) x ds e h.2)
    ] refl

-- and above a deadline it is the first one above it
pub first_due_above : (m low : ℕ) (d : Deadline) (ds : List Deadline) → DeadlinesRise low ds → find (λ e. is_above d e && is_due m e) ds ≡ if_due m (slice_get ds (position_or_len (is_above d) ds))
first_due_above m low d [] h = refl
first_due_above m low d (x ∷ ds) h =
    elim (is_above d x) as (λ b. is_above d x ≡ b → cond (b && is_due m x) (Some x) (find (λ e. is_above d e && is_due m e) ds) ≡ if_due m (slice_get (x ∷ ds) (cond (not b) (1 + position_or_len (is_above d) ds) 0))) [
      | true ↦ (λ e. elim (is_due m x) as (λ b. is_due m x ≡ b → cond b (Some x) (find (λ e. is_above d e && is_due m e) ds) ≡ (if b then Some x else None)) [
        | true ↦ (λ f. refl)
        | false ↦ (λ f. none_due m (is_above d) x ds f h.2)
      ] refl)
      | false ↦ (λ e. rw (next_place (position_or_len (is_above d) ds)) (first_due_above m (key_of x + 1) d ds h.2))
    ] refl

-- ---- how many are due

abbrev pub one_if : Bool → ℕ
one_if b = cond b 1 0

pub counts_more : (p : Deadline → Bool) (x : Deadline) (ds : List Deadline) → count_by p (x ∷ ds) ≡ one_if (p x) + count_by p ds
counts_more p x ds = sum_by-cons (λ e. cond (p e) 1 0) x ds
