-- The rows of a class, counted and found by their deadlines.
use Rattle.std.proofs.Common.{◌≡◌, ℕ, ◌+◌, ◌≤◌, Bool, true, false, not, cond, List, [], ◌∷◌, ◌++◌, length, map, filter, take, Option, Some, None, refl, sym, ap, ◌∙◌, subst, arith}
use Rattle.std.specs.Prelude.{◌==◌, ◌&&◌, ◌||◌, count_by, filter_map, find, nat_le, nat_lt, slice_get}
use Rattle.std.specs.List.{All, Contains, cons_option, list_any, sum_by}
use Rattle.std.specs.List.Sorted.{IsPermutation}
use Rattle.std.proofs.lemmas.Bool.{and_parts}
use Rattle.std.proofs.lemmas.Grind.{common_steps}
use Rattle.std.proofs.lemmas.List.{length-append, length-map, take_all, take_more}
use Rattle.std.proofs.lemmas.List.Elements.{All-contains_itself, All-filter, All-head, All-tail, filter-append, filter_agree, filter_map-append}
use Rattle.std.proofs.lemmas.List.Filters.{length-filter_both, sum_by-filter_both}
use Rattle.std.proofs.lemmas.List.Sorted.{IsPermutation-append, IsPermutation-cons, IsPermutation-filter_both, IsPermutation-middle, IsPermutation-refl, IsPermutation-sym, IsPermutation-trans, length_permutation}
use Rattle.std.proofs.lemmas.List.Sums.{count_by-le-length, length-filter, sum_by-cons}
use Rattle.std.proofs.lemmas.Option.{get_or_from_slice_get, slice_get_within}
use Rattle.sq_base.specs.declared.row.Row.{Row}
use Rattle.sq_base.specs.declared.settings.Settings.{Settings}
use Rattle.sq_deadline.specs.declared.deadline.Deadline.{Deadline}
use Rattle.sq_deadline.specs.Deadlines.{DeadlinesRise, if_due, is_due}
use Rattle.sq_deadline.proofs.OrderLaws.{one_if}
use Rattle.sq_deadline.proofs.SetLaws.{along_permutation, due_first, due_is_counted, find_passes, none_due_is_past, permutation_filter}
use Rattle.sq_model.specs.Rows.{is_delayed, is_expired, is_in_flight, is_visible, unexpired}
use Rattle.sq_slots.specs.Slots.{HaveOwnSlots, is_in}
use Rattle.sq_slots.proofs.RowLists.{is_same, is_this, one_found}
use Rattle.sq_store.specs.Due.{Holds, enqueued_at, visible_at}
use Rattle.sq_store.specs.inside.Found.{found, found_due, is_kept_and, row_of}
use Rattle.sq_store.specs.Picked.{IsOneOf}
use Rattle.sq_store.specs.SlotStores.{AreVisible, received_row, any_row, unreceived_row, exhausted_row}
use Rattle.sq_store.specs.declared.visible.VisibleFrom.{VisibleFrom}
use Rattle.sq_store.proofs.FoundLaws.{kept_there}

-- ---- lists

pub filter_both : {X : Type 0} (p q : X → Bool) (xs : List X) → filter q (filter p xs) ≡ filter (λ x. p x && q x) xs
filter_both p q [] = refl
filter_both {X} p q (x ∷ xs) =
    let rest = filter_both p q xs in
    elim (p x) as (λ b. filter q (cond b (x ∷ filter p xs) (filter p xs)) ≡ cond (b && q x) (x ∷ filter (λ x. p x && q x) xs) (filter (λ x. p x && q x) xs)) [
      | true ↦ elim (q x) as (λ b. cond b (x ∷ filter q (filter p xs)) (filter q (filter p xs)) ≡ cond b (x ∷ filter (λ x. p x && q x) xs) (filter (λ x. p x && q x) xs)) [
        | true ↦ ap (λ (ys : List X). x ∷ ys) rest
        | false ↦ rest
      ]
      | false ↦ rest
    ]

filter_map_key : {X Y : Type 0} (p : Y → Bool) (f : X → Y) (xs : List X) → map f (filter (λ x. p (f x)) xs) ≡ filter p (map f xs)
filter_map_key p f [] = refl
filter_map_key {X} {Y} p f (x ∷ xs) =
    elim (p (f x)) as (λ b. map f (cond b (x ∷ filter (λ x. p (f x)) xs) (filter (λ x. p (f x)) xs)) ≡ cond b (f x ∷ filter p (map f xs)) (filter p (map f xs))) [
      | true ↦ ap (λ (ys : List Y). f x ∷ ys) (filter_map_key p f xs)
      | false ↦ filter_map_key p f xs
    ]

-- a sum of sums
sum_by_both : {X : Type 0} (f g h : X → ℕ) → ((x : X) → h x ≡ f x + g x) → (xs : List X) → sum_by h xs ≡ sum_by f xs + sum_by g xs
sum_by_both f g h both [] = refl
sum_by_both f g h both (x ∷ xs) =
    let rest = sum_by_both f g h both xs in
    omega (arith, rest, both x, sum_by-cons f x xs, sum_by-cons g x xs, sum_by-cons h x xs)

-- what passes one test and another
count_both : {X : Type 0} (p q : X → Bool) (xs : List X) → count_by q (filter p xs) ≡ count_by (λ x. p x && q x) xs
count_both p q xs = sym (length-filter q (filter p xs)) ∙ ap length (filter_both p q xs) ∙ length-filter (λ x. p x && q x) xs

-- ---- the rows of a class

module _ (class : Row → Bool) (key : Row → Deadline) (rows : List Row) (ds : List Deadline) (held : Holds class key rows ds) where
  -- the deadlines that pass are those of the rows of the class whose deadlines pass
  pub held_if : (p : Deadline → Bool) → Holds (λ row. class row && p (key row)) key rows (filter p ds)
  held_if p =
      let same : filter p (map key (filter class rows)) ≡ map key (filter (λ row. class row && p (key row)) rows) =
      sym (filter_map_key p key (filter class rows)) ∙ ap (map key) (filter_both class (λ row. p (key row)) rows) in
      subst (λ (es : List Deadline). IsPermutation es (filter p ds)) same (permutation_filter p (map key (filter class rows)) ds held)

  pub held_length : length ds ≡ count_by class rows
  held_length = length_permutation (map key (filter class rows)) ds held ∙ length-map (filter class rows) key ∙ length-filter class rows

-- how many of the deadlines pass
pub held_count : (class : Row → Bool) (key : Row → Deadline) (rows : List Row) (ds : List Deadline) → Holds class key rows ds → (p : Deadline → Bool) → count_by p ds ≡ count_by (λ row. class row && p (key row)) rows
held_count class key rows ds held p = sym (length-filter p ds) ∙ held_length (λ row. class row && p (key row)) key rows (filter p ds) (held_if class key rows ds held p)

-- ---- what is not due

abbrev pub is_later : ℕ → Deadline → Bool
is_later m d = nat_lt m d.moment

not_due : (m n : ℕ) → nat_lt m n ≡ not (nat_le n m)
not_due m n = grind (arith, common_steps)

pub count_later : (m : ℕ) (ds : List Deadline) → count_by (is_later m) ds + count_by (is_due m) ds ≡ length ds
count_later m ds =
    let both = length-filter_both (is_due m) (is_later m) (λ d. not_due m d.moment) ds in
    omega (arith, both, length-filter (is_due m) ds, length-filter (is_later m) ds)

-- ---- what is kept

expired_else : (a : Bool) → a ≡ not (not a)
expired_else true = refl
expired_else false = refl

-- what is counted of the kept rows, and of the others, is what is counted of all
pub count_kept : (s : Settings) (m : ℕ) (p : Row → Bool) (rows : List Row) → count_by p (unexpired s m rows) + count_by (λ row. is_expired s m row && p row) rows ≡ count_by p rows
count_kept s m p rows =
    let both = sum_by-filter_both (λ (row : Row). not (is_expired s m row)) (is_expired s m) (λ row. expired_else (is_expired s m row)) (λ row. one_if (p row)) rows in
    omega (arith, both, count_both (is_expired s m) p rows)

pub length_kept : (s : Settings) (m : ℕ) (rows : List Row) → length (unexpired s m rows) + count_by (is_expired s m) rows ≡ length rows
length_kept s m rows =
    let both = length-filter_both (λ (row : Row). not (is_expired s m row)) (is_expired s m) (λ row. expired_else (is_expired s m row)) rows in
    omega (arith, both, length-filter (is_expired s m) rows)

pub count_agree : {X : Type 0} (p q : X → Bool) → ((x : X) → p x ≡ q x) → (xs : List X) → count_by p xs ≡ count_by q xs
count_agree p q same xs = sym (length-filter p xs) ∙ ap length (filter_agree p q same xs) ∙ length-filter q xs

count_nothing : {X : Type 0} (p : X → Bool) → ((x : X) → p x ≡ false) → (xs : List X) → count_by p xs ≡ 0
count_nothing p none [] = refl
count_nothing p none (x ∷ xs) = let one : one_if (p x) ≡ 0 = ap one_if (none x) in omega (arith, one, count_nothing p none xs, sum_by-cons (λ x. one_if (p x)) x xs)

-- the kept rows are those that are younger than a bound
pub kept_by_age : (s : Settings) (m bound : ℕ) (rows : List Row) (ages : List Deadline) → Holds any_row enqueued_at rows ages → ((row : Row) → is_expired s m row ≡ nat_le row.enqueued bound)
    → length (unexpired s m rows) + count_by (is_due bound) ages ≡ length rows
kept_by_age s m bound rows ages held same =
    omega (arith, length_kept s m rows, count_agree (is_expired s m) (λ row. nat_le row.enqueued bound) same rows, held_count any_row enqueued_at rows ages held (is_due bound))

pub all_kept : (s : Settings) (m : ℕ) (rows : List Row) → ((row : Row) → is_expired s m row ≡ false) → length (unexpired s m rows) ≡ length rows
all_kept s m rows none = omega (arith, length_kept s m rows, count_nothing (is_expired s m) none rows)

-- ---- states

-- a sum of three
sum_by_three : {X : Type 0} (f g k h : X → ℕ) → ((x : X) → h x ≡ f x + (g x + k x)) → (xs : List X) → sum_by h xs ≡ sum_by f xs + (sum_by g xs + sum_by k xs)
sum_by_three f g k h three xs = sum_by_both f (λ x. g x + k x) h three xs ∙ ap (λ (n : ℕ). sum_by f xs + n) (sum_by_both g k (λ x. g x + k x) (λ x. refl) xs)

is_zero : (r : ℕ) → (r == 0) ≡ not (nat_lt 0 r)
is_zero r = grind (arith, common_steps)

is_least : (most r : ℕ) → nat_le most r ≡ not (nat_lt r most)
is_least most r = grind (arith, common_steps)

received_cases : (a c d : Bool) → one_if a ≡ one_if (a && not d) + (one_if ((a && c) && d) + one_if ((a && not c) && d))
received_cases true true true = omega arith
received_cases true true false = omega arith
received_cases true false true = omega arith
received_cases true false false = omega arith
received_cases false c d = omega arith

state_cases : (a d : Bool) → 1 ≡ one_if d + (one_if (a && not d) + one_if (not a && not d))
state_cases true true = omega arith
state_cases true false = omega arith
state_cases false true = omega arith
state_cases false false = omega arith

unreceived_cases : (a : Bool) → 1 ≡ one_if (not a) + one_if a
unreceived_cases true = omega arith
unreceived_cases false = omega arith

abbrev pub is_received : Row → Bool
is_received row = nat_lt 0 row.receives

all_counted : {X : Type 0} (xs : List X) → sum_by (λ x. 1) xs ≡ length xs
all_counted [] = refl
all_counted (x ∷ xs) = omega (arith, all_counted xs, sum_by-cons (λ x. 1) x xs)

-- each row is visible, in flight or delayed
pub count_states : (m : ℕ) (rows : List Row) → count_by (is_visible m) rows + (count_by (is_in_flight m) rows + count_by (is_delayed m) rows) ≡ length rows
count_states m rows =
    let three = sum_by_three (λ row. one_if (is_visible m row)) (λ row. one_if (is_in_flight m row)) (λ row. one_if (is_delayed m row)) (λ row. 1)
    (λ row. rw (not_due m row.visible_from, is_zero row.receives) (state_cases (nat_lt 0 row.receives) (nat_le row.visible_from m))) rows in
    omega (arith, three, all_counted rows)

module _ (rows : List Row) (v : VisibleFrom) (held : AreVisible rows v) (m : ℕ) where
  received_count : length v.unreceived.deadlines + count_by is_received rows ≡ length rows
  received_count = omega (
    arith,
    held_length unreceived_row visible_at rows v.unreceived.deadlines held.unreceived,
    all_counted rows,
    sum_by_both (λ row. one_if (unreceived_row row)) (λ row. one_if (is_received row)) (λ row. 1) (λ row. rw (is_zero row.receives) (unreceived_cases (nat_lt 0 row.receives))) rows,
  )

  -- each received row is in flight, or visible again
  pub in_flight_count : length v.unreceived.deadlines + (count_by (is_in_flight m) rows + (count_by (is_due m) v.received.deadlines + count_by (is_due m) v.exhausted.deadlines)) ≡ length rows
  in_flight_count =
      let three = sum_by_three (λ row. one_if (is_in_flight m row)) (λ row. one_if (received_row v.most row && is_due m (visible_at row))) (λ row. one_if (exhausted_row v.most row && is_due m (visible_at row))) (λ row. one_if (is_received row))
      (λ row. rw (not_due m row.visible_from, is_least v.most row.receives) (received_cases (nat_lt 0 row.receives) (nat_lt row.receives v.most) (nat_le row.visible_from m))) rows in
      omega (arith, received_count, three, held_count (received_row v.most) visible_at rows v.received.deadlines held.received (is_due m), held_count (exhausted_row v.most) visible_at rows v.exhausted.deadlines held.exhausted (is_due m))

  pub delayed_count : count_by (is_later m) v.unreceived.deadlines ≡ count_by (is_delayed m) rows
  delayed_count = held_count unreceived_row visible_at rows v.unreceived.deadlines held.unreceived (is_later m)

-- ---- rows found by their deadlines

-- a list kept in another order is kept the same
kept_permutation : {X Y : Type 0} (h : X → Option Y) (xs ys : List X) → IsPermutation xs ys → IsPermutation (filter_map h xs) (filter_map h ys)
kept_permutation {X} {Y} h = along_permutation (λ (xs ys : List X). IsPermutation (filter_map h xs) (filter_map h ys))
    (λ xs. IsPermutation-refl (filter_map h xs))
    (λ x xs ys same. elim (h x) as (λ o. IsPermutation (cons_option o (filter_map h xs)) (cons_option o (filter_map h ys))) [
      | Some y ↦ IsPermutation-cons y _ _ same
      | None ↦ same
    ])
    (λ x y xs. elim (h x) as (λ o. IsPermutation (cons_option o (cons_option (h y) (filter_map h xs))) (cons_option (h y) (cons_option o (filter_map h xs)))) [
      | Some a ↦ elim (h y) as (λ o. IsPermutation (a ∷ cons_option o (filter_map h xs)) (cons_option o (a ∷ filter_map h xs))) [
        | Some b ↦ IsPermutation-middle (a ∷ []) b (filter_map h xs)
        | None ↦ IsPermutation-refl (a ∷ filter_map h xs)
      ]
      | None ↦ IsPermutation-refl (cons_option (h y) (filter_map h xs))
    ])
    (λ xs ys zs. IsPermutation-trans _ _ _)

own_row : (rows : List Row) → HaveOwnSlots rows → (row : Row) → Contains rows row → find (is_in row.slot) rows ≡ Some row
own_row rows own row there = one_found (is_in row.slot) rows row there (is_this row.slot) (λ other too same. own other row too there (is_same other.slot row.slot same))

-- rows that are there are found by their own deadlines
rows_of_own : (key : Row → Deadline) → ((row : Row) → (key row).slot ≡ row.slot) → (rows : List Row) → HaveOwnSlots rows → (some : List Row) → All (Contains rows) some → filter_map (row_of rows) (map key some) ≡ some
rows_of_own key slots rows own [] there = refl
rows_of_own key slots rows own (row ∷ some) there =
    let first : row_of rows (key row) ≡ Some row = rw (slots row) (own_row rows own row (All-head (Contains rows) row some there)) in
    rw first (ap (λ (rs : List Row). row ∷ rs) (rows_of_own key slots rows own some (All-tail (Contains rows) row some there)))

module _ (class : Row → Bool) (key : Row → Deadline) (slots : (row : Row) → (key row).slot ≡ row.slot) (rows : List Row) (own : HaveOwnSlots rows) (ds : List Deadline) (held : Holds class key rows ds) where
  -- the rows of the deadlines are those of the class
  rows_of_class : IsPermutation (filter class rows) (filter_map (row_of rows) ds)
  rows_of_class =
      let mine : filter_map (row_of rows) (map key (filter class rows)) ≡ filter class rows = rows_of_own key slots rows own (filter class rows) (All-filter class (Contains rows) rows (All-contains_itself rows)) in
      subst (λ (rs : List Row). IsPermutation rs (filter_map (row_of rows) ds)) mine (kept_permutation (row_of rows) (map key (filter class rows)) ds held)

  -- those that pass are those of the class that pass
  pub found_of_class : (p : Row → Bool) → IsPermutation (filter (λ row. class row && p row) rows) (found p rows ds)
  found_of_class p = subst (λ (rs : List Row). IsPermutation rs (found p rows ds)) (filter_both class p rows) (permutation_filter p (filter class rows) (filter_map (row_of rows) ds) rows_of_class)

-- and so are those of the deadlines that are due, of the rows whose deadlines are
pub due_of_class : (class : Row → Bool) (key : Row → Deadline) → ((row : Row) → (key row).slot ≡ row.slot) → (rows : List Row) → HaveOwnSlots rows → (ds : List Deadline) → Holds class key rows ds
    → (m : ℕ) (p : Row → Bool) → IsPermutation (filter (λ row. (class row && is_due m (key row)) && p row) rows) (found_due p rows m ds)
due_of_class class key slots rows own ds held m p = found_of_class (λ row. class row && is_due m (key row)) key slots rows own (filter (is_due m) ds) (held_if class key rows ds held (is_due m)) p

-- ---- a walk

-- a rank further, the row of its deadline is found, where it passes
pub found_more : (p : Row → Bool) (rows : List Row) (ds : List Deadline) (rank : ℕ) (d : Deadline) → slice_get ds rank ≡ Some d
    → found p rows (take (rank + 1) ds) ≡ found p rows (take rank ds) ++ filter p (cons_option (row_of rows d) [])
found_more p rows ds rank d at =
    let more : take (rank + 1) ds ≡ take rank ds ++ d ∷ [] = rw (get_or_from_slice_get ds rank d d at) at (take_more ds rank d (slice_get_within ds rank d at)) in
    ap (found p rows) more ∙ ap (filter p) (filter_map-append (row_of rows) (take rank ds) (d ∷ [])) ∙ filter-append p (filter_map (row_of rows) (take rank ds)) (cons_option (row_of rows d) [])

pub at_most_one : (p : Row → Bool) (o : Option Row) → length (filter p (cons_option o [])) ≤ 1
at_most_one p None = omega arith
at_most_one p (Some row) = elim (p row) as (λ b. length (cond b (row ∷ []) []) ≤ 1) [ true ↦ omega arith | false ↦ omega arith ]

pub counts_on : (p : Row → Bool) (rows : List Row) (ds : List Deadline) (rank : ℕ) (d : Deadline) → slice_get ds rank ≡ Some d
    → length (found p rows (take (rank + 1) ds)) ≡ length (found p rows (take rank ds)) + length (filter p (cons_option (row_of rows d) []))
counts_on p rows ds rank d at = rw (found_more p rows ds rank d at) (length-append (found p rows (take rank ds)) (filter p (cons_option (row_of rows d) [])))

-- one that does not pass is passed over
pub passed_over : (p : Row → Bool) (rows : List Row) (ds : List Deadline) (rank : ℕ) (d : Deadline) → slice_get ds rank ≡ Some d → filter p (cons_option (row_of rows d) []) ≡ []
    → found p rows (take rank ds) ≡ [] → found p rows (take (rank + 1) ds) ≡ []
passed_over p rows ds rank d at fails none = rw (found_more p rows ds rank d at, none, fails) refl

-- where all that is due is walked over, it is what is found
pub found_all : (p : Row → Bool) (rows : List Row) (m : ℕ) (ds : List Deadline) (rank : ℕ) → DeadlinesRise 0 ds → rank ≤ count_by (is_due m) ds → count_by (is_due m) ds ≤ rank
    → found_due p rows m ds ≡ found p rows (take rank ds)
found_all p rows m ds rank rise low high =
    let same : count_by (is_due m) ds ≡ rank = omega (arith, low, high) in
    ap (found p rows) (due_first m 0 ds rise ∙ ap (λ (n : ℕ). take n ds) same)

-- where one is due at a rank, it is due at as many ranks as up to there
pub walks_on : (m : ℕ) (ds : List Deadline) (rank : ℕ) (d : Deadline) → DeadlinesRise 0 ds → if_due m (slice_get ds rank) ≡ Some d → rank + 1 ≤ count_by (is_due m) ds
walks_on m ds rank d rise at = omega (arith, due_is_counted m 0 d ds rank rise at)

-- where none is due at a rank, all that is due is walked over
pub found_before : (p : Row → Bool) (rows : List Row) (m : ℕ) (ds : List Deadline) (rank : ℕ) → DeadlinesRise 0 ds → rank ≤ count_by (is_due m) ds → if_due m (slice_get ds rank) ≡ None
    → found_due p rows m ds ≡ found p rows (take rank ds)
found_before p rows m ds rank rise low none = found_all p rows m ds rank rise low (none_due_is_past m 0 ds rank rise none)

-- and so it is where the walk is at the end
pub found_at_end : (p : Row → Bool) (rows : List Row) (m : ℕ) (ds : List Deadline) (rank : ℕ) → DeadlinesRise 0 ds → rank ≤ count_by (is_due m) ds → length ds ≤ rank
    → found_due p rows m ds ≡ found p rows (take rank ds)
found_at_end p rows m ds rank rise low end = found_all p rows m ds rank rise low (omega (arith, end, count_by-le-length (is_due m) ds))

-- and where no rank is left, all that is there is
pub found_whole : (p : Row → Bool) (rows : List Row) (ds : List Deadline) (rank : ℕ) → length ds ≤ rank → found p rows ds ≡ found p rows (take rank ds)
found_whole p rows ds rank end = ap (found p rows) (sym (take_all rank ds end))

-- no row is found in none
pub found_in_none : (p : Row → Bool) (rows : List Row) (ds : List Deadline) → length rows ≡ 0 → found p rows ds ≡ []
found_in_none p [] ds none = ap (filter p) (nothing_of ds)
  where
    nothing_of : (es : List Deadline) → filter_map (row_of []) es ≡ []
    nothing_of [] = refl
    nothing_of (e ∷ es) = nothing_of es
found_in_none p (row ∷ rows) ds none = absurd (omega (arith, none))

-- a kept row that passes is one of those that are kept
pub is_one_of_kept : (p : Row → Bool) (s : Settings) (m slot : ℕ) (rows : List Row) (row : Row) → find (is_in slot) rows ≡ Some row → is_kept_and p s m row ≡ true → IsOneOf p (unexpired s m rows) row
is_one_of_kept p s m slot rows row at passes =
    let parts = and_parts (not (is_expired s m row)) (p row) passes in
    record { passes = parts.1; there = kept_there (λ (r : Row). not (is_expired s m r)) rows row (find_passes (is_in slot) rows row at).0 parts.0 }

-- ---- all that is found

by_due : (a b d : Bool) → (b ≡ true → a ≡ true → d ≡ true) → (a && b) ≡ ((b && d) && a)
by_due true true d due = sym (ap (λ (x : Bool). x && true) (due refl refl))
by_due true false d due = refl
by_due false true true due = refl
by_due false true false due = refl
by_due false false d due = refl

either_way : (a b : Bool) → (a && b) ≡ (b && a)
either_way true true = refl
either_way true false = refl
either_way false true = refl
either_way false false = refl

-- those of a class that pass are found
pub found_of_each : (class p : Row → Bool) (rows : List Row) (ds : List Deadline) → HaveOwnSlots rows → Holds class visible_at rows ds → IsPermutation (filter class (filter p rows)) (found p rows ds)
found_of_each class p rows ds own held =
    let same : filter (λ row. class row && p row) rows ≡ filter class (filter p rows) =
    sym (filter_both p class rows ∙ filter_agree (λ row. p row && class row) (λ row. class row && p row) (λ row. either_way (p row) (class row)) rows) in
    subst (λ (rs : List Row). IsPermutation rs (found p rows ds)) same (found_of_class class visible_at (λ row. refl) rows own ds held p)

-- and among what is due, where what passes of the class is visible
pub found_of_visible : (class p : Row → Bool) (m : ℕ) (rows : List Row) (ds : List Deadline) → HaveOwnSlots rows → Holds class visible_at rows ds → ((row : Row) → class row ≡ true → p row ≡ true → is_visible m row ≡ true)
    → IsPermutation (filter class (filter p rows)) (found_due p rows m ds)
found_of_visible class p m rows ds own held due =
    let same : filter (λ row. (class row && is_due m (visible_at row)) && p row) rows ≡ filter class (filter p rows) =
    sym (filter_both p class rows ∙ filter_agree (λ row. p row && class row) (λ row. (class row && is_due m (visible_at row)) && p row) (λ row. by_due (p row) (class row) (is_visible m row) (due row)) rows) in
    subst (λ (rs : List Row). IsPermutation rs (found_due p rows m ds)) same (due_of_class class visible_at (λ row. refl) rows own ds held m p)

is_received_else : (r : ℕ) → nat_lt 0 r ≡ not (r == 0)
is_received_else r = grind (arith, common_steps)

-- rows of the three classes are all rows
all_of_classes : (most : ℕ) (all a b c : List Row) → IsPermutation (filter unreceived_row all) a → IsPermutation (filter (received_row most) all) b → IsPermutation (filter (exhausted_row most) all) c → IsPermutation all (a ++ (b ++ c))
all_of_classes most all a b c first second third =
    let received = filter is_received all in
    let often : Row → Bool = λ row. nat_lt row.receives most in
    let exhausted : Row → Bool = λ row. nat_le most row.receives in
    let two : IsPermutation received (filter (received_row most) all ++ filter (exhausted_row most) all) =
    subst (λ (rs : List Row). IsPermutation received (rs ++ filter (exhausted_row most) all)) (filter_both is_received often all)
    (subst (λ (rs : List Row). IsPermutation received (filter often received ++ rs)) (filter_both is_received exhausted all) (IsPermutation-filter_both often exhausted (λ row. is_least most row.receives) received)) in
    IsPermutation-trans _ _ _ (IsPermutation-filter_both unreceived_row is_received (λ row. is_received_else row.receives) all)
    (IsPermutation-append _ _ _ _ first (IsPermutation-trans _ _ _ two (IsPermutation-append _ _ _ _ second third)))

-- what is found of the three classes is all that passes
pub found_of_all : (p : Row → Bool) (m : ℕ) (rows : List Row) (v : VisibleFrom) → HaveOwnSlots rows → AreVisible rows v → ((row : Row) → p row ≡ true → is_visible m row ≡ true)
    → IsPermutation (filter p rows) (found_due p rows m v.unreceived.deadlines ++ (found_due p rows m v.received.deadlines ++ found_due p rows m v.exhausted.deadlines))
found_of_all p m rows v own held due = all_of_classes v.most (filter p rows) _ _ _
    (found_of_visible unreceived_row p m rows v.unreceived.deadlines own held.unreceived (λ row class. due row))
    (found_of_visible (received_row v.most) p m rows v.received.deadlines own held.received (λ row class. due row))
    (found_of_visible (exhausted_row v.most) p m rows v.exhausted.deadlines own held.exhausted (λ row class. due row))

filtered_none : {X : Type 0} (p : X → Bool) (xs : List X) → ((x : X) → p x ≡ false) → filter p xs ≡ []
filtered_none p [] none = refl
filtered_none p (x ∷ xs) none = rw (none x) (filtered_none p xs none)

same_as_none : {X : Type 0} (xs : List X) → IsPermutation [] xs → xs ≡ []
same_as_none [] same = refl
same_as_none (x ∷ xs) same = absurd (omega (arith, length_permutation [] (x ∷ xs) same))

none_of_none : {X : Type 0} (xs : List X) → IsPermutation xs [] → xs ≡ []
none_of_none xs same = same_as_none xs (IsPermutation-sym xs [] same)

apart_of : (b d a : Bool) → (b ≡ true → a ≡ false) → ((b && d) && a) ≡ false
apart_of true true a none = none refl
apart_of true false a none = refl
apart_of false d a none = refl

-- none is found in a class of which no row passes
pub found_in_no_class : (class p : Row → Bool) (m : ℕ) (rows : List Row) (ds : List Deadline) → HaveOwnSlots rows → Holds class visible_at rows ds → ((row : Row) → class row ≡ true → p row ≡ false) → found_due p rows m ds ≡ []
found_in_no_class class p m rows ds own held none =
    same_as_none (found_due p rows m ds) (subst (λ (rs : List Row). IsPermutation rs (found_due p rows m ds))
    (filtered_none (λ row. (class row && is_due m (visible_at row)) && p row) rows (λ row. apart_of (class row) (is_visible m row) (p row) (none row))) (due_of_class class visible_at (λ row. refl) rows own ds held m p))

filtered_away : {X : Type 0} (p : X → Bool) (xs : List X) → filter p xs ≡ [] → list_any p xs ≡ false
filtered_away p [] none = refl
filtered_away {X} p (x ∷ xs) none =
    elim (p x) as (λ b. cond b (x ∷ filter p xs) (filter p xs) ≡ [] → (b || list_any p xs) ≡ false) [
      | true ↦ (λ is. absurd cc)
      | false ↦ (λ is. filtered_away p xs is)
    ] none

-- where there is none of what is kept and passes, none of the kept rows passes
none_passes_of_kept : (p : Row → Bool) (s : Settings) (m : ℕ) (rows : List Row) → IsPermutation (filter (is_kept_and p s m) rows) [] → list_any p (unexpired s m rows) ≡ false
none_passes_of_kept p s m rows none = filtered_away p (unexpired s m rows) (filter_both (λ row. not (is_expired s m row)) p rows ∙ none_of_none (filter (is_kept_and p s m) rows) none)

-- where none is found in the three classes, none of the kept rows passes
pub none_found : (p : Row → Bool) (s : Settings) (m : ℕ) (rows : List Row) (v : VisibleFrom) → HaveOwnSlots rows → AreVisible rows v → ((row : Row) → is_kept_and p s m row ≡ true → is_visible m row ≡ true)
    → found_due (is_kept_and p s m) rows m v.unreceived.deadlines ≡ [] → found_due (is_kept_and p s m) rows m v.received.deadlines ≡ [] → found_due (is_kept_and p s m) rows m v.exhausted.deadlines ≡ []
    → list_any p (unexpired s m rows) ≡ false
none_found p s m rows v own held due unreceived received exhausted =
    none_passes_of_kept p s m rows (rw (unreceived, received, exhausted) at (found_of_all (is_kept_and p s m) m rows v own held due))

-- the same, where what passes of those received is visible, and those never received are all walked over
pub none_found_later : (p : Row → Bool) (s : Settings) (m : ℕ) (rows : List Row) (v : VisibleFrom) → HaveOwnSlots rows → AreVisible rows v → ((row : Row) → is_received row ≡ true → is_kept_and p s m row ≡ true → is_visible m row ≡ true)
    → found (is_kept_and p s m) rows v.unreceived.deadlines ≡ [] → found_due (is_kept_and p s m) rows m v.received.deadlines ≡ [] → found_due (is_kept_and p s m) rows m v.exhausted.deadlines ≡ []
    → list_any p (unexpired s m rows) ≡ false
none_found_later p s m rows v own held due unreceived received exhausted =
    let q = is_kept_and p s m in
    let all = all_of_classes v.most (filter q rows) _ _ _
    (found_of_each unreceived_row q rows v.unreceived.deadlines own held.unreceived)
    (found_of_visible (received_row v.most) q m rows v.received.deadlines own held.received (λ row class. due row (and_parts (is_received row) (nat_lt row.receives v.most) class).0))
    (found_of_visible (exhausted_row v.most) q m rows v.exhausted.deadlines own held.exhausted (λ row class. due row (and_parts (is_received row) (nat_le v.most row.receives) class).0)) in
    none_passes_of_kept p s m rows (rw (unreceived, received, exhausted) at all)

-- ---- those in flight

-- those past their retention are found by their ages
pub in_flight_kept : (s : Settings) (m bound : ℕ) (rows : List Row) (ages : List Deadline) → HaveOwnSlots rows → Holds any_row enqueued_at rows ages → ((row : Row) → is_expired s m row ≡ nat_le row.enqueued bound)
    → count_by (is_in_flight m) (unexpired s m rows) + length (found_due (is_in_flight m) rows bound ages) ≡ count_by (is_in_flight m) rows
in_flight_kept s m bound rows ages own held same =
    let old : Row → Bool = λ row. nat_le row.enqueued bound && is_in_flight m row in
    omega (
      arith,
      count_kept s m (is_in_flight m) rows,
      length-filter old rows,
      count_agree (λ row. is_expired s m row && is_in_flight m row) old (λ row. ap (λ (b : Bool). b && is_in_flight m row) (same row)) rows,
      length_permutation (filter old rows) (found_due (is_in_flight m) rows bound ages) (due_of_class any_row enqueued_at (λ row. refl) rows own ages held bound (is_in_flight m)),
    )

pub all_in_flight_kept : (s : Settings) (m : ℕ) (rows : List Row) → ((row : Row) → is_expired s m row ≡ false) → count_by (is_in_flight m) (unexpired s m rows) ≡ count_by (is_in_flight m) rows
all_in_flight_kept s m rows none = omega (arith, count_kept s m (is_in_flight m) rows, count_nothing (λ row. is_expired s m row && is_in_flight m row) (λ row. ap (λ (b : Bool). b && is_in_flight m row) (none row)) rows)
