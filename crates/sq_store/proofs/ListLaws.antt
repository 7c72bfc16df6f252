-- Rows that are put into the lists of their classes one after another, in the order of their ages.
use Rattle.std.proofs.Common.{◌≡◌, ◌≢◌, ℕ, zero, suc, ◌+◌, ◌<◌, ◌≤◌, Bool, true, false, List, [], ◌∷◌, ◌++◌, length, filter, take, drop, Option, Some, None, Contains, inl, inr, refl, sym, ap, ◌∙◌, subst, arith}
use Rattle.std.specs.Prelude.{◌&&◌, ◌==◌, slice_get, filter_map}
use Rattle.std.specs.List.{All, cons_option, list_any}
use Rattle.std.specs.List.Sorted.{IsPermutation}
use Rattle.std.proofs.Math.Nat.{min-le_left}
use Rattle.std.proofs.lemmas.List.{append-nil, append_assoc, length-take, map-append, take-append-drop}
use Rattle.std.proofs.lemmas.List.Elements.{All-cons, All-contains, All-contains_itself, All-nil, All-weaker, filter-append, filter_map-append}
use Rattle.std.proofs.lemmas.List.Sorted.{Contains-permutation, IsPermutation-map, IsPermutation-middle, IsPermutation-sym, IsPermutation-trans}
use Rattle.sq_base.specs.declared.row.Row.{Row}
use Rattle.sq_deadline.specs.declared.deadline.Deadline.{Deadline}
use Rattle.sq_deadline.proofs.SetLaws.{find_passes, permutation_filter}
use Rattle.sq_deadline.specs.Deadlines.{DeadlinesRise, key_of}
use Rattle.sq_slots.proofs.RowLists.{Contains-cons, Contains-cons_cases, contains_first, is_same}
use Rattle.sq_model.specs.Rows.{is_distinct, serials_of}
use Rattle.sq_model.proofs.RowLaws.{rises_distinct}
use Rattle.sq_slots.specs.Slots.{AreApart, is_in}
use Rattle.sq_store.specs.Due.{Holds, enqueued_at, visible_at}
use Rattle.sq_store.specs.inside.Found.{found, row_of}
use Rattle.sq_store.specs.SlotStores.{AreVisible, received_row, any_row, unreceived_row, exhausted_row}
use Rattle.sq_store.specs.declared.visible.VisibleFrom.{VisibleFrom}
use Rattle.sq_store.specs.Visible.{HasSpace}
use Rattle.sq_store.specs.inside.Visible.{IsOrdered, IsSet, KeepsSpace, HasSpareFor}
use Rattle.sq_store.proofs.HeldLaws.{held_few}
use Rattle.sq_store.proofs.MemoryLaws.{has_more, has_spare}
use Rattle.sq_store.proofs.DueLaws.{found_more, found_of_class}
use Rattle.sq_store.proofs.PickLaws.{distinct_permutation, rise_rises, serial_of}
use Rattle.sq_store.proofs.ReceiveLaws.{first_is_apart, is_number, none_first, other_way}
use Rattle.sq_store.proofs.SlotLaws.{comes_in}

fails_between : (p : ℕ → Bool) (xs ys : List ℕ) (b : ℕ) → list_any p (xs ++ b ∷ ys) ≡ false → p b ≡ false
fails_between p [] ys b h = (none_first p b ys h).0
fails_between p (a ∷ xs) ys b h = fails_between p xs ys b (none_first p a (xs ++ b ∷ ys) h).1

-- a number of distinct ones does not stand before itself
alone : (xs ys : List ℕ) (b : ℕ) → is_distinct (xs ++ b ∷ ys) ≡ true → list_any (λ c. c == b) xs ≡ false
alone [] ys b h = refl
alone (a ∷ xs) ys b h =
    let first = first_is_apart a (xs ++ b ∷ ys) h in
    rw (other_way b a (fails_between (λ y. y == a) xs ys b first.0)) (alone xs ys b first.1)

all_pass : (rows : List Row) → filter (λ row. any_row row && any_row row) rows ≡ rows
all_pass [] = refl
all_pass (r ∷ rs) = ap (λ (xs : List Row). r ∷ xs) (all_pass rs)

-- the rows that are found by all ages are the rows
all_found : (rows : List Row) (ages : List Deadline) → AreApart rows → Holds any_row enqueued_at rows ages → IsPermutation rows (found any_row rows ages)
all_found rows ages apart held = subst (λ (rs : List Row). IsPermutation rs (found any_row rows ages)) (all_pass rows) (found_of_class any_row enqueued_at (λ row. refl) rows apart.slots ages held any_row)

found_append : (rows : List Row) (ds es : List Deadline) → found any_row rows (ds ++ es) ≡ found any_row rows ds ++ found any_row rows es
found_append rows ds es = ap (filter any_row) (filter_map-append (row_of rows) ds es) ∙ filter-append any_row (filter_map (row_of rows) ds) (filter_map (row_of rows) es)

same_class : (class : Row → Bool) (key : Row → Deadline) (rows full : List Row) (ds : List Deadline) → IsPermutation rows full → Holds class key full ds → Holds class key rows ds
same_class class key rows full ds same held =
    IsPermutation-trans _ _ _ (IsPermutation-map key (filter class rows) (filter class full) (permutation_filter class rows full same)) held

-- all stand in their lists at the end
pub all_listed : (rows : List Row) (ages : List Deadline) (v : VisibleFrom) → AreApart rows → Holds any_row enqueued_at rows ages → AreVisible (found any_row rows ages) v → AreVisible rows v
all_listed rows ages v apart held h =
    let same = all_found rows ages apart held in
    let full = found any_row rows ages in
    record {
      unreceived = same_class unreceived_row visible_at rows full v.unreceived.deadlines same h.unreceived;
      received = same_class (received_row v.most) visible_at rows full v.received.deadlines same h.received;
      exhausted = same_class (exhausted_row v.most) visible_at rows full v.exhausted.deadlines same h.exhausted;
    }

-- the serial of the one that comes next was not there yet
not_yet : (rows before after : List Row) (row : Row) → AreApart rows → IsPermutation rows (before ++ row ∷ after) → list_any (λ c. c == row.serial) (serials_of before) ≡ false
not_yet rows before after row apart same =
    let next = rise_rises 0 rows apart.rise in
    let once = distinct_permutation (serials_of rows) (serials_of (before ++ row ∷ after)) (IsPermutation-map serial_of rows (before ++ row ∷ after) same) (rises_distinct 0 rows next.0 next.1) in
    alone (serials_of before) (serials_of after) row.serial (rw (map-append serial_of before (row ∷ after)) at once)

contains_between : (before after : List Row) (row : Row) → Contains (before ++ row ∷ after) row
contains_between before after row = Contains-permutation (row ∷ (before ++ after)) (before ++ row ∷ after) row (IsPermutation-sym _ _ (IsPermutation-middle before row after)) (contains_first row (before ++ after))

contains_before : (before after : List Row) (r : Row) → Contains before r → Contains (before ++ after) r
contains_before [] after r there = absurd (omega (arith, there.1))
contains_before (b ∷ before) after r there = elim (Contains-cons_cases b r before there) [
  | inl same ↦ subst (λ (x : Row). Contains (b ∷ (before ++ after)) x) same (contains_first b (before ++ after))
  | inr later ↦ Contains-cons b r (before ++ after) (contains_before before after r later)
]

any_of : (serial : ℕ) (before : List Row) → list_any (λ c. c == serial) (serials_of before) ≡ false → All (λ (r : Row). (r.serial == serial) ≡ false) before
any_of serial [] h = All-nil (λ (r : Row). (r.serial == serial) ≡ false)
any_of serial (b ∷ before) h = let k = none_first (λ c. c == serial) b.serial (serials_of before) h in All-cons (λ (r : Row). (r.serial == serial) ≡ false) b before k.0 (any_of serial before k.1)

-- and no row before it has its slot
slots_before : (rows before after : List Row) (row : Row) → AreApart rows → IsPermutation rows (before ++ row ∷ after) → All (λ (r : Row). r.slot ≢ row.slot) before
slots_before rows before after row apart same =
    let back = IsPermutation-sym rows (before ++ row ∷ after) same in
    let mine : Contains rows row = Contains-permutation (before ++ row ∷ after) rows row back (contains_between before after row) in
    let others = any_of row.serial before (not_yet rows before after row apart same) in
    All-weaker (Contains before) (λ (r : Row). r.slot ≢ row.slot) (λ r there slot.
    let one : r ≡ row = apart.slots r row (Contains-permutation (before ++ row ∷ after) rows r back (contains_before before (row ∷ after) r there)) mine slot in
    let other : (r.serial == row.serial) ≡ false = All-contains (λ (x : Row). (x.serial == row.serial) ≡ false) before r others there in
    let k : true ≡ false = sym (is_number r.serial row.serial (ap (λ (x : Row). x.serial) one)) ∙ other in cc) before (All-contains_itself before)

-- one more age, and the row of its slot stands in the list of its class
pub listed_more : (rows : List Row) (ages : List Deadline) (rank : ℕ) (d : Deadline) (row : Row) (old new : VisibleFrom) → AreApart rows → Holds any_row enqueued_at rows ages
    → slice_get ages rank ≡ Some d → row_of rows d ≡ Some row → row.slot < 4294967296 → IsOrdered row.receives old → IsSet row.receives (visible_at row) old new
    → AreVisible (found any_row rows (take rank ages)) old → AreVisible (found any_row rows (take (rank + 1) ages)) new
listed_more rows ages rank d row old new apart held at is fits ordered set h =
    let before = found any_row rows (take rank ages) in
    let after = found any_row rows (drop (rank + 1) ages) in
    let more : found any_row rows (take (rank + 1) ages) ≡ before ++ row ∷ [] =
    found_more any_row rows ages rank d at ∙ ap (λ (o : Option Row). before ++ filter any_row (cons_option o [])) is in
    let whole : found any_row rows ages ≡ before ++ row ∷ after =
    ap (found any_row rows) (sym (take-append-drop (rank + 1) ages)) ∙ found_append rows (take (rank + 1) ages) (drop (rank + 1) ages) ∙ ap (λ (rs : List Row). rs ++ after) more ∙ append_assoc before (row ∷ []) after in
    let others = slots_before rows before after row apart (subst (λ (rs : List Row). IsPermutation rows rs) whole (all_found rows ages apart held)) in
    rw more (comes_in before row [] old new fits (rw (append-nil before) others) ordered set (rw (append-nil before) h))

-- ---- memory and slots, one age after another

kept_few : (h : Deadline → Option Row) (ds : List Deadline) → length (filter any_row (filter_map h ds)) ≤ length ds
kept_few h [] = omega arith
kept_few h (d ∷ ds) = let rest = kept_few h ds in elim (h d) as (λ o. length (filter any_row (cons_option o (filter_map h ds))) ≤ length (d ∷ ds)) [
  | Some row ↦ omega (arith, rest)
  | None ↦ omega (arith, rest)
]

pub spare_for_next : (rows : List Row) (ages : List Deadline) (rank : ℕ) (first v : VisibleFrom) → Holds any_row enqueued_at rows ages → rank < length ages → HasSpace (length rows) first → KeepsSpace first v
    → AreVisible (found any_row rows (take rank ages)) v → (receives : ℕ) → HasSpareFor receives v
spare_for_next rows ages rank first v held within memory kept h =
    let before = found any_row rows (take rank ages) in
    let few = kept_few (row_of rows) (take rank ages) in
    let taken : length (take rank ages) ≤ rank = omega (arith, length-take rank ages, min-le_left rank (length ages)) in
    let all = held_few any_row enqueued_at rows ages held in
    let less : length before + 1 ≤ length rows = omega (arith, few, taken, all, within) in
    let more = has_more (length rows) first v kept memory in
    has_spare before v h (record { unreceived = omega (arith, less, more.unreceived); received = omega (arith, less, more.received); exhausted = omega (arith, less, more.exhausted) })

pub none_is_past : (ds : List Deadline) (k : ℕ) → slice_get ds k ≡ None → length ds ≤ k
none_is_past [] k h = omega arith
none_is_past (d ∷ ds) zero h = absurd cc
none_is_past (d ∷ ds) (suc k) h = let rest = none_is_past ds k h in omega (arith, rest)

pub slot_fits : (low : ℕ) (ds : List Deadline) (k : ℕ) (d : Deadline) → DeadlinesRise low ds → slice_get ds k ≡ Some d → d.slot < 4294967296
slot_fits low [] k d rise h = absurd cc
slot_fits low (x ∷ ds) zero d rise h = let one : x ≡ d = cc in subst (λ (e : Deadline). e.slot < 4294967296) one rise.1
slot_fits low (x ∷ ds) (suc k) d rise h = slot_fits (key_of x + 1) ds k d rise.2 h

pub its_slot : (rows : List Row) (d : Deadline) (row : Row) → row_of rows d ≡ Some row → row.slot ≡ d.slot
its_slot rows d row h = is_same row.slot d.slot (find_passes (is_in d.slot) rows row h).1

pub none_more : (rows : List Row) (ages : List Deadline) (rank : ℕ) (d : Deadline) → slice_get ages rank ≡ Some d → row_of rows d ≡ None → found any_row rows (take (rank + 1) ages) ≡ found any_row rows (take rank ages)
none_more rows ages rank d at none =
    found_more any_row rows ages rank d at ∙ ap (λ (o : Option Row). found any_row rows (take rank ages) ++ filter any_row (cons_option o [])) none ∙ append-nil (found any_row rows (take rank ages))
