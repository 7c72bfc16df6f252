-- Rows in slots: what a slab of rows is seen as, and what becomes of it where one comes in, changes or goes out.
use Rattle.std.proofs.Common.{◌≡◌, ◌≢◌, ◌⊎◌, ◌∙◌, ℕ, zero, suc, ◌<◌, Bool, true, false, not, cond, List, [], ◌∷◌, ◌++◌, length, filter, map, Option, Some, None, is_some, count_by, Contains, inl, inr, refl, sym, ap, subst, arith}
use Rattle.std.specs.Prelude.{◌&&◌, ◌==◌, find, filter_map, if◌then◌else◌}
use Rattle.std.specs.List.{All, list_any, slice_index_or}
use Rattle.std.proofs.lemmas.Bool.{cases_eq}
use Rattle.std.proofs.lemmas.List.Elements.{All-contains, Contains-append_left, Contains-push, Contains-push_cases}
use Rattle.std.proofs.lemmas.List.Sums.{sum_by-cons}
use Rattle.slab.proofs.SlabLemmas.{Contains-cons, Updates-with_value}
use Rattle.slab.specs.Slab.{ContainsKey, Slab, Updates, get, slab_len, values, with_value}
use Rattle.sq_base.specs.declared.row.Row.{Row}
use Rattle.sq_slots.specs.declared.table.Delivery.{Delivery}
use Rattle.sq_slots.specs.Slots.{AreApart, HaveOwnSlots, IsTable, SerialsRise, by_serial, in_slot, is_at, is_away, is_in, updated, updated_at}
use Rattle.sq_slots.proofs.RowLists.{any_is_found, contains_first, filter_is_kept, is_other, is_same, is_this, kept_is_there, length-with_row, map_is_kept, none_found, one_found, rise_kept, rise_last, rise_with, same_rows, there_is_kept, with_row_cases, with_row_has}

-- the rows of a slab by rising serial
abbrev pub rows_of : Slab Row → List Row
rows_of table = by_serial (values table)

-- the same of its slots
abbrev sorted : List (Option Row) → List Row
sorted slots = by_serial (filter_map (λ slot. slot) slots)

abbrev pub at_place : List (Option Row) → ℕ → Option Row
at_place slots k = slice_index_or slots k None

-- ---- slots and rows

sorted_has : (slots : List (Option Row)) (k : ℕ) (row : Row) → at_place slots k ≡ Some row → Contains (sorted slots) row
sorted_has [] k row found = absurd (cc)
sorted_has (None ∷ rest) zero row found = absurd (cc)
sorted_has (None ∷ rest) (suc k) row found = sorted_has rest k row found
sorted_has (Some r ∷ rest) zero row found = let same : r ≡ row = cc in with_row_has r (sorted rest) row (rw same (contains_first row (sorted rest)))
sorted_has (Some r ∷ rest) (suc k) row found = with_row_has r (sorted rest) row (Contains-cons r row (sorted rest) (sorted_has rest k row found))

has_sorted : (slots : List (Option Row)) (row : Row) → Contains (sorted slots) row → (k : ℕ) × (at_place slots k ≡ Some row)
has_sorted [] row there = absurd (omega (arith, there.1))
has_sorted (None ∷ rest) row there = let found = has_sorted rest row there in (suc found.0, found.1)
has_sorted (Some r ∷ rest) row there = elim (with_row_cases r (sorted rest) row there) [
  | inl same ↦ (0, ap Some same)
  | inr later ↦ let found = has_sorted rest row later in (suc found.0, found.1)
]

-- no two slots have one serial
abbrev OneEach : List (Option Row) → Type 0
OneEach slots = (k j : ℕ) (row it : Row) → at_place slots k ≡ Some row → at_place slots j ≡ Some it → row.serial ≡ it.serial → k ≡ j

one_each_later : (o : Option Row) (rest : List (Option Row)) → OneEach (o ∷ rest) → OneEach rest
one_each_later o rest one k j row it found other e = let next = one (suc k) (suc j) row it found other e in omega (arith, next)

sorted_rise : (slots : List (Option Row)) → OneEach slots → SerialsRise 0 (sorted slots)
sorted_rise [] one = tt
sorted_rise (None ∷ rest) one = sorted_rise rest (one_each_later None rest one)
sorted_rise (Some r ∷ rest) one = rise_with 0 r (sorted rest) (omega arith) (sorted_rise rest (one_each_later (Some r) rest one))
    (λ it there e. let found = has_sorted rest it there in absurd (let same = one 0 (suc found.0) r it refl found.1 (sym e) in omega (arith, same)))

sorted_len : (slots : List (Option Row)) → length (sorted slots) ≡ count_by is_some slots
sorted_len [] = refl
sorted_len (None ∷ rest) = omega (arith, sorted_len rest, sum_by-cons (λ o. cond (is_some o) 1 0) None rest)
sorted_len (Some r ∷ rest) = omega (arith, sorted_len rest, length-with_row r (sorted rest), sum_by-cons (λ o. cond (is_some o) 1 0) (Some r) rest)

pub rows_counted : (table : Slab Row) → length (rows_of table) ≡ slab_len table
rows_counted table = sorted_len table.slots

pub rows_rise : (table : Slab Row) → IsTable table → SerialsRise 0 (rows_of table)
rows_rise table h = sorted_rise table.slots h.serials

-- ---- a row is there where its slot has it

pub has_row : (table : Slab Row) (k : ℕ) (row : Row) → get table k ≡ Some row → Contains (rows_of table) row
has_row table k row found = sorted_has table.slots k row found

pub in_own_slot : (table : Slab Row) → IsTable table → (row : Row) → Contains (rows_of table) row → get table row.slot ≡ Some row
in_own_slot table h row there = let found = has_sorted table.slots row there in ap (get table) (h.slots found.0 row found.1) ∙ found.1

pub own_slots : (table : Slab Row) → IsTable table → HaveOwnSlots (rows_of table)
own_slots table h row other there too e = let here = in_own_slot table h row there in let at = in_own_slot table h other too in
    let same : Some row ≡ Some other = sym here ∙ ap (get table) e ∙ at in cc

pub rows_apart : (table : Slab Row) → IsTable table → AreApart (rows_of table)
rows_apart table h = record { rise = rows_rise table h; slots = own_slots table h }

-- ---- the row of a slot, and that of a slot and a serial

is_false : (b : Bool) → (b ≡ true → ⊥) → b ≡ false
is_false true h = absurd (h refl)
is_false false h = refl

is_both : (a b : Bool) → (a && b) ≡ true → a ≡ true
is_both true b h = refl
is_both false b h = h

-- what is there, where it passes
abbrev pub passing : (Row → Bool) → Option Row → Option Row
passing p None = None
passing p (Some row) = if p row then Some row else None

-- a row of this slot is what the slot has
what_is_there : (table : Slab Row) → IsTable table → (slot : ℕ) (row : Row) → Contains (rows_of table) row → row.slot ≡ slot → get table slot ≡ Some row
what_is_there table h slot row there same = ap (get table) (sym same) ∙ in_own_slot table h row there

-- a test that only rows of one slot pass finds what is there
found_of : (table : Slab Row) → IsTable table → (slot : ℕ) (p : Row → Bool) → ((row : Row) → p row ≡ true → row.slot ≡ slot) → find p (rows_of table) ≡ passing p (get table slot)
found_of table h slot p only = elim (get table slot) as (λ o. get table slot ≡ o → find p (rows_of table) ≡ passing p o) [
  | None ↦ (λ e. none_found p (rows_of table) (λ x there. is_false (p x) (λ yes. let at = what_is_there table h slot x there (only x yes) in absurd (cc))))
  | Some row ↦ (λ e. elim (p row) as (λ b. p row ≡ b → find p (rows_of table) ≡ (if b then Some row else None)) [
    | true ↦ (λ f. one_found p (rows_of table) row (has_row table slot row e) f (λ x there yes. let at = what_is_there table h slot x there (only x yes) in cc))
    | false ↦ (λ f. none_found p (rows_of table) (λ x there. is_false (p x) (λ yes.
        let at = what_is_there table h slot x there (only x yes) in
        let same : x ≡ row = cc in
        let no : p x ≡ false = ap p same ∙ f in absurd (cc))))
  ] refl)
] refl

pub found_in : (table : Slab Row) → IsTable table → (slot : ℕ) → find (is_in slot) (rows_of table) ≡ get table slot
found_in table h slot = found_of table h slot (is_in slot) (λ row yes. is_same row.slot slot yes) ∙ elim (get table slot) as (λ o. get table slot ≡ o → passing (is_in slot) o ≡ o) [
  | None ↦ (λ e. refl)
  | Some row ↦ (λ e. let here : (row.slot == slot) ≡ true = rw (h.slots slot row e) (is_this slot) in rw here refl)
] refl

pub found_one : (table : Slab Row) → IsTable table → (slot serial : ℕ) → find (is_at slot serial) (rows_of table) ≡ passing (is_at slot serial) (get table slot)
found_one table h slot serial = found_of table h slot (is_at slot serial) (λ row yes. is_same row.slot slot (is_both (row.slot == slot) (row.serial == serial) yes))

-- what is there has this slot, so that the serial decides
serial_decides : (table : Slab Row) → IsTable table → (slot serial : ℕ) (row : Row) → get table slot ≡ Some row → is_at slot serial row ≡ (row.serial == serial)
serial_decides table h slot serial row e = let here : (row.slot == slot) ≡ true = rw (h.slots slot row e) (is_this slot) in rw here refl

pub found_at : (table : Slab Row) → IsTable table → (slot serial : ℕ) → find (is_at slot serial) (rows_of table) ≡ passing (λ row. row.serial == serial) (get table slot)
found_at table h slot serial = found_one table h slot serial ∙ elim (get table slot) as (λ o. get table slot ≡ o → passing (is_at slot serial) o ≡ passing (λ row. row.serial == serial) o) [
  | None ↦ (λ e. refl)
  | Some row ↦ (λ e. rw (serial_decides table h slot serial row e) refl)
] refl

pub any_at : (table : Slab Row) → IsTable table → (slot serial : ℕ) → list_any (is_at slot serial) (rows_of table) ≡ is_some (passing (λ row. row.serial == serial) (get table slot))
any_at table h slot serial = any_is_found (is_at slot serial) (rows_of table) ∙ ap is_some (found_at table h slot serial)

-- a row in its slot is found where its serial is this one
pub found_where : (table : Slab Row) → IsTable table → (slot serial : ℕ) (row : Row) (same : Bool) → get table slot ≡ Some row → (row.serial == serial) ≡ same
    → find (is_at slot serial) (rows_of table) ≡ (if same then Some row else None)
found_where table h slot serial row same there is = rw (found_at table h slot serial, there, is) refl

pub any_where : (table : Slab Row) → IsTable table → (slot serial : ℕ) (row : Row) (same : Bool) → get table slot ≡ Some row → (row.serial == serial) ≡ same
    → list_any (is_at slot serial) (rows_of table) ≡ same
any_where table h slot serial row same there is = any_is_found (is_at slot serial) (rows_of table) ∙ ap is_some (found_where table h slot serial row same there is) ∙ some_if same
  where
    some_if : (b : Bool) → is_some (if b then Some row else None) ≡ b
    some_if true = refl
    some_if false = refl

-- ---- a row comes in

module _ (old new : Slab Row) (h : IsTable old) (key : ℕ) (row : Row) (vacant : get old key ≡ None) (put : Updates old new key (Some (in_slot key row)))
    (above : All (λ r. r.serial < row.serial) (rows_of old)) where
  is_below : (k : ℕ) (it : Row) → get old k ≡ Some it → it.serial < row.serial
  is_below k it found = All-contains (λ (r : Row). r.serial < row.serial) (rows_of old) it above (has_row old k it found)

  -- what a slot has now it had, or it has the row that came in
  came : (k : ℕ) (it : Row) → get new k ≡ Some it → (get old k ≡ Some it) ⊎ ((k ≡ key) × (in_slot key row ≡ it))
  came k it found = elim (cases_eq k key) [
    | inl same ↦ inr (same, let both : Some (in_slot key row) ≡ Some it = sym put.changed ∙ ap (get new) (sym same) ∙ found in cc)
    | inr other ↦ inl (sym (put.others k other) ∙ found)
  ]

  stays : (k : ℕ) (it : Row) → get old k ≡ Some it → get new k ≡ Some it
  stays k it found = put.others k (λ same. let both : Some it ≡ None = sym found ∙ ap (get old) same ∙ vacant in absurd (cc)) ∙ found

  pub table_with : IsTable new
  table_with = record {
    slots = λ k it found. elim (came k it found) [
      | inl was ↦ h.slots k it was
      | inr now ↦ ap (λ (r : Row). r.slot) (sym now.1) ∙ sym now.0
    ];
    serials = λ k j it its found other e. elim (came k it found) [
      | inl was ↦ elim (came j its other) [
        | inl as_well ↦ h.serials k j it its was as_well e
        | inr now ↦ let low = is_below k it was in absurd (omega (arith, low, e, ap (λ (r : Row). r.serial) now.1))
      ]
      | inr now ↦ elim (came j its other) [
        | inl was ↦ let low = is_below j its was in absurd (omega (arith, low, e, ap (λ (r : Row). r.serial) now.1))
        | inr as_well ↦ now.0 ∙ sym as_well.0
      ]
    ];
  }

  pub comes_last : rows_of new ≡ rows_of old ++ in_slot key row ∷ []
  comes_last = same_rows 0 0 (rows_of new) (rows_of old ++ in_slot key row ∷ []) (rows_rise new table_with) (rise_last 0 (rows_of old) (in_slot key row) (rows_rise old h) (omega arith) above)
      (λ it there. elim (came it.slot it (in_own_slot new table_with it there)) [
        | inl was ↦ Contains-append_left (rows_of old) (in_slot key row ∷ []) it (has_row old it.slot it was)
        | inr now ↦ subst (λ r. Contains (rows_of old ++ in_slot key row ∷ []) r) now.1 (Contains-push (rows_of old) (in_slot key row))
      ])
      (λ it there. elim (Contains-push_cases (rows_of old) (in_slot key row) it there) [
        | inl was ↦ has_row new it.slot it (stays it.slot it (in_own_slot old h it was))
        | inr now ↦ has_row new key it (put.changed ∙ ap Some now)
      ])

-- ---- rows change or go out, each in its slot

-- what a slot has after this
abbrev pub after : (Row → Option Row) → Option Row → Option Row
after f None = None
after f (Some row) = f row

after_some : (f : Row → Option Row) (o : Option Row) (new : Row) → after f o ≡ Some new → (row : Row) × (o ≡ Some row) × (f row ≡ Some new)
after_some f None new e = absurd (cc)
after_some f (Some row) new e = (row, refl, e)

module _ (old new : Slab Row) (h : IsTable old) (f : Row → Option Row) (same_slot : (row left : Row) → f row ≡ Some left → left.slot ≡ row.slot)
    (same_one : (row left : Row) → f row ≡ Some left → left.serial ≡ row.serial) (each : (k : ℕ) → get new k ≡ after f (get old k)) where
  was : (k : ℕ) (it : Row) → get new k ≡ Some it → (row : Row) × (get old k ≡ Some row) × (f row ≡ Some it)
  was k it found = after_some f (get old k) it (sym (each k) ∙ found)

  pub table_after : IsTable new
  table_after = record {
    slots = λ k it found. let row = was k it found in same_slot row.0 it row.2 ∙ h.slots k row.0 row.1;
    serials = λ k j it its found other e. let row = was k it found in let its_row = was j its other in
        h.serials k j row.0 its_row.0 row.1 its_row.1 (sym (same_one row.0 it row.2) ∙ e ∙ same_one its_row.0 its its_row.2);
  }

  pub rows_after : rows_of new ≡ filter_map f (rows_of old)
  rows_after = same_rows 0 0 (rows_of new) (filter_map f (rows_of old)) (rows_rise new table_after) (rise_kept f same_one 0 (rows_of old) (rows_rise old h))
      (λ it there. let row = was it.slot it (in_own_slot new table_after it there) in kept_is_there f (rows_of old) row.0 it (has_row old it.slot row.0 row.1) row.2)
      (λ it there. let row = there_is_kept f (rows_of old) it there in has_row new row.0.slot it (each row.0.slot ∙ ap (after f) (in_own_slot old h row.0 row.1) ∙ row.2))

-- only what one slot has changes, where rows of other slots are left as they are
each_changed : (old new : Slab Row) → IsTable old → (f : Row → Option Row) (slot : ℕ) (left : Option Row) → ((row : Row) → row.slot ≢ slot → f row ≡ Some row)
    → Updates old new slot left → left ≡ after f (get old slot) → (k : ℕ) → get new k ≡ after f (get old k)
each_changed old new h f slot left leaves put is k = elim (cases_eq k slot) [
  | inl same ↦ ap (get new) same ∙ put.changed ∙ is ∙ ap (λ j. after f (get old j)) (sym same)
  | inr other ↦ put.others k other ∙ elim (get old k) as (λ o. get old k ≡ o → o ≡ after f o) [
    | None ↦ (λ e. refl)
    | Some row ↦ (λ e. sym (leaves row (λ same. other (sym (h.slots k row e) ∙ same))))
  ] refl
]

pub Updates-none : (table : Slab Row) (slot : ℕ) → Updates table table slot (get table slot)
Updates-none table slot = record { changed = refl; others = λ other differs. refl }

away : (slot serial : ℕ) (row : Row) → row.slot ≢ slot → is_at slot serial row ≡ false
away slot serial row other = rw (is_other row.slot slot other) refl

-- ---- a row goes out

abbrev pub kept_away : ℕ → ℕ → Row → Option Row
kept_away slot serial row = if is_away slot serial row then Some row else None

-- where the row of this slot and this serial is found it goes out
pub goes : (slot serial : ℕ) (there : Option Row) (row : Row) → passing (is_at slot serial) there ≡ Some row → (there ≡ Some row) × (after (kept_away slot serial) there ≡ None)
goes slot serial None row e = absurd (cc)
goes slot serial (Some r) row e = elim (is_at slot serial r) as (λ b. (if b then Some r else None) ≡ Some row → (Some r ≡ Some row) × ((if not b then Some r else None) ≡ None)) [
  | true ↦ (λ g. (g, refl))
  | false ↦ (λ g. absurd (cc))
] e

-- and nothing where it is not
pub stays_whole : (slot serial : ℕ) (there : Option Row) → passing (is_at slot serial) there ≡ None → there ≡ after (kept_away slot serial) there
stays_whole slot serial None e = refl
stays_whole slot serial (Some r) e = elim (is_at slot serial r) as (λ b. (if b then Some r else None) ≡ None → Some r ≡ (if not b then Some r else None)) [
  | true ↦ (λ g. absurd (cc))
  | false ↦ (λ g. refl)
] e

kept_same : (slot serial : ℕ) (row left : Row) → kept_away slot serial row ≡ Some left → left ≡ row
kept_same slot serial row left e = elim (is_at slot serial row) as (λ b. (if not b then Some row else None) ≡ Some left → left ≡ row) [ true ↦ (λ g. absurd (cc)) | false ↦ (λ g. cc) ] e

module _ (old new : Slab Row) (h : IsTable old) (slot serial : ℕ) (left : Option Row) (put : Updates old new slot left) (is : left ≡ after (kept_away slot serial) (get old slot)) where
  without : (k : ℕ) → get new k ≡ after (kept_away slot serial) (get old k)
  without = each_changed old new h (kept_away slot serial) slot left (λ row other. rw (away slot serial row other) refl) put is

  same_slot : (row it : Row) → kept_away slot serial row ≡ Some it → it.slot ≡ row.slot
  same_slot row it e = ap (λ (r : Row). r.slot) (kept_same slot serial row it e)

  same_one : (row it : Row) → kept_away slot serial row ≡ Some it → it.serial ≡ row.serial
  same_one row it e = ap (λ (r : Row). r.serial) (kept_same slot serial row it e)

  pub table_without : IsTable new
  table_without = table_after old new h (kept_away slot serial) same_slot same_one without

  pub rows_without : rows_of new ≡ filter (is_away slot serial) (rows_of old)
  rows_without = rows_after old new h (kept_away slot serial) same_slot same_one without ∙ filter_is_kept (is_away slot serial) (rows_of old)

-- ---- a row changes

module _ (slot serial : ℕ) (delivery : Delivery) where
  abbrev change : Row → Row
  change row = updated_at slot serial delivery row

  abbrev changed : Row → Option Row
  changed row = Some (change row)

  change_keeps : (row : Row) → ((change row).slot ≡ row.slot) × ((change row).serial ≡ row.serial)
  change_keeps row = elim (is_at slot serial row) as (λ b. ((if b then updated delivery row else row).slot ≡ row.slot) × ((if b then updated delivery row else row).serial ≡ row.serial)) [
    | true ↦ (refl, refl)
    | false ↦ (refl, refl)
  ]

  slot_kept : (row it : Row) → changed row ≡ Some it → it.slot ≡ row.slot
  slot_kept row it e = let same : change row ≡ it = cc in ap (λ (r : Row). r.slot) (sym same) ∙ (change_keeps row).0

  serial_kept : (row it : Row) → changed row ≡ Some it → it.serial ≡ row.serial
  serial_kept row it e = let same : change row ≡ it = cc in ap (λ (r : Row). r.serial) (sym same) ∙ (change_keeps row).1

  module _ (table : Slab Row) (h : IsTable table) where
    each_written : (new : Slab Row) (left : Option Row) → Updates table new slot left → left ≡ after changed (get table slot) → (k : ℕ) → get new k ≡ after changed (get table k)
    each_written new left put is = each_changed table new h changed slot left (λ row other. rw (away slot serial row other) refl) put is

    -- where the slot has none, none changes
    pub rows_stay : get table slot ≡ None → rows_of table ≡ map change (rows_of table)
    rows_stay none = rows_after table table h changed slot_kept serial_kept (each_written table (get table slot) (Updates-none table slot) (rw none refl)) ∙ map_is_kept change (rows_of table)

    module _ (row : Row) (there : get table slot ≡ Some row) where
      -- the row that is there is updated where its serial is this one
      pub is_updated : (row.serial == serial) ≡ true → updated delivery row ≡ change row
      is_updated same = rw (serial_decides table h slot serial row there, same) refl

      -- and else it is left as it was
      pub is_left : (row.serial == serial) ≡ false → row ≡ change row
      is_left other = rw (serial_decides table h slot serial row there, other) refl

      module _ (new : Row) (is : new ≡ change row) where
        written : (k : ℕ) → get (with_value table slot new) k ≡ after changed (get table k)
        written =
            let key : ContainsKey table slot = rw there refl in
            each_written (with_value table slot new) (Some new) (Updates-with_value table slot new key) (ap Some is ∙ ap (after changed) (sym there))

        pub table_written : IsTable (with_value table slot new)
        table_written = table_after table (with_value table slot new) h changed slot_kept serial_kept written

        pub rows_written : rows_of (with_value table slot new) ≡ map change (rows_of table)
        rows_written = rows_after table (with_value table slot new) h changed slot_kept serial_kept written ∙ map_is_kept change (rows_of table)
