-- Items in rising number: where one of a number stands, and what is left where it goes out or turns.
use Rattle.std.proofs.Common.{◌≡◌, ℕ, zero, suc, ◌+◌, ◌<◌, ◌≤◌, Bool, true, false, not, cond, List, [], ◌∷◌, length, map, Option, Some, None, refl, sym, ap, ◌∙◌, subst, arith}
use Rattle.std.specs.Prelude.{◌==◌, if◌then◌else◌, nat_le, nat_lt, find, option_map, slice_get, OnSome}
use Rattle.std.specs.Option.{option_or}
use Rattle.std.specs.List.{ItemBy, position_or_len, slice_index_or, slice_set, remove}
use Rattle.std.specs.List.Sorted.{IsNonDecreasingBy, IsPartitionPoint}
use Rattle.std.proofs.lemmas.Grind.{common_steps}
use Rattle.std.proofs.lemmas.List.Sums.{position_or_len_is}
use Rattle.std.proofs.lemmas.List.Folds.{find_at}
use Rattle.std.proofs.lemmas.Option.{get_or_from_slice_get, slice_get-get_or, slice_get_past, slice_get_read, slice_get_within}
use Rattle.sq_model.specs.declared.item.Item.{Item}
use Rattle.sq_model.specs.Ledgers.{has_number, items_without, turned, turned_if, ItemsRise}
use Rattle.sq_laws.proofs.LedgerLists.{some_same}

abbrev pub number_of : Item → ℕ
number_of item = item.number

-- where the first item stands that is not below a number
abbrev pub index_of : ℕ → List Item → ℕ
index_of number items = position_or_len (λ item. nat_le number item.number) items

next_index : (number : ℕ) (items : List Item) → 1 + index_of number items ≡ suc (index_of number items)
next_index number items = omega arith

-- ---- numbers do not fall

none_below : (low : ℕ) (items : List Item) (next k : ℕ) (d : Item) → ItemsRise low items next → k < length items → low ≤ (slice_index_or items k d).number
none_below low [] next k d h lt = absurd (omega (arith, lt))
none_below low (x ∷ items) next zero d h lt = h.0
none_below low (x ∷ items) next (suc k) d h lt = let rest = none_below (x.number + 1) items next k d h.1 (omega (arith, lt)) in omega (arith, rest, h.0)

pub do_not_fall : (low : ℕ) (items : List Item) (next : ℕ) → ItemsRise low items next → IsNonDecreasingBy number_of items
do_not_fall low [] next h i j d le lt = absurd (omega (arith, lt))
do_not_fall low (x ∷ items) next h zero zero d le lt = omega arith
do_not_fall low (x ∷ items) next h zero (suc j) d le lt = let rest = none_below (x.number + 1) items next j d h.1 (omega (arith, lt)) in omega (arith, rest)
do_not_fall low (x ∷ items) next h (suc i) zero d le lt = absurd (omega (arith, le))
do_not_fall low (x ∷ items) next h (suc i) (suc j) d le lt = do_not_fall (x.number + 1) items next h.1 i j d (omega (arith, le)) (omega (arith, lt))

-- ---- the index that a binary search finds

is_below : (a b : ℕ) → nat_lt a b ≡ true → nat_le b a ≡ false
is_below a b h = grind (arith, common_steps, h)

is_from : (a b : ℕ) → nat_lt a b ≡ false → nat_le b a ≡ true
is_from a b h = grind (arith, common_steps, h)

is_within : (a b : ℕ) → nat_le a b ≡ true → nat_lt b a ≡ false
is_within a b h = grind (arith, common_steps, h)

is_above : (a b : ℕ) → nat_le a b ≡ false → nat_lt b a ≡ true
is_above a b h = grind (arith, common_steps, h)

pub index_is : (number : ℕ) (items : List Item) (index : ℕ) → index ≤ length items
    → IsPartitionPoint (λ item. nat_lt item.number number ≡ true) (λ item. nat_lt item.number number ≡ false) items index → index ≡ index_of number items
index_is number [] index le point = omega (arith, le)
index_is number (x ∷ items) index le point = sym (position_or_len_is (λ item. nat_le number item.number) (x ∷ items) index x le
    (λ k lt. is_below _ number (point.0 k x (omega arith) lt))
    (λ lt. is_from _ number (point.1 index x (omega arith) lt)))

pub above_is : (number : ℕ) (items : List Item) (index : ℕ) → index ≤ length items
    → IsPartitionPoint (λ item. nat_le item.number number ≡ true) (λ item. nat_le item.number number ≡ false) items index → index ≡ position_or_len (λ item. nat_lt number item.number) items
above_is number [] index le point = omega (arith, le)
above_is number (x ∷ items) index le point = sym (position_or_len_is (λ item. nat_lt number item.number) (x ∷ items) index x le
    (λ k lt. is_within _ number (point.0 k x (omega arith) lt))
    (λ lt. is_above _ number (point.1 index x (omega arith) lt)))

-- ---- what stands there

-- an item, where it passes
abbrev pub kept_if : (Item → Bool) → Option Item → Option Item
kept_if p None = None
kept_if p (Some item) = if p item then Some item else None

not_same : (a b : ℕ) → a < b → (b == a) ≡ false
not_same a b h = grind (arith, common_steps)

other : (a b : ℕ) → nat_le a b ≡ false → (b == a) ≡ false
other a b h = grind (arith, common_steps, h)

not_above : (a b : ℕ) → nat_le a b ≡ true → a < b + 1
not_above a b h = grind (arith, common_steps, h)

-- no item from a higher number on has a lower one
none_of : (number low : ℕ) (items : List Item) (next : ℕ) → number < low → ItemsRise low items next → find (has_number number) items ≡ None
none_of number low [] next lt h = refl
none_of number low (x ∷ items) next lt h = rw (not_same number x.number (omega (arith, lt, h.0))) (none_of number (x.number + 1) items next (omega (arith, lt, h.0)) h.1)

-- the item of a number is the one that stands at its index, or none
pub found_at_index : (number low : ℕ) (items : List Item) (next : ℕ) → ItemsRise low items next → find (has_number number) items ≡ kept_if (has_number number) (slice_get items (index_of number items))
found_at_index number low [] next h = refl
found_at_index number low (x ∷ items) next h =
    elim (nat_le number x.number) as (λ b. nat_le number x.number ≡ b → find (has_number number) (x ∷ items) ≡ kept_if (has_number number) (slice_get (x ∷ items) (cond (not b) (1 + index_of number items) 0))) [
      | true ↦ (λ e. elim (has_number number x) as (λ b. has_number number x ≡ b → cond b (Some x) (find (has_number number) items) ≡ (if b then Some x else None)) [
        | true ↦ (λ f. refl)
        | false ↦ (λ f. none_of number (x.number + 1) items next (not_above number x.number e) h.1)
      ] refl)
      | false ↦ (λ e. rw (other number x.number e, next_index number items) (found_at_index number (x.number + 1) items next h.1))
    ] refl

-- ---- what is left

-- where none is found, none goes out
pub none_goes : (number : ℕ) (items : List Item) → find (has_number number) items ≡ None → items_without number items ≡ items
none_goes number [] h = refl
none_goes number (x ∷ items) h =
    elim (has_number number x) as (λ b. cond b (Some x) (find (has_number number) items) ≡ None → cond (not b) (x ∷ items_without number items) (items_without number items) ≡ x ∷ items) [
      | true ↦ (λ e. absurd cc)
      | false ↦ (λ e. ap (λ (rest : List Item). x ∷ rest) (none_goes number items e))
    ] h

-- and none turns
pub none_turns : (number : ℕ) (items : List Item) → find (has_number number) items ≡ None → map (turned_if number) items ≡ items
none_turns number [] h = refl
none_turns number (x ∷ items) h =
    elim (has_number number x) as (λ b. cond b (Some x) (find (has_number number) items) ≡ None → (if b then turned x else x) ∷ map (turned_if number) items ≡ x ∷ items) [
      | true ↦ (λ e. absurd cc)
      | false ↦ (λ e. ap (λ (rest : List Item). x ∷ rest) (none_turns number items e))
    ] h

-- where one is found at a index, none is of its number after it
none_after : (number : ℕ) (x : Item) (items : List Item) (next : ℕ) → nat_le number x.number ≡ true → ItemsRise (x.number + 1) items next → find (has_number number) items ≡ None
none_after number x items next e h = none_of number (x.number + 1) items next (not_above number x.number e) h

-- one that is found goes out of its index
pub goes_out : (number low : ℕ) (items : List Item) (next : ℕ) (item : Item) → ItemsRise low items next → find (has_number number) items ≡ Some item → items_without number items ≡ remove items (index_of number items)
goes_out number low [] next item h found = absurd cc
goes_out number low (x ∷ items) next item h found =
    elim (nat_le number x.number) as (λ b. nat_le number x.number ≡ b → items_without number (x ∷ items) ≡ remove (x ∷ items) (cond (not b) (1 + index_of number items) 0)) [
      | true ↦ (λ e. let none = none_after number x items next e h.1 in
          elim (has_number number x) as (λ b. cond b (Some x) (find (has_number number) items) ≡ Some item → cond (not b) (x ∷ items_without number items) (items_without number items) ≡ items) [
            | true ↦ (λ g. none_goes number items none)
            | false ↦ (λ g. absurd cc)
          ] found)
      | false ↦ (λ e. rw (other number x.number e, next_index number items) (ap (λ (rest : List Item). x ∷ rest) (goes_out number (x.number + 1) items next item h.1 (rw (other number x.number e) at found))))
    ] refl

-- and turns there
pub turns : (number low : ℕ) (items : List Item) (next : ℕ) (item : Item) → ItemsRise low items next → find (has_number number) items ≡ Some item → map (turned_if number) items ≡ slice_set items (index_of number items) (turned item)
turns number low [] next item h found = absurd cc
turns number low (x ∷ items) next item h found =
    elim (nat_le number x.number) as (λ b. nat_le number x.number ≡ b → map (turned_if number) (x ∷ items) ≡ slice_set (x ∷ items) (cond (not b) (1 + index_of number items) 0) (turned item)) [
      | true ↦ (λ e. let none = none_after number x items next e h.1 in
          elim (has_number number x) as (λ b. cond b (Some x) (find (has_number number) items) ≡ Some item → (if b then turned x else x) ∷ map (turned_if number) items ≡ turned item ∷ items) [
            | true ↦ (λ g. rw (none_turns number items none) (ap (λ (y : Item). turned y ∷ items) (some_same x item g)))
            | false ↦ (λ g. absurd cc)
          ] found)
      | false ↦ (λ e. rw (other number x.number e, next_index number items) (ap (λ (rest : List Item). x ∷ rest) (turns number (x.number + 1) items next item h.1 (rw (other number x.number e) at found))))
    ] refl

-- ---- what is read

-- what a list lends at a index
pub read_is : {R : Type 0} (now : R → Item) (items : List Item) (index : ℕ) (lent : Option R) → ItemBy now items index index lent → option_map now lent ≡ slice_get items index
read_is {R} now items index None h = sym (slice_get_past items index h.3)
read_is {R} now items index (Some x) h = sym (slice_get_read items (length items) index (now x) refl h.3.0 h.1)

-- and so the item of a number
pub found_by : {R : Type 0} (now : R → Item) (number : ℕ) (items : List Item) (next index : ℕ) (lent : Option R) → ItemsRise 1 items next → index ≡ index_of number items → ItemBy now items index index lent
    → find (has_number number) items ≡ kept_if (has_number number) (option_map now lent)
found_by {R} now number items next index lent rises is h =
    rw (read_is now items index lent h, is) (found_at_index number 1 items next rises)

kept_is : (p : Item → Bool) (o : Option Item) (item : Item) → kept_if p o ≡ Some item → o ≡ Some item
kept_is p None item h = absurd cc
kept_is p (Some x) item h = elim (p x) as (λ b. (if b then Some x else None) ≡ Some item → Some x ≡ Some item) [ true ↦ (λ e. e) | false ↦ (λ e. absurd cc) ] h

-- one that is found stands at its index
stands : (number : ℕ) (items : List Item) (next index : ℕ) (item : Item) → ItemsRise 1 items next → index ≡ index_of number items → find (has_number number) items ≡ Some item → slice_get items index ≡ Some item
stands number items next index item rises is found =
    ap (slice_get items) is ∙ kept_is (has_number number) (slice_get items (index_of number items)) item (sym (found_at_index number 1 items next rises) ∙ found)

-- what is taken out of that index is the item, and the others are left
pub taken_out : (number : ℕ) (items left : List Item) (next index : ℕ) (out : Option Item) (item : Item) → ItemsRise 1 items next → index ≡ index_of number items → find (has_number number) items ≡ Some item
    → ((d : Item) → index < length items → out ≡ Some (slice_index_or items index d)) → OnSome out (left ≡ remove items index)
    → (out ≡ find (has_number number) items) × (left ≡ items_without number items)
taken_out number items left next index out item rises is found value rest =
    let there = stands number items next index item rises is found in
    let taken : out ≡ Some item = value item (slice_get_within items index item there) ∙ ap (λ (x : Item). Some x) (get_or_from_slice_get items index item item there) in (
      taken ∙ sym found,
      (subst (λ (o : Option Item). OnSome o (left ≡ remove items index)) taken rest) ∙ ap (remove items) is ∙ sym (goes_out number 1 items next item rises found),
    )

-- the item that stands there turns, where it is of the number
pub turned_at : (number : ℕ) (items : List Item) (next index : ℕ) (item : Item) → ItemsRise 1 items next → index ≡ index_of number items → find (has_number number) items ≡ Some item
    → map (turned_if number) items ≡ slice_set items index (turned item)
turned_at number items next index item rises is found =
    turns number 1 items next item rises found ∙ ap (λ (k : ℕ). slice_set items k (turned item)) (sym is)

-- written again as it is, an item leaves the list as it is
pub set_same : (items : List Item) (index : ℕ) (item : Item) → slice_get items index ≡ Some item → slice_set items index item ≡ items
set_same [] index item h = refl
set_same (x ∷ items) zero item h = ap (λ (y : Item). y ∷ items) (sym (some_same x item h))
set_same (x ∷ items) (suc index) item h = ap (λ (rest : List Item). x ∷ rest) (set_same items index item h)

-- ---- the next one in a circle

-- the first above a number stands where it is found
pub first_above : (number : ℕ) (items : List Item) (index : ℕ) → index ≡ position_or_len (λ item. nat_lt number item.number) items → index < length items
    → slice_get items index ≡ option_or (find (λ item. nat_lt number item.number) items) (slice_get items 0)
first_above number [] index is lt = absurd (omega (arith, lt))
first_above number (x ∷ items) index is lt =
    let there = slice_get-get_or (x ∷ items) index x lt in
    let found : find (λ item. nat_lt number item.number) (x ∷ items) ≡ Some (slice_index_or (x ∷ items) index x) =
    find_at (λ item. nat_lt number item.number) (x ∷ items) ∙ ap (slice_get (x ∷ items)) (sym is) ∙ there in
    there ∙ sym (ap (λ (o : Option Item). option_or o (Some x)) found)

-- and where none is above it, it is the first of all
pub first_again : (number : ℕ) (items : List Item) (index : ℕ) → index ≡ position_or_len (λ item. nat_lt number item.number) items → length items ≤ index
    → slice_get items 0 ≡ option_or (find (λ item. nat_lt number item.number) items) (slice_get items 0)
first_again number items index is le =
    let none : find (λ item. nat_lt number item.number) items ≡ None =
    find_at (λ item. nat_lt number item.number) items ∙ ap (slice_get items) (sym is) ∙ slice_get_past items index le in
    sym (ap (λ (o : Option Item). option_or o (slice_get items 0)) none)
