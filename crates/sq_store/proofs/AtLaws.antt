-- What lists of rows say of the row of a slot, and of it alone.
use Rattle.std.proofs.Common.{◌≡◌, ◌≢◌, ℕ, Bool, true, false, not, cond, List, [], ◌∷◌, ◌++◌, filter, map, Option, Some, None, refl, sym, ap, ◌∙◌, arith}
use Rattle.std.specs.Prelude.{◌&&◌, ◌||◌, ◌==◌, IfNone, IfSome, find, is_some, if◌then◌else◌}
use Rattle.std.specs.List.{All, list_any}
use Rattle.std.proofs.lemmas.Grind.{common_steps}
use Rattle.std.proofs.lemmas.List.Elements.{All-head, All-tail}
use Rattle.sq_base.specs.declared.row.Row.{Row}
use Rattle.sq_model.specs.declared.calls.Receipt.{Receipt}
use Rattle.sq_model.specs.Rows.{Takes, changed_if, is_held, is_named}
use Rattle.sq_slots.specs.Slots.{AreApart, IsBetween, is_at, is_away, is_in, updated_at}
use Rattle.sq_slots.proofs.RowLists.{any_is_found}
use Rattle.sq_slots.proofs.SplitLaws.{stands_between}

-- ---- where the row is there

other_slot : (a b : ℕ) → a ≢ b → (a == b) ≡ false
other_slot a b h = grind (arith, common_steps)

module _ (slot : ℕ) where
  any_before : (p : Row → Bool) → ((r : Row) → r.slot ≢ slot → p r ≡ false) → (before : List Row) (row : Row) (after : List Row) → All (λ (r : Row). r.slot ≢ slot) (before ++ after) → list_any p (before ++ row ∷ after) ≡ p row
  any_before p fails [] row [] others = elim (p row) as (λ b. (b || false) ≡ b) [ true ↦ refl | false ↦ refl ]
  any_before p fails [] row (x ∷ after) others =
      let rest = any_before p fails [] row after (All-tail (λ (r : Row). r.slot ≢ slot) x after others) in
      let first = fails x (All-head (λ (r : Row). r.slot ≢ slot) x after others) in
      rw first rest
  any_before p fails (x ∷ before) row after others =
      let rest = any_before p fails before row after (All-tail (λ (r : Row). r.slot ≢ slot) x (before ++ after) others) in
      let first = fails x (All-head (λ (r : Row). r.slot ≢ slot) x (before ++ after) others) in
      rw first rest

  all_pass : (p : Row → Bool) → ((r : Row) → r.slot ≢ slot → p r ≡ true) → (rows : List Row) → All (λ (r : Row). r.slot ≢ slot) rows → filter p rows ≡ rows
  all_pass p holds [] others = refl
  all_pass p holds (x ∷ rows) others =
      rw (holds x (All-head (λ (r : Row). r.slot ≢ slot) x rows others)) (ap (λ (xs : List Row). x ∷ xs) (all_pass p holds rows (All-tail (λ (r : Row). r.slot ≢ slot) x rows others)))

  filter_before : (p : Row → Bool) → ((r : Row) → r.slot ≢ slot → p r ≡ true) → (before : List Row) (row : Row) (after : List Row) → All (λ (r : Row). r.slot ≢ slot) (before ++ after)
      → filter p (before ++ row ∷ after) ≡ (if p row then before ++ row ∷ after else before ++ after)
  filter_before p holds [] row after others = elim (p row) as (λ b. cond b (row ∷ filter p after) (filter p after) ≡ (if b then row ∷ after else after)) [
    | true ↦ ap (λ (xs : List Row). row ∷ xs) (all_pass p holds after others)
    | false ↦ all_pass p holds after others
  ]
  filter_before p holds (x ∷ before) row after others =
      let rest = filter_before p holds before row after (All-tail (λ (r : Row). r.slot ≢ slot) x (before ++ after) others) in
      let first = holds x (All-head (λ (r : Row). r.slot ≢ slot) x (before ++ after) others) in
      rw (first, rest) (elim (p row) as (λ b. x ∷ (if b then before ++ row ∷ after else before ++ after) ≡ (if b then x ∷ before ++ row ∷ after else x ∷ before ++ after)) [ true ↦ refl | false ↦ refl ])

  all_stay : (f : Row → Row) → ((r : Row) → r.slot ≢ slot → f r ≡ r) → (rows : List Row) → All (λ (r : Row). r.slot ≢ slot) rows → map f rows ≡ rows
  all_stay f same [] others = refl
  all_stay f same (x ∷ rows) others =
      rw (same x (All-head (λ (r : Row). r.slot ≢ slot) x rows others)) (ap (λ (xs : List Row). x ∷ xs) (all_stay f same rows (All-tail (λ (r : Row). r.slot ≢ slot) x rows others)))

  map_before : (f : Row → Row) → ((r : Row) → r.slot ≢ slot → f r ≡ r) → (before : List Row) (row : Row) (after : List Row) → All (λ (r : Row). r.slot ≢ slot) (before ++ after)
      → map f (before ++ row ∷ after) ≡ before ++ f row ∷ after
  map_before f same [] row after others = ap (λ (xs : List Row). f row ∷ xs) (all_stay f same after others)
  map_before f same (x ∷ before) row after others =
      let rest = map_before f same before row after (All-tail (λ (r : Row). r.slot ≢ slot) x (before ++ after) others) in
      rw (same x (All-head (λ (r : Row). r.slot ≢ slot) x (before ++ after) others)) (ap (λ (xs : List Row). x ∷ xs) rest)

module _ (slot serial : ℕ) (rows : List Row) (row : Row) (s : IsBetween slot serial rows row) where
  -- a test that no other slot passes
  pub any_at : (p : Row → Bool) → ((r : Row) → r.slot ≢ slot → p r ≡ false) → list_any p rows ≡ p row
  any_at p fails = ap (list_any p) s.whole ∙ any_before slot p fails s.before row s.after s.others

  -- what is left by one that all others pass
  pub filter_at : (p : Row → Bool) → ((r : Row) → r.slot ≢ slot → p r ≡ true) → filter p rows ≡ (if p row then rows else s.before ++ s.after)
  filter_at p holds = rw s.whole (filter_before slot p holds s.before row s.after s.others)

  -- a change of no other
  pub map_at : (f : Row → Row) → ((r : Row) → r.slot ≢ slot → f r ≡ r) → map f rows ≡ s.before ++ f row ∷ s.after
  map_at f same = ap (map f) s.whole ∙ map_before slot f same s.before row s.after s.others

pub not_there : (slot serial : ℕ) (r : Row) → r.slot ≢ slot → is_at slot serial r ≡ false
not_there slot serial r other = rw (other_slot r.slot slot other) refl

-- ---- where no row is of this slot and serial

module _ (slot serial : ℕ) where
  none_is : (r : Row) (rs : List Row) → find (is_at slot serial) (r ∷ rs) ≡ None → (is_at slot serial r ≡ false) × (find (is_at slot serial) rs ≡ None)
  none_is r rs h = elim (is_at slot serial r) as (λ b. is_at slot serial r ≡ b → cond b (Some r) (find (is_at slot serial) rs) ≡ None → (is_at slot serial r ≡ false) × (find (is_at slot serial) rs ≡ None)) [
    | true ↦ (λ e found. absurd cc)
    | false ↦ (λ e found. (e, found))
  ] refl h

  pub any_none : (p : Row → Bool) → ((r : Row) → is_at slot serial r ≡ false → p r ≡ false) → (rows : List Row) → find (is_at slot serial) rows ≡ None → list_any p rows ≡ false
  any_none p fails [] h = refl
  any_none p fails (r ∷ rs) h = let k = none_is r rs h in rw (fails r k.0) (any_none p fails rs k.1)

  pub filter_none : (p : Row → Bool) → ((r : Row) → is_at slot serial r ≡ false → p r ≡ true) → (rows : List Row) → find (is_at slot serial) rows ≡ None → filter p rows ≡ rows
  filter_none p holds [] h = refl
  filter_none p holds (r ∷ rs) h = let k = none_is r rs h in rw (holds r k.0) (ap (λ (xs : List Row). r ∷ xs) (filter_none p holds rs k.1))

  pub map_none : (f : Row → Row) → ((r : Row) → is_at slot serial r ≡ false → f r ≡ r) → (rows : List Row) → find (is_at slot serial) rows ≡ None → map f rows ≡ rows
  map_none f same [] h = refl
  map_none f same (r ∷ rs) h = let k = none_is r rs h in rw (same r k.0) (ap (λ (xs : List Row). r ∷ xs) (map_none f same rs k.1))

-- the one that is found by its slot is found by its serial too
pub found_at : (slot : ℕ) (rows : List Row) (row : Row) → find (is_in slot) rows ≡ Some row → find (is_at slot row.serial) rows ≡ Some row
found_at slot [] row h = absurd cc
found_at slot (r ∷ rs) row h =
    elim (r.slot == slot) as (λ b. (r.slot == slot) ≡ b → cond b (Some r) (find (is_in slot) rs) ≡ Some row → cond (b && (r.serial == row.serial)) (Some r) (find (is_at slot row.serial) rs) ≡ Some row) [
      | true ↦ (λ e found. let one : r ≡ row = cc in let same : (r.serial == row.serial) ≡ true = grind (arith, common_steps, ap (λ (x : Row). x.serial) one) in rw same found)
      | false ↦ (λ e found. found_at slot rs row found)
    ] refl h

-- a test of what is left by another test
pub any_filter : (p q : Row → Bool) (rows : List Row) → list_any p (filter q rows) ≡ list_any (λ r. q r && p r) rows
any_filter p q [] = refl
any_filter p q (r ∷ rs) = elim (q r) as (λ b. list_any p (cond b (r ∷ filter q rs) (filter q rs)) ≡ ((b && p r) || list_any (λ x. q x && p x) rs)) [
  | true ↦ ap (λ (b : Bool). p r || b) (any_filter p q rs)
  | false ↦ any_filter p q rs
]

and_false : (b : Bool) → (b && false) ≡ false
and_false true = refl
and_false false = refl

module _ (slot serial : ℕ) (rows : List Row) where
  pub any_left_at : (row : Row) → IsBetween slot serial rows row → (p q : Row → Bool) → ((r : Row) → r.slot ≢ slot → p r ≡ false) → list_any p (filter q rows) ≡ (q row && p row)
  any_left_at row s p q fails = any_filter p q rows ∙ any_at slot serial rows row s (λ r. q r && p r) (λ r other. ap (λ (b : Bool). q r && b) (fails r other) ∙ and_false (q r))

  pub any_left_none : (p q : Row → Bool) → ((r : Row) → is_at slot serial r ≡ false → p r ≡ false) → find (is_at slot serial) rows ≡ None → list_any p (filter q rows) ≡ false
  any_left_none p q fails none = any_filter p q rows ∙ any_none slot serial (λ r. q r && p r) (λ r other. ap (λ (b : Bool). q r && b) (fails r other) ∙ and_false (q r)) rows none

-- ---- tests of a receipt

module _ (receipt : Receipt) where
  pub named_there : (r : Row) → r.slot ≢ receipt.slot → is_named receipt r ≡ false
  named_there r other = rw (other_slot r.slot receipt.slot other) refl

  pub named_at : (r : Row) → is_at receipt.slot receipt.serial r ≡ false → is_named receipt r ≡ false
  named_at r fails = elim (r.slot == receipt.slot) as (λ a. (a && (r.serial == receipt.serial)) ≡ false → (a && (r.serial == receipt.serial) && (r.receives == receipt.receive)) ≡ false) [
    | true ↦ (λ h. rw h refl)
    | false ↦ (λ h. refl)
  ] fails

  pub held_there : (m : ℕ) (r : Row) → r.slot ≢ receipt.slot → is_held m receipt r ≡ false
  held_there m r other = rw (named_there r other) refl

  pub held_at : (m : ℕ) (r : Row) → is_at receipt.slot receipt.serial r ≡ false → is_held m receipt r ≡ false
  held_at m r fails = rw (named_at r fails) refl

  pub changed_there : (m until : ℕ) (r : Row) → r.slot ≢ receipt.slot → changed_if m receipt until r ≡ r
  changed_there m until r other = rw (held_there m r other) refl

  pub changed_none : (m until : ℕ) (r : Row) → is_at receipt.slot receipt.serial r ≡ false → changed_if m receipt until r ≡ r
  changed_none m until r fails = rw (held_at m r fails) refl

  -- the row of its slot and serial is its row where the receive number is its own
  pub named_is : (r : Row) → is_at receipt.slot receipt.serial r ≡ true → is_named receipt r ≡ (r.receives == receipt.receive)
  named_is r is = elim (r.slot == receipt.slot) as (λ a. (a && (r.serial == receipt.serial)) ≡ true → (a && (r.serial == receipt.serial) && (r.receives == receipt.receive)) ≡ (r.receives == receipt.receive)) [
    | true ↦ (λ h. rw h refl)
    | false ↦ (λ h. absurd cc)
  ] is

-- what a receipt does at the row that its slot and its serial have
module _ (receipt : Receipt) (rows : List Row) (row : Row) (apart : AreApart rows) (there : find (is_at receipt.slot receipt.serial) rows ≡ Some row) where
  stands : IsBetween receipt.slot receipt.serial rows row
  stands = stands_between receipt.slot receipt.serial 0 rows row apart.rise apart.slots there

  -- it is held among those that are left, where it is left
  pub held_if : (q : Row → Bool) (m : ℕ) (b : Bool) → q row ≡ b → list_any (is_held m receipt) (filter q rows) ≡ (b && is_held m receipt row)
  held_if q m b is = any_left_at receipt.slot receipt.serial rows row stands (is_held m receipt) q (held_there receipt m) ∙ ap (λ (left : Bool). left && is_held m receipt row) is

  -- it goes out where its receive number is its own
  pub taken_if : (b : Bool) → (row.receives == receipt.receive) ≡ b
      → filter (λ r. not (is_named receipt r)) rows ≡ (if b then filter (is_away receipt.slot receipt.serial) rows else rows)
  taken_if b is = filter_at receipt.slot receipt.serial rows row stands (λ r. not (is_named receipt r)) (λ r other. rw (named_there receipt r other) refl)
      ∙ rw (named_is receipt row stands.at, is) (elim b as (λ v. (if not v then rows else stands.before ++ stands.after) ≡ (if v then filter (is_away receipt.slot receipt.serial) rows else rows)) [
        | true ↦ sym stands.away
        | false ↦ refl
      ])

  -- it is hidden until another moment where it is held
  pub changed_at : (m until : ℕ) (b : Bool) → is_held m receipt row ≡ b
      → map (changed_if m receipt until) rows ≡ (if b then map (updated_at receipt.slot receipt.serial (record { receives = row.receives; visible_from = until; last_receive = row.last_receive })) rows else rows)
  changed_at m until b is = map_at receipt.slot receipt.serial rows row stands (changed_if m receipt until) (changed_there receipt m until)
      ∙ rw is (elim b as (λ v. stands.before ++ (if v then record row { visible_from = until } else row) ∷ stands.after ≡ (if v then map (updated_at receipt.slot receipt.serial (record { receives = row.receives; visible_from = until; last_receive = row.last_receive })) rows else rows)) [
        | true ↦ sym (stands.changed _)
        | false ↦ sym stands.whole
      ])

-- ---- one test after another

pub both_and : (a b c : Bool) → (a && b) ≡ true → (a && (b && c)) ≡ c
both_and true true c h = refl
both_and true false c h = absurd cc
both_and false b c h = absurd cc

pub not_both_and : (a b c : Bool) → (a && b) ≡ false → (a && (b && c)) ≡ false
not_both_and true true c h = absurd cc
not_both_and true false c h = refl
not_both_and false b c h = refl

-- ---- the one that goes out

pub goes_with : (slot serial : ℕ) (rows rest : List Row) (taken : Option Row) → taken ≡ find (is_at slot serial) rows → IfSome taken (IsBetween slot serial rows) → rest ≡ filter (is_away slot serial) rows
    → IfSome taken (λ row. (is_at slot serial row ≡ true) × Takes row rows rest) × IfNone taken (list_any (is_at slot serial) rows ≡ false) × IfNone taken (rest ≡ rows)
goes_with slot serial rows rest None is s left =
    (tt, any_is_found (is_at slot serial) rows ∙ ap is_some (sym is), left ∙ filter_none slot serial (is_away slot serial) (λ r other. rw other refl) rows (sym is))
goes_with slot serial rows rest (Some row) is s left = ((s.at, record { before = s.before; after = s.after; at = s.whole; left = left ∙ s.away }), tt, tt)
