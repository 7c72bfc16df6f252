-- The rows before and after the one of a slot, and what becomes of them where it goes out or changes.
use Rattle.std.proofs.Common.{◌≡◌, ◌≢◌, ◌∙◌, ℕ, ◌+◌, true, false, cond, List, [], ◌∷◌, ◌++◌, filter, map, Some, None, Contains, refl, sym, ap, subst, arith}
use Rattle.std.specs.Prelude.{find, if◌then◌else◌}
use Rattle.std.specs.List.{All}
use Rattle.std.proofs.lemmas.Grind.{common_steps}
use Rattle.std.proofs.lemmas.List.Elements.{All-contains_itself, All-cons, All-weaker}
use Rattle.slab.proofs.SlabLemmas.{Contains-cons}
use Rattle.sq_base.specs.declared.row.Row.{Row}
use Rattle.sq_slots.specs.declared.table.Delivery.{Delivery}
use Rattle.sq_slots.specs.Slots.{HaveOwnSlots, IsBetween, SerialsRise, is_at, is_away, updated, updated_at}
use Rattle.sq_slots.proofs.RowLists.{contains_first, is_other, not_below}

not_at : (slot serial : ℕ) (row : Row) → row.slot ≢ slot → is_at slot serial row ≡ false
not_at slot serial row other = rw (is_other row.slot slot other) refl

at_slot : (slot serial : ℕ) (row : Row) → is_at slot serial row ≡ true → row.slot ≡ slot
at_slot slot serial row h = grind (arith, common_steps, h)

-- none of other slots goes out
all_stay : (slot serial : ℕ) (rows : List Row) → ((r : Row) → Contains rows r → r.slot ≢ slot) → filter (is_away slot serial) rows ≡ rows
all_stay slot serial [] others = refl
all_stay slot serial (r ∷ rs) others = rw (not_at slot serial r (others r (contains_first r rs))) (ap (λ (xs : List Row). r ∷ xs) (all_stay slot serial rs (λ x there. others x (Contains-cons r x rs there))))

-- and none changes
all_same : (slot serial : ℕ) (delivery : Delivery) (rows : List Row) → ((r : Row) → Contains rows r → r.slot ≢ slot) → map (updated_at slot serial delivery) rows ≡ rows
all_same slot serial delivery [] others = refl
all_same slot serial delivery (r ∷ rs) others =
    rw (not_at slot serial r (others r (contains_first r rs))) (ap (λ (xs : List Row). r ∷ xs) (all_same slot serial delivery rs (λ x there. others x (Contains-cons r x rs there))))

all_of : (P : Row → Type 0) (rows : List Row) → ((r : Row) → Contains rows r → P r) → All P rows
all_of P rows h = All-weaker (Contains rows) P h rows (All-contains_itself rows)

-- where the first row is it
first_is_it : (slot serial low : ℕ) (r : Row) (rs : List Row) → SerialsRise low (r ∷ rs) → HaveOwnSlots (r ∷ rs) → is_at slot serial r ≡ true → IsBetween slot serial (r ∷ rs) r
first_is_it slot serial low r rs rise own is =
    let here : r.slot ≡ slot = at_slot slot serial r is in
    let others : (x : Row) → Contains rs x → x.slot ≢ slot = λ x there same.
    let one : x ≡ r = own x r (Contains-cons r x rs there) (contains_first r rs) (same ∙ sym here) in
    let above = not_below (r.serial + 1) rs x rise.1 there in
    omega (arith, above, ap (λ (y : Row). y.serial) one) in
    record {
      before = [];
      after = rs;
      whole = refl;
      there = contains_first r rs;
      at = is;
      slot_is = here;
      others = all_of (λ (x : Row). x.slot ≢ slot) rs others;
      away = rw is (all_stay slot serial rs others);
      changed = λ delivery. rw is (ap (λ (xs : List Row). updated delivery r ∷ xs) (all_same slot serial delivery rs others));
    }

-- a row before it
one_before : (slot serial : ℕ) (r : Row) (rs : List Row) (row : Row) → r.slot ≢ slot → IsBetween slot serial rs row → IsBetween slot serial (r ∷ rs) row
one_before slot serial r rs row other s =
    let no = not_at slot serial r other in
    record {
      before = r ∷ s.before;
      after = s.after;
      whole = ap (λ (xs : List Row). r ∷ xs) s.whole;
      there = Contains-cons r row rs s.there;
      at = s.at;
      slot_is = s.slot_is;
      others = All-cons (λ (x : Row). x.slot ≢ slot) r (s.before ++ s.after) other s.others;
      away = rw no (ap (λ (xs : List Row). r ∷ xs) s.away);
      changed = λ delivery. rw no (ap (λ (xs : List Row). r ∷ xs) (s.changed delivery));
    }

pub stands_between : (slot serial low : ℕ) (rows : List Row) (row : Row) → SerialsRise low rows → HaveOwnSlots rows → find (is_at slot serial) rows ≡ Some row → IsBetween slot serial rows row
stands_between slot serial low [] row rise own h = absurd cc
stands_between slot serial low (r ∷ rs) row rise own h =
    elim (is_at slot serial r) as (λ b. is_at slot serial r ≡ b → cond b (Some r) (find (is_at slot serial) rs) ≡ Some row → IsBetween slot serial (r ∷ rs) row) [
      | true ↦ (λ is found. let one : r ≡ row = cc in subst (IsBetween slot serial (r ∷ rs)) one (first_is_it slot serial low r rs rise own is))
      | false ↦ (λ is found.
          let rest = stands_between slot serial (r.serial + 1) rs row rise.1 (λ a b in_a in_b. own a b (Contains-cons r a rs in_a) (Contains-cons r b rs in_b)) found in
          let other : r.slot ≢ slot = λ same.
          let one : r ≡ row = own r row (contains_first r rs) (Contains-cons r row rs rest.there) (same ∙ sym rest.slot_is) in
          let no : is_at slot serial row ≡ false = subst (λ (x : Row). is_at slot serial x ≡ false) one is in
          let k : true ≡ false = sym rest.at ∙ no in cc in
          one_before slot serial r rs row other rest)
    ] refl h

-- where no row is of this slot and serial none changes
pub none_changes : (slot serial : ℕ) (delivery : Delivery) (rows : List Row) → find (is_at slot serial) rows ≡ None → map (updated_at slot serial delivery) rows ≡ rows
none_changes slot serial delivery [] h = refl
none_changes slot serial delivery (r ∷ rs) h =
    elim (is_at slot serial r) as (λ b. cond b (Some r) (find (is_at slot serial) rs) ≡ None → (if b then updated delivery r else r) ∷ map (updated_at slot serial delivery) rs ≡ r ∷ rs) [
      | true ↦ (λ found. absurd cc)
      | false ↦ (λ found. ap (λ (xs : List Row). r ∷ xs) (none_changes slot serial delivery rs found))
    ] h
