-- Rows that are in the queue for long, found by their ages.
use Rattle.std.proofs.Common.{◌≡◌, ℕ, Bool, true, false, not, cond, List, [], ◌∷◌, ◌++◌, filter, map, Some, None, refl, sym, ap, ◌∙◌, subst}
use Rattle.std.specs.Prelude.{◌||◌, ◌==◌, find, nat_le}
use Rattle.std.specs.List.{list_any}
use Rattle.std.specs.List.Sorted.{IsPermutation}
use Rattle.std.proofs.lemmas.List.Elements.{filter-append}
use Rattle.sq_base.specs.declared.row.Row.{Row}
use Rattle.sq_base.specs.declared.settings.Settings.{Settings}
use Rattle.sq_deadline.specs.declared.deadline.Deadline.{Deadline}
use Rattle.sq_deadline.specs.Deadlines.{is_due}
use Rattle.sq_deadline.proofs.SetLaws.{found, none_found}
use Rattle.sq_model.specs.Rows.{is_expired, unexpired}
use Rattle.sq_slots.specs.Slots.{AreApart, IsBetween, is_away, is_in}
use Rattle.sq_slots.proofs.RowLists.{is_same, is_this, one_found}
use Rattle.sq_slots.proofs.SplitLaws.{stands_between}
use Rattle.sq_store.specs.Due.{Holds, enqueued_at}
use Rattle.sq_store.specs.SlotStores.{any_row}
use Rattle.sq_store.specs.inside.SlotStores.{IsFromBefore}
use Rattle.sq_store.proofs.AtLaws.{found_at}

pub all_of_any : (rows : List Row) → filter any_row rows ≡ rows
all_of_any [] = refl
all_of_any (r ∷ rs) = ap (λ (xs : List Row). r ∷ xs) (all_of_any rs)

aged_as : (rows : List Row) (ages : List Deadline) → Holds any_row enqueued_at rows ages → IsPermutation (map enqueued_at rows) ages
aged_as rows ages held = rw (all_of_any rows) at held

-- where no age is due no row came so early
pub none_before : (bound : ℕ) (rows : List Row) (ages : List Deadline) → Holds any_row enqueued_at rows ages → find (is_due bound) ages ≡ None → list_any (λ (row : Row). nat_le row.enqueued bound) rows ≡ false
none_before bound rows ages held none = none_found (is_due bound) ages enqueued_at rows none (aged_as rows ages held)

-- a due age is that of the row of its slot
pub due_row : (bound : ℕ) (rows : List Row) (ages : List Deadline) (d : Deadline) → AreApart rows → Holds any_row enqueued_at rows ages → find (is_due bound) ages ≡ Some d
    → (row : Row) × (find (is_in d.slot) rows ≡ Some row) × (nat_le row.enqueued bound ≡ true)
due_row bound rows ages d apart held h =
    let it = found (is_due bound) d ages enqueued_at rows h (aged_as rows ages held) in
    let row = it.0 in
    let here : row.slot ≡ d.slot = ap (λ (e : Deadline). e.slot) it.2 in
    let in_it : is_in d.slot row ≡ true = subst (λ (n : ℕ). (row.slot == n) ≡ true) here (is_this row.slot) in (
      row,
      one_found (is_in d.slot) rows row it.1 in_it (λ other there same. apart.slots other row there it.1 (is_same other.slot d.slot same ∙ sym here)),
      subst (λ (e : Deadline). nat_le e.moment bound ≡ true) (sym it.2) it.3,
    )

pub is_from_before : (bound : ℕ) (rows : List Row) (ages : List Deadline) (d : Deadline) (row : Row) → AreApart rows → Holds any_row enqueued_at rows ages → find (is_due bound) ages ≡ Some d
    → find (is_in d.slot) rows ≡ Some row → IsFromBefore bound rows d.slot row.serial
is_from_before bound rows ages d row apart held h at =
    let it = due_row bound rows ages d apart held h in
    let one : it.0 ≡ row = cc in
    record {
      row = row;
      there = stands_between d.slot row.serial 0 rows row apart.rise apart.slots (found_at d.slot rows row at);
      due = subst (λ (r : Row). nat_le r.enqueued bound ≡ true) one it.2;
    }

-- a row past its retention goes out, and what is kept stays
pub unexpired_without : (s : Settings) (m slot serial : ℕ) (rows : List Row) (row : Row) → IsBetween slot serial rows row → is_expired s m row ≡ true → unexpired s m (filter (is_away slot serial) rows) ≡ unexpired s m rows
unexpired_without s m slot serial rows row there expired =
    let kept : Row → Bool = λ r. not (is_expired s m r) in
    let rest : filter kept (row ∷ there.after) ≡ filter kept there.after = rw expired refl in
    ap (unexpired s m) there.away ∙ filter-append kept there.before there.after ∙ ap (λ (xs : List Row). filter kept there.before ++ xs) (sym rest) ∙ sym (filter-append kept there.before (row ∷ there.after)) ∙ ap (unexpired s m) (sym there.whole)

-- where none is past its retention all are kept
pub all_are_kept : (s : Settings) (m : ℕ) (rows : List Row) → list_any (is_expired s m) rows ≡ false → unexpired s m rows ≡ rows
all_are_kept s m [] h = refl
all_are_kept s m (r ∷ rs) h = elim (is_expired s m r) as (λ b. (b || list_any (is_expired s m) rs) ≡ false → cond (not b) (r ∷ unexpired s m rs) (unexpired s m rs) ≡ r ∷ rs) [
  | true ↦ (λ none. absurd cc)
  | false ↦ (λ none. ap (λ (xs : List Row). r ∷ xs) (all_are_kept s m rs none))
] h

pub any_same : (p q : Row → Bool) → ((r : Row) → p r ≡ q r) → (rows : List Row) → list_any p rows ≡ list_any q rows
any_same p q same [] = refl
any_same p q same (r ∷ rs) = rw (same r, any_same p q same rs) refl

pub none_goes : (s : Settings) (m : ℕ) → ((row : Row) → is_expired s m row ≡ false) → (rows : List Row) → unexpired s m rows ≡ rows
none_goes s m none [] = refl
none_goes s m none (r ∷ rs) = rw (none r) (ap (λ (xs : List Row). r ∷ xs) (none_goes s m none rs))
