-- The lists of a store, where a row comes in, goes out or changes.
use Rattle.std.proofs.Common.{◌≡◌, ◌≢◌, ℕ, ◌+◌, ◌<◌, ◌≤◌, Bool, true, false, List, [], ◌∷◌, ◌++◌, length, refl, sym, ◌∙◌, subst, arith}
use Rattle.std.specs.Prelude.{◌==◌, filter}
use Rattle.std.specs.List.{All, list_any}
use Rattle.std.proofs.lemmas.List.{append-nil, length-append}
use Rattle.std.proofs.lemmas.List.Elements.{All-filter, All-weaker}
use Rattle.sq_base.specs.declared.row.Row.{Row}
use Rattle.sq_deadline.specs.declared.deadline.Deadline.{Deadline}
use Rattle.sq_deadline.specs.Deadlines.{IndexValue, DeadlinesRise, with_deadline, is_other, is_same}
use Rattle.sq_deadline.proofs.SetLaws.{is_absent, none_passes}
use Rattle.sq_slots.specs.declared.table.Delivery.{Delivery}
use Rattle.sq_slots.specs.Slots.{is_in, updated}
use Rattle.sq_slots.proofs.RowLists.{is_this}
use Rattle.sq_store.specs.Due.{Holds, enqueued_at, is_received_below, is_unreceived, is_exhausted_by, space, visible_at}
use Rattle.sq_store.specs.declared.visible.VisibleFrom.{VisibleFrom}
use Rattle.sq_store.specs.Visible.{HasSpace}
use Rattle.sq_store.specs.inside.Visible.{IsCleared, IsOrdered, IsSet, HasSpareFor}
use Rattle.sq_store.specs.SlotStores.{AreVisible, IsIndexed, received_row, any_row, unreceived_row, exhausted_row}
use Rattle.sq_store.proofs.HeldLaws.{held_in, held_out, held_same}
use Rattle.sq_store.proofs.MemoryLaws.{has_more, has_spare}

module _ (before : List Row) (row : Row) (after : List Row) where
  -- no row of this slot stands in a list
  pub absent : (class : Row → Bool) (key : Row → Deadline) → ((r : Row) → (key r).slot ≡ r.slot) → row.slot < 4294967296 → All (λ (r : Row). r.slot ≢ row.slot) (before ++ after)
      → (b : Bool) (ds : List Deadline) → (b ≡ true → DeadlinesRise 0 ds) → Holds class key (before ++ after) ds → b ≡ true → list_any (is_same (key row)) ds ≡ false
  absent class key slots fits others b ds rise held is =
      let here : (key row).slot ≡ row.slot = slots row in
      let apart : (r : Row) → r.slot ≢ row.slot → (key r).slot ≢ (key row).slot = λ r other same. other (sym (slots r) ∙ same ∙ here) in
      is_absent 0 (key row) ds key (filter class (before ++ after)) (rise is) (omega (arith, fits, here))
      (All-filter class (λ (r : Row). (key r).slot ≢ (key row).slot) (before ++ after) (All-weaker (λ (r : Row). r.slot ≢ row.slot) (λ (r : Row). (key r).slot ≢ (key row).slot) apart (before ++ after) others)) held

  pub comes_in : (old new : VisibleFrom) → row.slot < 4294967296 → All (λ (r : Row). r.slot ≢ row.slot) (before ++ after) → IsOrdered row.receives old → IsSet row.receives (visible_at row) old new
      → AreVisible (before ++ after) old → AreVisible (before ++ row ∷ after) new
  comes_in old new fits others ordered set held =
      let most = old.most in
      record {
        unreceived = rw set.unreceived (held_in unreceived_row visible_at before row after (is_unreceived row.receives) refl old.unreceived.deadlines (absent unreceived_row visible_at (λ r. refl) fits others (is_unreceived row.receives) old.unreceived.deadlines ordered.unreceived held.unreceived) held.unreceived);
        received = rw (set.most, set.received) (held_in (received_row most) visible_at before row after (is_received_below most row.receives) refl old.received.deadlines (absent (received_row most) visible_at (λ r. refl) fits others (is_received_below most row.receives) old.received.deadlines ordered.received held.received) held.received);
        exhausted = rw (set.most, set.exhausted) (held_in (exhausted_row most) visible_at before row after (is_exhausted_by most row.receives) refl old.exhausted.deadlines (absent (exhausted_row most) visible_at (λ r. refl) fits others (is_exhausted_by most row.receives) old.exhausted.deadlines ordered.exhausted held.exhausted) held.exhausted);
      }

  pub goes_out : (old new : VisibleFrom) → IsOrdered row.receives old → IsCleared row.receives (visible_at row) old new → AreVisible (before ++ row ∷ after) old → AreVisible (before ++ after) new
  goes_out old new ordered cleared held =
      let most = old.most in
      record {
        unreceived = rw cleared.unreceived (held_out unreceived_row visible_at before row after (is_unreceived row.receives) refl old.unreceived.deadlines ordered.unreceived held.unreceived);
        received = rw (cleared.most, cleared.received) (held_out (received_row most) visible_at before row after (is_received_below most row.receives) refl old.received.deadlines ordered.received held.received);
        exhausted = rw (cleared.most, cleared.exhausted) (held_out (exhausted_row most) visible_at before row after (is_exhausted_by most row.receives) refl old.exhausted.deadlines ordered.exhausted held.exhausted);
      }

  pub ages_in : (ages : List Deadline) → row.slot < 4294967296 → All (λ (r : Row). r.slot ≢ row.slot) (before ++ after) → DeadlinesRise 0 ages
      → Holds any_row enqueued_at (before ++ after) ages → Holds any_row enqueued_at (before ++ row ∷ after) (with_deadline (enqueued_at row) ages)
  ages_in ages fits others rise held = held_in any_row enqueued_at before row after true refl ages (absent any_row enqueued_at (λ r. refl) fits others true ages (λ is. rise) held) held

  pub ages_out : (ages : List Deadline) → DeadlinesRise 0 ages → Holds any_row enqueued_at (before ++ row ∷ after) ages → Holds any_row enqueued_at (before ++ after) (filter (is_other (enqueued_at row)) ages)
  ages_out ages rise held = held_out any_row enqueued_at before row after true refl ages (λ is. rise) held

-- none has a slot that is free
pub free_is_none : (slot : ℕ) (rows : List Row) → list_any (is_in slot) rows ≡ false → All (λ (r : Row). r.slot ≢ slot) rows
free_is_none slot rows h = All-weaker (λ (r : Row). is_in slot r ≡ false) (λ (r : Row). r.slot ≢ slot) (λ r other same. let is : (r.slot == slot) ≡ true = subst (λ (n : ℕ). (r.slot == n) ≡ true) same (is_this r.slot) in let k : true ≡ false = sym is ∙ other in cc) rows (none_passes (is_in slot) rows h)

-- a row comes last
pub indexed_last : (rows : List Row) (row : Row) (old new : VisibleFrom) (ages after : IndexValue) → row.slot < 4294967296 → All (λ (r : Row). r.slot ≢ row.slot) rows
    → HasSpace (length rows + 1) new → length rows + 1 ≤ space after
    → IsOrdered row.receives old → IsSet row.receives (visible_at row) old new → DeadlinesRise 0 ages.deadlines → after.deadlines ≡ with_deadline (enqueued_at row) ages.deadlines
    → IsIndexed rows old ages → IsIndexed (rows ++ row ∷ []) new after
indexed_last rows row old new ages after fits others memory age_memory ordered set rise aged h =
    let whole : rows ++ [] ≡ rows = append-nil rows in
    let long : length (rows ++ row ∷ []) ≡ length rows + 1 = length-append rows (row ∷ []) in
    let apart = rw (← whole) at others in
    record {
      held = comes_in rows row [] old new fits apart ordered set (rw whole h.held);
      aged = rw aged (ages_in rows row [] ages.deadlines fits apart rise (rw whole h.aged));
      memory = rw long memory;
      age_memory = rw long age_memory;
    }

module _ (before : List Row) (row : Row) (after : List Row) where
  fewer : length (before ++ row ∷ after) ≡ length (before ++ after) + 1
  fewer = let whole = length-append before (row ∷ after) in let rest = length-append before after in omega (arith, whole, rest)

  -- a row goes out
  pub indexed_out : (old new : VisibleFrom) (ages later : IndexValue) → IsOrdered row.receives old → IsCleared row.receives (visible_at row) old new
      → DeadlinesRise 0 ages.deadlines → later.deadlines ≡ filter (is_other (enqueued_at row)) ages.deadlines → space ages ≤ space later
      → IsIndexed (before ++ row ∷ after) old ages → IsIndexed (before ++ after) new later
  indexed_out old new ages later ordered cleared rise aged kept h = record {
    held = goes_out before row after old new ordered cleared h.held;
    aged = rw aged (ages_out before row after ages.deadlines rise h.aged);
    memory = has_more _ old new cleared.space (record { unreceived = omega (arith, fewer, h.memory.unreceived); received = omega (arith, fewer, h.memory.received); exhausted = omega (arith, fewer, h.memory.exhausted) });
    age_memory = omega (arith, fewer, kept, h.age_memory);
  }

  -- a row changes, and is as old as it was
  pub indexed_changed : (delivery : Delivery) (old mid new : VisibleFrom) (ages : IndexValue) → row.slot < 4294967296 → All (λ (r : Row). r.slot ≢ row.slot) (before ++ after)
      → IsOrdered row.receives old → IsCleared row.receives (visible_at row) old mid
      → IsOrdered delivery.receives mid → IsSet delivery.receives (visible_at (updated delivery row)) mid new
      → IsIndexed (before ++ row ∷ after) old ages → IsIndexed (before ++ updated delivery row ∷ after) new ages
  indexed_changed delivery old mid new ages fits others before_it cleared then set h =
      let row' = updated delivery row in
      let long : length (before ++ row' ∷ after) ≡ length (before ++ row ∷ after) = omega (arith, length-append before (row ∷ after), length-append before (row' ∷ after)) in
      record {
        held = comes_in before row' after mid new fits others then set (goes_out before row after old mid before_it cleared h.held);
        aged = held_same any_row enqueued_at before row after row' refl refl refl ages.deadlines h.aged;
        memory = rw long (has_more _ mid new set.space (has_more _ old mid cleared.space h.memory));
        age_memory = rw long h.age_memory;
      }

  -- where a row's moment went out, there is spare memory for one in each list
  pub spare_beside : (old new : VisibleFrom) (ages : IndexValue) → IsOrdered row.receives old → IsCleared row.receives (visible_at row) old new → IsIndexed (before ++ row ∷ after) old ages → (receives : ℕ) → HasSpareFor receives new
  spare_beside old new ages ordered cleared h =
      has_spare (before ++ after) new (goes_out before row after old new ordered cleared h.held) (has_more _ old new cleared.space
      (record { unreceived = omega (arith, fewer, h.memory.unreceived); received = omega (arith, fewer, h.memory.received); exhausted = omega (arith, fewer, h.memory.exhausted) }))
