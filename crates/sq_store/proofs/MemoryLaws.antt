-- Memory that a store has for rows.
use Rattle.std.proofs.Common.{◌≡◌, ℕ, ◌+◌, ◌-◌, ◌<◌, ◌≤◌, List, length, arith}
use Rattle.std.specs.Prelude.{min}
use Rattle.std.proofs.lemmas.Grind.{common_steps}
use Rattle.sq_deadline.specs.Deadlines.{IndexValue}
use Rattle.sq_base.specs.declared.row.Row.{Row}
use Rattle.sq_store.specs.Due.{Holds, enqueued_at, space, visible_at}
use Rattle.sq_store.specs.declared.visible.VisibleFrom.{VisibleFrom}
use Rattle.sq_store.proofs.HeldLaws.{held_few}
use Rattle.sq_store.specs.SlotStores.{AreVisible, SlotValue, received_row, any_row, unreceived_row, reserved_in, exhausted_row}
use Rattle.sq_store.specs.Visible.{HasSpace}
use Rattle.sq_store.specs.inside.Visible.{KeepsSpace, HasSpareFor}

-- there is memory for one row more
pub record HasOneMore (s : SlotValue) : Type 0 where
  pub table : 0 < s.table.reserved
  pub visible : HasSpace (length s.table.rows + 1) s.visible
  pub ages : length s.table.rows + 1 ≤ space s.ages

left : (a b : ℕ) → 0 < min a b → 0 < a
left a b h = grind (arith, common_steps, h)

right : (a b : ℕ) → 0 < min a b → 0 < b
right a b h = grind (arith, common_steps, h)

above : (n m : ℕ) → 0 < n - m → m + 1 ≤ n
above n m h = omega (arith, h)

pub has_one_more : (s : SlotValue) → 0 < reserved_in s → HasOneMore s
has_one_more s h =
    let n = length s.table.rows in
    let lists = right s.table.reserved _ h in
    let others = right (space s.visible.unreceived - n) _ lists in
    let last = right (space s.visible.received - n) _ others in
    record {
      table = left s.table.reserved _ h;
      visible = record {
        unreceived = above (space s.visible.unreceived) n (left (space s.visible.unreceived - n) _ lists);
        received = above (space s.visible.received) n (left (space s.visible.received - n) _ others);
        exhausted = above (space s.visible.exhausted) n (left (space s.visible.exhausted - n) _ last);
      };
      ages = above (space s.ages) n (right (space s.visible.exhausted - n) _ last);
    }

-- where fewer stand in a list than there is memory for, one more may come in
one_more : (count : ℕ) (index : IndexValue) → count + 1 ≤ space index → length index.deadlines ≤ count → 0 < index.reserved
one_more count index memory few = omega (arith, memory, few)

pub has_spare : (rows : List Row) (v : VisibleFrom) → AreVisible rows v → HasSpace (length rows + 1) v → (receives : ℕ) → HasSpareFor receives v
has_spare rows v held memory receives = record {
  unreceived = λ is. one_more (length rows) v.unreceived memory.unreceived (held_few unreceived_row visible_at rows v.unreceived.deadlines held.unreceived);
  received = λ is. one_more (length rows) v.received memory.received (held_few (received_row v.most) visible_at rows v.received.deadlines held.received);
  exhausted = λ is. one_more (length rows) v.exhausted memory.exhausted (held_few (exhausted_row v.most) visible_at rows v.exhausted.deadlines held.exhausted);
}

pub has_age_spare : (rows : List Row) (ages : IndexValue) → Holds any_row enqueued_at rows ages.deadlines → length rows + 1 ≤ space ages → 0 < ages.reserved
has_age_spare rows ages held memory = one_more (length rows) ages memory (held_few any_row enqueued_at rows ages.deadlines held)

pub has_more : (count : ℕ) (old new : VisibleFrom) → KeepsSpace old new → HasSpace count old → HasSpace count new
has_more count old new kept memory = record {
  unreceived = omega (arith, kept.unreceived, memory.unreceived);
  received = omega (arith, kept.received, memory.received);
  exhausted = omega (arith, kept.exhausted, memory.exhausted);
}

pub least_more : (a b c d : ℕ) → a ≤ c + 1 → b ≤ d + 1 → min a b ≤ min c d + 1
least_more a b c d one other = grind (arith, common_steps, one, other)

pub least_kept : (a b c d : ℕ) → a ≤ c → b ≤ d → min a b ≤ min c d
least_kept a b c d one other = grind (arith, common_steps, one, other)

less : (a b m n : ℕ) → a ≤ b → n ≤ m → a - m ≤ b - n
less a b m n one other = omega (arith, one, other)

-- memory is kept where rows go out, or stay as many
pub keeps_reserved : (old new : SlotValue) → old.table.reserved ≤ new.table.reserved → length new.table.rows ≤ length old.table.rows → KeepsSpace old.visible new.visible → space old.ages ≤ space new.ages → reserved_in old ≤ reserved_in new
keeps_reserved old new table rows kept ages =
    let n = length new.table.rows in
    let m = length old.table.rows in
    least_kept _ _ _ _ table (least_kept _ _ _ _ (less (space old.visible.unreceived) (space new.visible.unreceived) m n kept.unreceived rows)
    (least_kept _ _ _ _ (less (space old.visible.received) (space new.visible.received) m n kept.received rows)
    (least_kept _ _ _ _ (less (space old.visible.exhausted) (space new.visible.exhausted) m n kept.exhausted rows) (less (space old.ages) (space new.ages) m n ages rows))))

one_less : (a b m n : ℕ) → a ≤ b → n ≡ m + 1 → a - m ≤ b - n + 1
one_less a b m n one other = omega (arith, one, other)

-- one rank is taken where a row comes in
pub takes_one_more : (old new : SlotValue) → old.table.reserved ≡ new.table.reserved + 1 → length new.table.rows ≡ length old.table.rows + 1 → KeepsSpace old.visible new.visible → space old.ages ≤ space new.ages → reserved_in old ≤ reserved_in new + 1
takes_one_more old new table rows kept ages =
    let n = length new.table.rows in
    let m = length old.table.rows in
    least_more _ _ _ _ (omega (arith, table)) (least_more _ _ _ _ (one_less (space old.visible.unreceived) (space new.visible.unreceived) m n kept.unreceived rows)
    (least_more _ _ _ _ (one_less (space old.visible.received) (space new.visible.received) m n kept.received rows)
    (least_more _ _ _ _ (one_less (space old.visible.exhausted) (space new.visible.exhausted) m n kept.exhausted rows) (one_less (space old.ages) (space new.ages) m n ages rows))))

pub keeps_on : (old mid new : VisibleFrom) → KeepsSpace old mid → KeepsSpace mid new → KeepsSpace old new
keeps_on old mid new first then = record { unreceived = omega (arith, first.unreceived, then.unreceived); received = omega (arith, first.received, then.received); exhausted = omega (arith, first.exhausted, then.exhausted) }
