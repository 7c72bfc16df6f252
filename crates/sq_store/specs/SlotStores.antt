-- What a store of rows in slots keeps. Own.
use Rattle.std.specs.Prelude.{ℕ, ◌-◌, ◌≤◌, Bool, true, List, length, min}
use Rattle.sq_base.specs.declared.row.Row.{Row}
use Rattle.sq_deadline.specs.Deadlines.{IndexValue}
use Rattle.sq_model.specs.Rows.{received}
use Rattle.sq_slots.specs.Slots.{TableValue}
use Rattle.sq_store.specs.declared.visible.VisibleFrom.{VisibleFrom}
use Rattle.sq_store.specs.Due.{Holds, enqueued_at, is_received_below, is_unreceived, is_exhausted_by, space, visible_at}
use Rattle.sq_store.specs.Visible.{HasSpace}

-- what a store is seen as: its rows in slots, from when they are visible, and since when they are in the queue
pub record SlotValue : Type 0 where
  pub table : TableValue
  pub visible : VisibleFrom
  pub ages : IndexValue

-- the classes of rows, by the list that each stands in
abbrev pub any_row : Row → Bool
any_row row = true

abbrev pub unreceived_row : Row → Bool
unreceived_row row = is_unreceived row.receives

abbrev pub received_row : ℕ → Row → Bool
received_row most row = is_received_below most row.receives

abbrev pub exhausted_row : ℕ → Row → Bool
exhausted_row most row = is_exhausted_by most row.receives

-- each row stands once, in the list of its class
pub record AreVisible (rows : List Row) (v : VisibleFrom) : Type 0 where
  pub unreceived : Holds unreceived_row visible_at rows v.unreceived.deadlines
  pub received : Holds (received_row v.most) visible_at rows v.received.deadlines
  pub exhausted : Holds (exhausted_row v.most) visible_at rows v.exhausted.deadlines

-- each row stands once in the list of its class and once among the ages, and there is memory for it in every list
pub record IsIndexed (rows : List Row) (visible : VisibleFrom) (ages : IndexValue) : Type 0 where
  pub held : AreVisible rows visible
  pub aged : Holds any_row enqueued_at rows ages.deadlines
  pub memory : HasSpace (length rows) visible
  pub age_memory : length rows ≤ space ages

-- for how many more rows there is memory, in the table and in every list
abbrev pub reserved_in : SlotValue → ℕ
reserved_in s =
    let n = length s.table.rows in
    min s.table.reserved (min (space s.visible.unreceived - n) (min (space s.visible.received - n) (min (space s.visible.exhausted - n) (space s.ages - n))))
