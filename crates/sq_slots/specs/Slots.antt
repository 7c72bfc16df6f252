-- Rows in slots, seen by rising serial. Own.
use Rattle.std.specs.Prelude.{◌≡◌, ◌≢◌, ℕ, ◌+◌, ◌-◌, ◌≤◌, Bool, true, not, ◌&&◌, ◌==◌, nat_le, nat_lt, List, [], ◌∷◌, ◌++◌, filter, map, Some, if◌then◌else◌}
use Rattle.std.specs.List.{All, Contains}
use Rattle.slab.specs.Slab.{Slab, get, slab_len, values}
use Rattle.sq_base.specs.declared.row.Row.{Row}
use Rattle.sq_slots.specs.declared.table.Delivery.{Delivery}

-- the rows by rising serial, the slot of the next row, and for how many more rows there is memory
pub record TableValue : Type 0 where
  pub rows : List Row
  pub next : ℕ
  pub reserved : ℕ

-- a row put before the first one of a higher serial
abbrev pub with_row : Row → List Row → List Row
with_row row [] = row ∷ []
with_row row (r ∷ rs) = if nat_lt row.serial r.serial then row ∷ r ∷ rs else r ∷ with_row row rs

-- rows in the order of their serials
abbrev pub by_serial : List Row → List Row
by_serial [] = []
by_serial (r ∷ rs) = with_row r (by_serial rs)

-- the serials rise without repeats, and none is below this one
abbrev pub SerialsRise : ℕ → List Row → Type 0
SerialsRise low [] = Unit {0}
SerialsRise low (r ∷ rs) = (low ≤ r.serial) × SerialsRise (r.serial + 1) rs

-- rows of one slot are one row
abbrev pub HaveOwnSlots : List Row → Type 0
HaveOwnSlots rows = (row other : Row) → Contains rows row → Contains rows other → row.slot ≡ other.slot → row ≡ other

-- each row has a slot and a serial of its own
pub record AreApart (rows : List Row) : Type 0 where
  pub rise : SerialsRise 0 rows
  pub slots : HaveOwnSlots rows

-- a row as it stands in a slot
abbrev pub in_slot : ℕ → Row → Row
in_slot slot row = record row { slot = slot }

-- the row stands in this slot
abbrev pub is_in : ℕ → Row → Bool
is_in slot row = row.slot == slot

-- it is the row of this slot and this serial; a slot that is used again never shows an older serial
abbrev pub is_at : ℕ → ℕ → Row → Bool
is_at slot serial row = (row.slot == slot) && (row.serial == serial)

-- it is another row
abbrev pub is_away : ℕ → ℕ → Row → Bool
is_away slot serial row = not (is_at slot serial row)

-- a row after it was received, or hidden until another moment
abbrev pub updated : Delivery → Row → Row
updated delivery row = record row { receives = delivery.receives; visible_from = delivery.visible_from; last_receive = delivery.last_receive }

-- the row of this slot and this serial so changed, and another as it is
abbrev pub updated_at : ℕ → ℕ → Delivery → Row → Row
updated_at slot serial delivery row = if is_at slot serial row then updated delivery row else row

-- the row of a slot and a serial stands between others, of other slots
pub record IsBetween (slot serial : ℕ) (rows : List Row) (row : Row) : Type 0 where
  pub before : List Row
  pub after : List Row
  pub whole : rows ≡ before ++ row ∷ after
  pub there : Contains rows row
  pub at : is_at slot serial row ≡ true
  pub slot_is : row.slot ≡ slot
  pub others : All (λ (r : Row). r.slot ≢ slot) (before ++ after)
  pub away : filter (is_away slot serial) rows ≡ before ++ after
  pub changed : (delivery : Delivery) → map (updated_at slot serial delivery) rows ≡ before ++ updated delivery row ∷ after

-- for how many more rows there is memory, where all slots are below 2^32
abbrev pub reserved_of : Slab Row → ℕ
reserved_of table = if nat_le table.capacity 4294967296 then table.capacity - slab_len table else 0

-- what a slab of rows is seen as
abbrev pub value_of : Slab Row → TableValue
value_of table = record { rows = by_serial (values table); next = table.vacant_key; reserved = reserved_of table }

-- each row has its slot, and no two have one serial
pub record IsTable (table : Slab Row) : Type 0 where
  pub slots : (slot : ℕ) (row : Row) → get table slot ≡ Some row → row.slot ≡ slot
  pub serials : (slot other : ℕ) (row it : Row) → get table slot ≡ Some row → get table other ≡ Some it → row.serial ≡ it.serial → slot ≡ other
