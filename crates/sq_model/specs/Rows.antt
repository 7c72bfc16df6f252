-- A row at a moment, and lists of rows. Moments are in ms, settings in seconds.
use Rattle.std.specs.Prelude.{◌≡◌, ℕ, ◌+◌, ◌-◌, ◌*◌, ◌≤◌, Bool, true, false, not, ◌&&◌, ◌==◌, List, [], ◌∷◌, ◌++◌, length, filter, map, count_by, min, nat_le, nat_lt, if◌then◌else◌, Option, Some, None}
use Rattle.std.specs.List.{list_any, All, Contains}
use Rattle.sq_base.specs.declared.row.Row.{Row}
use Rattle.sq_base.specs.declared.settings.Settings.{Settings}
use Rattle.sq_base.specs.declared.settings.Redrive.{Redrive}
use Rattle.sq_model.specs.declared.calls.Receipt.{Receipt}

abbrev pub ms : ℕ → ℕ
ms seconds = seconds * 1000

-- past its retention (SQS API Reference, MessageRetentionPeriod)
abbrev pub is_expired : Settings → ℕ → Row → Bool
is_expired s m row = nat_le (row.enqueued + ms s.retention) m

-- the rows that are not
abbrev pub unexpired : Settings → ℕ → List Row → List Row
unexpired s m rows = filter (λ row. not (is_expired s m row)) rows

abbrev pub is_visible : ℕ → Row → Bool
is_visible m row = nat_le row.visible_from m

-- never received, and still held back (DelaySeconds)
abbrev pub is_delayed : ℕ → Row → Bool
is_delayed m row = (row.receives == 0) && nat_lt m row.visible_from

-- in flight: received, and not visible again yet (VisibilityTimeout)
abbrev pub is_in_flight : ℕ → Row → Bool
is_in_flight m row = nat_lt 0 row.receives && nat_lt m row.visible_from

-- not in flight: visible, or never received
abbrev pub is_at_rest : ℕ → Row → Bool
is_at_rest m row = not (is_in_flight m row)

-- received as often as the policy allows
abbrev pub is_spent : Option Redrive → Row → Bool
is_spent None row = false
is_spent (Some redrive) row = nat_le redrive.max_receives row.receives

-- ready for the dead-letter queue (RedrivePolicy)
abbrev pub is_dead : Settings → ℕ → Row → Bool
is_dead s m row = is_visible m row && is_spent s.redrive row

-- what a receive may give; the number of receives has spare memory for one more
abbrev pub is_live : Settings → ℕ → Row → Bool
is_live s m row = is_visible m row && not (is_dead s m row) && nat_lt row.receives 4294967295

-- how many more rows may be in flight
abbrev pub flights_left : ℕ → ℕ → List Row → ℕ
flights_left flights m rows = flights - count_by (is_in_flight m) rows

abbrev pub serials_of : List Row → List ℕ
serials_of rows = map (λ row. row.serial) rows

abbrev pub has_serial : ℕ → List Row → Bool
has_serial serial rows = list_any (λ row. row.serial == serial) rows

-- no number stands twice
abbrev pub is_distinct : List ℕ → Bool
is_distinct [] = true
is_distinct (x ∷ xs) = not (list_any (λ y. y == x) xs) && is_distinct xs

-- a row after a receive at m that hides it until then
abbrev pub received : ℕ → ℕ → Row → Row
received m until row = record row { receives = row.receives + 1; last_receive = Some m; visible_from = until }

-- a row that was never received has receive number 0, and no other row has
abbrev pub IsCounted : Row → Type 0
IsCounted row = (row.last_receive ≡ None → row.receives ≡ 0) × (row.receives ≡ 0 → row.last_receive ≡ None)

-- exactly n distinct live rows, or all of them where there are fewer, any of them and in any order, as they stand after a receive
pub record IsLook (s : Settings) (m until n : ℕ) (rows picked : List Row) : Type 0 where
  pub exact : length picked ≡ min n (count_by (is_live s m) rows)
  pub distinct : is_distinct (serials_of picked) ≡ true
  pub each : All (Contains (map (received m until) (filter (is_live s m) rows))) picked

-- the live rows of these serials are received
abbrev pub received_if : Settings → List ℕ → ℕ → ℕ → Row → Row
received_if s serials m until row =
    if is_live s m row && list_any (λ c. c == row.serial) serials then received m until row else row

-- slot, serial and receive number all agree
abbrev pub is_named : Receipt → Row → Bool
is_named receipt row = (row.slot == receipt.slot) && (row.serial == receipt.serial) && (row.receives == receipt.receive)

abbrev pub without : Receipt → List Row → List Row
without receipt rows = filter (λ row. not (is_named receipt row)) rows

-- the row of a receipt, while it is in flight
abbrev pub is_held : ℕ → Receipt → Row → Bool
is_held m receipt row = is_named receipt row && is_in_flight m row

-- later than 12 hours after the last receive (SQS API Reference, ChangeMessageVisibility)
abbrev pub is_late : ℕ → Option ℕ → Bool
is_late until None = false
is_late until (Some last) = nat_lt (last + 43200000) until

abbrev pub changed_if : ℕ → Receipt → ℕ → Row → Row
changed_if m receipt until row = if is_held m receipt row then record row { visible_from = until } else row

-- one row is taken out of the rows, and the rest stays as it was
pub record Takes (row : Row) (rows rest : List Row) : Type 0 where
  pub before : List Row
  pub after : List Row
  pub at : rows ≡ before ++ row ∷ after
  pub left : rest ≡ before ++ after

-- serials rise from low on, and stay below the next one
abbrev pub RisesFrom : ℕ → List Row → ℕ → Type 0
RisesFrom low [] next = low ≤ next
RisesFrom low (row ∷ rows) next = (low ≤ row.serial) × RisesFrom (row.serial + 1) rows next

abbrev pub is_free : ℕ → List Row → Bool
is_free slot rows = not (list_any (λ row. row.slot == slot) rows)
