-- What a store of rows in slots keeps. Own.
use Rattle.std.specs.Prelude.{◌≡◌, ℕ, ◌&&◌, true, List, nat_le, if◌then◌else◌}
use Rattle.sq_base.specs.declared.row.Row.{Row}
use Rattle.sq_base.specs.declared.settings.Settings.{Settings}
use Rattle.sq_model.specs.Rows.{is_live, received}
use Rattle.sq_slots.specs.Slots.{IsBetween, is_at}

-- the row of a slot and a serial is received, where it is live
abbrev pub received_at : Settings → ℕ → ℕ → ℕ → ℕ → Row → Row
received_at s slot serial m until row = if is_at slot serial row && is_live s m row then received m until row else row

-- a row that came at this moment or before it, found by its slot and its serial
pub record IsFromBefore (bound : ℕ) (rows : List Row) (slot serial : ℕ) : Type 0 where
  pub row : Row
  pub there : IsBetween slot serial rows row
  pub due : nat_le row.enqueued bound ≡ true
