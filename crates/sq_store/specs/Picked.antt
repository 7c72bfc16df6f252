-- Rows that a store finds: one that passes, and those that are picked.
use Rattle.std.specs.Prelude.{◌≡◌, ◌<◌, ℕ, Bool, true, List}
use Rattle.std.specs.List.{All, Contains, list_any}
use Rattle.sq_base.specs.declared.row.Row.{Row}
use Rattle.sq_base.specs.declared.settings.Settings.{Settings}
use Rattle.sq_model.specs.Rows.{is_distinct, is_live, serials_of, unexpired}

-- one of the rows that pass, any of them
pub record IsOneOf (p : Row → Bool) (rows : List Row) (row : Row) : Type 0 where
  pub passes : p row ≡ true
  pub there : Contains rows row

-- a row has the slot of the one with its serial, where that one is there
abbrev pub HasItsSlot : List Row → Row → Type 0
HasItsSlot rows picked = (row : Row) → Contains rows row → row.serial ≡ picked.serial → row.slot ≡ picked.slot

-- rows that are picked: each once, and with the slot that it has
pub record AreTheirs (rows picked : List Row) : Type 0 where
  pub distinct : is_distinct (serials_of picked) ≡ true
  pub slots : All (HasItsSlot rows) picked

-- up to so many live rows are asked for at m, and one is there
pub record GivesLive (s : Settings) (m max : ℕ) (rows : List Row) : Type 0 where
  pub asked : 0 < max
  pub live : list_any (is_live s m) (unexpired s m rows) ≡ true
