-- For how many more items a list has memory, and what a step leaves of it.
use Rattle.std.specs.Prelude.{◌≡◌, ℕ, ◌+◌, ◌<◌, ◌≤◌, List, Result, IfErr, OnOk}
use Rattle.sq_base.specs.declared.refusal.Refusal.{Refusal}
use Rattle.sq_base.specs.declared.refusal.Refusal.TheVariants.{NoMemory}

-- What contracts see of a list that gets memory before a step: its items, for how many more there was memory when the last one was put, and for how many there is now.
pub record GrowingValue (T : Type 0) : Type 0 where
  pub items : List T
  pub spare : ℕ
  pub reserved : ℕ

-- there is memory for one item more, and for four where it shows no spare memory
pub record IsReady (spare reserved : ℕ) : Type 0 where
  pub there : 0 < reserved
  pub got : spare ≡ 0 → 4 ≤ reserved

-- memory for one item more was got, or there was none, where the list shows no spare memory and has memory for fewer than four
pub record HasReserved {T : Type 0} (old new : GrowingValue T) (said : Result (Unit {0}) Refusal) : Type 0 where
  pub items : new.items ≡ old.items
  pub spare : new.spare ≡ old.spare
  pub kept : old.reserved ≤ new.reserved
  pub ready : OnOk said (IsReady new.spare new.reserved)
  pub refused : IfErr said (λ e. (e ≡ NoMemory) × (old.spare ≡ 0) × (old.reserved < 4))

-- one item more uses spare memory for one; where there was none, there is spare memory for three more
pub record KeepsSpare (old new : ℕ) : Type 0 where
  pub used : old ≤ new + 1
  pub got : old ≡ 0 → 3 ≤ new
