use Rattle.std.proofs.Common.{◌≡◌, ℕ, ◌<◌, false}
use Rattle.sq_model.specs.Rows.{is_free}
use Rattle.sq_store.proofs.plain.free_slot.Given as goal

-- no slot below is free
abbrev pub invariant-loop-slot : goal.invariant-loop-slot
invariant-loop-slot l = (k : ℕ) → k < l.slot → is_free k l.rows ≡ false
