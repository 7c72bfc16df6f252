use Rattle.std.proofs.Common.{◌+◌, arith, rules, length}
use Rattle.sq_model.proofs.SlotLaws.{taken_by, taken_more}
use Rattle.sq_store.proofs.plain.free_slot.Goals as goal

pub returns-clause-free : goal.returns-clause-free
returns-clause-free c =
    let rows = c.args.rows.now in
    let crowded = taken_by (length rows + 1) rows (taken_more (length rows) c.loop-slot.slot rows (omega arith) c.loop-slot.invariant (search rules)) in
    absurd (omega (arith, crowded))
