use Rattle.std.proofs.Common.{rules, ◌≡◌, Some, None, true, false, refl, sym}
use Rattle.std.specs.Prelude.{◌==◌}
use Rattle.slab.specs.Slab.{get}
use Rattle.sq_slots.specs.Slots.{updated}
use Rattle.sq_slots.proofs.TableLaws.{any_at, any_where, is_left, is_updated, rows_stay, rows_written, table_written}
use Rattle.sq_slots.proofs.table.SlotTable.update.Goals as goal

-- ---- no row is there

pub returns-in_default-clause-there : goal.returns-in_default-clause-there
returns-in_default-clause-there c =
    let none : get c.self.inside.rows c.args.slot ≡ None = search rules in
    rw (← c.self.view_is, any_at c.self.inside.rows c.self.invariant c.args.slot c.args.serial, none) refl

pub returns-in_default-clause-rows : goal.returns-in_default-clause-rows
returns-in_default-clause-rows c =
    rw (← c.self.view_is) (rows_stay c.args.slot c.args.serial c.args.delivery c.self.inside.rows c.self.invariant (search rules))

-- ---- a row of another serial is there

pub invariant_of-self-then-ne : goal.invariant_of-self-then-ne
invariant_of-self-then-ne c =
    let row = c.in-Some.row.now in
    let there : get c.self.inside.rows c.args.slot ≡ Some row = search rules in
    let other : (row.serial == c.args.serial) ≡ false = search rules in
    let left = is_left c.args.slot c.args.serial c.args.delivery c.self.inside.rows c.self.invariant row there other in
    table_written c.args.slot c.args.serial c.args.delivery c.self.inside.rows c.self.invariant row there row left

pub returns-then-ne-clause-there : goal.returns-then-ne-clause-there
returns-then-ne-clause-there c = rw (← c.self.view_is) (sym (any_where c.self.inside.rows c.self.invariant c.args.slot c.args.serial c.in-Some.row.now false (search rules) (search rules)))

pub returns-then-ne-clause-rows : goal.returns-then-ne-clause-rows
returns-then-ne-clause-rows c =
    let row = c.in-Some.row.now in
    let there : get c.self.inside.rows c.args.slot ≡ Some row = search rules in
    let other : (row.serial == c.args.serial) ≡ false = search rules in
    let left = is_left c.args.slot c.args.serial c.args.delivery c.self.inside.rows c.self.invariant row there other in
    rw (← c.self.view_is) (rows_written c.args.slot c.args.serial c.args.delivery c.self.inside.rows c.self.invariant row there row left)

-- ---- the row is there

pub invariant_of-self-2 : goal.invariant_of-self-2
invariant_of-self-2 c =
    let row = c.in-Some.row.now in
    let new = updated c.args.delivery row in
    let there : get c.self.inside.rows c.args.slot ≡ Some row = search rules in
    let same : (row.serial == c.args.serial) ≡ true = search rules in
    let set = is_updated c.args.slot c.args.serial c.args.delivery c.self.inside.rows c.self.invariant row there same in
    table_written c.args.slot c.args.serial c.args.delivery c.self.inside.rows c.self.invariant row there new set

pub returns-clause-there : goal.returns-clause-there
returns-clause-there c = rw (← c.self.view_is) (sym (any_where c.self.inside.rows c.self.invariant c.args.slot c.args.serial c.in-Some.row.now true (search rules) (search rules)))

pub returns-clause-rows : goal.returns-clause-rows
returns-clause-rows c =
    let row = c.in-Some.row.now in
    let new = updated c.args.delivery row in
    let there : get c.self.inside.rows c.args.slot ≡ Some row = search rules in
    let same : (row.serial == c.args.serial) ≡ true = search rules in
    let set = is_updated c.args.slot c.args.serial c.args.delivery c.self.inside.rows c.self.invariant row there same in
    rw (← c.self.view_is) (rows_written c.args.slot c.args.serial c.args.delivery c.self.inside.rows c.self.invariant row there new set)
