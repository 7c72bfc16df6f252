use Rattle.std.proofs.Common.{rules, ◌≡◌, ◌∙◌, Some, None, sym}
use Rattle.std.specs.Prelude.{find}
use Rattle.slab.specs.Slab.{get}
use Rattle.sq_slots.specs.Slots.{is_at}
use Rattle.sq_slots.proofs.TableLaws.{Updates-none, found_one, goes, passing, rows_without, stays_whole}
use Rattle.sq_slots.proofs.table.SlotTable.take.Goals as goal
use Rattle.sq_slots.proofs.table.SlotTable.take.Goals.{After-from_residual, After-try_remove}

-- what is found is what its slot has
found : (c : After-try_remove) → passing (is_at c.args.slot c.args.serial) (get c.self.inside.rows c.args.slot) ≡ find (is_at c.args.slot c.args.serial) c.args.self.now.rows
found c = rw (← c.self.view_is) (sym (found_one c.self.inside.rows c.self.invariant c.args.slot c.args.serial))

pub returns-in_err-get-clause-rows : goal.returns-in_err-get-clause-rows
returns-in_err-get-clause-rows c =
    let table = c.self.inside.rows in
    let none : find (is_at c.args.slot c.args.serial) c.args.self.now.rows ≡ None = search rules in
    let is = stays_whole c.args.slot c.args.serial (get table c.args.slot) (sym (found_one table c.self.invariant c.args.slot c.args.serial) ∙ (rw (← c.self.view_is) at none)) in
    rw (← c.self.view_is) (rows_without table table c.self.invariant c.args.slot c.args.serial (get table c.args.slot) (Updates-none table c.args.slot) is)

pub returns-clause-taken : goal.returns-clause-taken
returns-clause-taken c =
    let there : find (is_at c.args.slot c.args.serial) c.args.self.now.rows ≡ Some c.in_ok-get.field-0.now = search rules in
    c.try_remove.ensures.value ∙ (goes c.args.slot c.args.serial (get c.self.inside.rows c.args.slot) c.in_ok-get.field-0.now (found c ∙ there)).0 ∙ sym there

pub returns-clause-rows : goal.returns-clause-rows
returns-clause-rows c =
    let there : find (is_at c.args.slot c.args.serial) c.args.self.now.rows ≡ Some c.in_ok-get.field-0.now = search rules in
    let left = goes c.args.slot c.args.serial (get c.self.inside.rows c.args.slot) c.in_ok-get.field-0.now (found c ∙ there) in
    rw (← c.self.view_is) (rows_without c.self.inside.rows c.try_remove.new.self c.self.invariant c.args.slot c.args.serial None c.try_remove.ensures.updates (sym left.1))
