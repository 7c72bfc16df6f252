use Rattle.std.proofs.Common.{rules, ◌≡◌, None, true, false, refl, sym}
use Rattle.slab.specs.Slab.{get}
use Rattle.sq_slots.proofs.TableLaws.{found_at, found_where, rows_apart}
use Rattle.sq_slots.proofs.table.SlotTable.get.Goals as goal

pub returns-in_err-row-clause-row : goal.returns-in_err-row-clause-row
returns-in_err-row-clause-row c =
    let none : get c.self.inside.rows c.args.slot ≡ None = search rules in
    let out : c.from_residual.result ≡ None = search rules in
    rw (← c.self.view_is, found_at c.self.inside.rows c.self.invariant c.args.slot c.args.serial, none, out) refl

pub returns-then-eq-clause-row : goal.returns-then-eq-clause-row
returns-then-eq-clause-row c = rw (← c.self.view_is) (sym (found_where c.self.inside.rows c.self.invariant c.args.slot c.args.serial c.in_ok-row.row.now true (search rules) (search rules)))

pub returns-else-eq-clause-row : goal.returns-else-eq-clause-row
returns-else-eq-clause-row c = rw (← c.self.view_is) (sym (found_where c.self.inside.rows c.self.invariant c.args.slot c.args.serial c.in_ok-row.row.now false (search rules) (search rules)))

pub returns-in_err-row-clause-apart : goal.returns-in_err-row-clause-apart
returns-in_err-row-clause-apart c = rw (← c.self.view_is) (rows_apart c.self.inside.rows c.self.invariant)

pub returns-then-eq-clause-apart : goal.returns-then-eq-clause-apart
returns-then-eq-clause-apart c = rw (← c.self.view_is) (rows_apart c.self.inside.rows c.self.invariant)

pub returns-else-eq-clause-apart : goal.returns-else-eq-clause-apart
returns-else-eq-clause-apart c = rw (← c.self.view_is) (rows_apart c.self.inside.rows c.self.invariant)
