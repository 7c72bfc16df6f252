use Rattle.std.proofs.Common.{rules, ◌≡◌, ◌∙◌, Some, None, false, sym}
use Rattle.std.specs.Prelude.{find, nat_le}
use Rattle.std.specs.List.{list_any}
use Rattle.sq_base.specs.declared.row.Row.{Row}
use Rattle.sq_deadline.specs.Deadlines.{is_due}
use Rattle.sq_slots.specs.Slots.{is_in}
use Rattle.sq_store.proofs.AgeLaws.{due_row, is_from_before, none_before}
use Rattle.sq_store.proofs.slots.SlotStore.oldest.Goals as goal

pub returns-in_err-slot-clause-none : goal.returns-in_err-slot-clause-none
returns-in_err-slot-clause-none c =
    let none : find (is_due c.args.bound) c.self.inside.ages.deadlines ≡ None = search rules in
    let rows : list_any (λ (row : Row). nat_le row.enqueued c.args.bound) c.args.self.now.table.rows ≡ false = rw (← c.self.view_is) (none_before c.args.bound c.self.inside.table.rows c.self.inside.ages.deadlines c.self.invariant.aged none) in
    search rules

pub returns-in_err-row-clause-none : goal.returns-in_err-row-clause-none
returns-in_err-row-clause-none c =
    let d = c.in_ok-slot.field-0.now in
    let due : find (is_due c.args.bound) c.self.inside.ages.deadlines ≡ Some d = search rules in
    let none : find (is_in d.slot) c.self.inside.table.rows ≡ None = search rules in
    let it = due_row c.args.bound c.self.inside.table.rows c.self.inside.ages.deadlines d c.at.ensures.apart c.self.invariant.aged due in
    absurd (let k : None ≡ Some it.0 = sym none ∙ it.1 in cc)

pub returns-clause-row : goal.returns-clause-row
returns-clause-row c =
    let d = c.in_ok-slot.field-0.now in
    let due : find (is_due c.args.bound) c.self.inside.ages.deadlines ≡ Some d = search rules in
    let at : find (is_in d.slot) c.self.inside.table.rows ≡ Some c.in_ok-row.row.now = search rules in
    rw (← c.self.view_is) (is_from_before c.args.bound c.self.inside.table.rows c.self.inside.ages.deadlines d c.in_ok-row.row.now c.at.ensures.apart c.self.invariant.aged due at)
