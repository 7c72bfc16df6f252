use Rattle.std.proofs.Common.{rules, ◌≡◌, ◌∙◌, None, true, false, sym}
use Rattle.std.specs.Prelude.{find}
use Rattle.sq_model.specs.Rows.{changed_if}
use Rattle.sq_slots.specs.Slots.{is_at}
use Rattle.sq_store.proofs.AtLaws.{changed_at, changed_none, map_none}
use Rattle.sq_store.proofs.slots.SlotStoreStore.change.Goals as goal

pub returns-in_default-clause-rows : goal.returns-in_default-clause-rows
returns-in_default-clause-rows c =
    let receipt = c.args.receipt.now in
    let none : find (is_at receipt.slot receipt.serial) c.self.inside.table.rows ≡ None = search rules in
    rw (← c.self.view_is) (sym (map_none receipt.slot receipt.serial (changed_if c.args.moment receipt c.args.until) (changed_none receipt c.args.moment c.args.until) c.self.inside.table.rows none))

pub returns-then-is_held-clause-rows : goal.returns-then-is_held-clause-rows
returns-then-is_held-clause-rows c =
    c.revise.ensures.rows ∙ rw (← c.self.view_is) (sym (changed_at c.args.receipt.now c.self.inside.table.rows c.in-Some.row.now c.get.ensures.apart (search rules) c.args.moment c.args.until true (search rules)))

pub returns-else-is_held-clause-rows : goal.returns-else-is_held-clause-rows
returns-else-is_held-clause-rows c =
    rw (← c.self.view_is) (sym (changed_at c.args.receipt.now c.self.inside.table.rows c.in-Some.row.now c.get.ensures.apart (search rules) c.args.moment c.args.until false (search rules)))
