use Rattle.std.proofs.Common.{rules, ◌≡◌, ◌∙◌, None, true, false, not, refl, sym}
use Rattle.std.specs.Prelude.{find}
use Rattle.sq_model.specs.Rows.{is_named}
use Rattle.sq_slots.specs.Slots.{is_at}
use Rattle.sq_store.proofs.AtLaws.{filter_none, named_at, taken_if}
use Rattle.sq_store.proofs.slots.SlotStoreStore.take.Goals as goal

pub returns-in_default-clause-rows : goal.returns-in_default-clause-rows
returns-in_default-clause-rows c =
    let receipt = c.args.receipt.now in
    let none : find (is_at receipt.slot receipt.serial) c.self.inside.table.rows ≡ None = search rules in
    rw (← c.self.view_is) (sym (filter_none receipt.slot receipt.serial (λ r. not (is_named receipt r)) (λ r other. rw (named_at receipt r other) refl) c.self.inside.table.rows none))

pub returns-then-row-get-clause-rows : goal.returns-then-row-get-clause-rows
returns-then-row-get-clause-rows c =
    c.remove.ensures.rows ∙ rw (← c.self.view_is) (sym (taken_if c.args.receipt.now c.self.inside.table.rows c.in-Some.row.now c.get.ensures.apart (search rules) true (search rules)))

pub returns-else-row-get-clause-rows : goal.returns-else-row-get-clause-rows
returns-else-row-get-clause-rows c =
    rw (← c.self.view_is) (sym (taken_if c.args.receipt.now c.self.inside.table.rows c.in-Some.row.now c.get.ensures.apart (search rules) false (search rules)))
