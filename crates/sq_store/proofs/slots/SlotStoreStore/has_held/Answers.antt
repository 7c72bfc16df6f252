use Rattle.std.proofs.Common.{rules, ◌≡◌, None, true, false, not, sym}
use Rattle.std.specs.Prelude.{find}
use Rattle.sq_model.specs.Rows.{is_expired, is_held}
use Rattle.sq_slots.specs.Slots.{is_at}
use Rattle.sq_store.proofs.AtLaws.{any_left_none, held_at, held_if}
use Rattle.sq_store.proofs.slots.SlotStoreStore.has_held.Goals as goal

pub returns-then-is_kept : goal.returns-then-is_kept
returns-then-is_kept c =
    rw (← c.self.view_is, held_if c.args.receipt.now c.self.inside.table.rows c.in-Some.row.now c.get.ensures.apart (search rules) (λ r. not (is_expired c.args.at.now.settings c.args.at.now.moment r)) c.args.at.now.moment true (search rules)) c.is_held.ensures

pub returns-else-is_kept : goal.returns-else-is_kept
returns-else-is_kept c =
    rw (← c.self.view_is, held_if c.args.receipt.now c.self.inside.table.rows c.in-Some.row.now c.get.ensures.apart (search rules) (λ r. not (is_expired c.args.at.now.settings c.args.at.now.moment r)) c.args.at.now.moment false (search rules)) (search rules)

pub returns-in-None : goal.returns-in-None
returns-in-None c =
    let receipt = c.args.receipt.now in
    let rows = c.self.inside.table.rows in
    let none : find (is_at receipt.slot receipt.serial) rows ≡ None = search rules in
    rw (← c.self.view_is) (sym (any_left_none receipt.slot receipt.serial rows (is_held c.args.at.now.moment receipt) (λ r. not (is_expired c.args.at.now.settings c.args.at.now.moment r)) (held_at receipt c.args.at.now.moment) none))
