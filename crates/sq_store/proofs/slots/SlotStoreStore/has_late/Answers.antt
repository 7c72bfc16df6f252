use Rattle.std.proofs.Common.{rules, ◌≡◌, ◌+◌, ◌∙◌, Some, None, true, false, not, refl, sym}
use Rattle.std.specs.Prelude.{◌&&◌, find}
use Rattle.std.specs.List.{list_any}
use Rattle.sq_model.specs.Rows.{is_expired, is_held, is_late, ms, unexpired}
use Rattle.sq_slots.specs.Slots.{IsBetween, is_at}
use Rattle.sq_slots.proofs.SplitLaws.{stands_between}
use Rattle.sq_store.proofs.AtLaws.{any_left_at, any_left_none, both_and, held_at, held_there, not_both_and}
use Rattle.sq_store.proofs.slots.SlotStoreStore.has_late.Goals as goal
use Rattle.sq_store.proofs.slots.SlotStoreStore.has_late.Goals.{After-has_held}

pub returns-in_default : goal.returns-in_default
returns-in_default c =
    let receipt = c.args.receipt.now in
    let rows = c.self.inside.table.rows in
    let none : find (is_at receipt.slot receipt.serial) rows ≡ None = search rules in
    rw (← c.self.view_is) (sym (any_left_none receipt.slot receipt.serial rows (λ r. is_held c.args.at.now.moment receipt r && is_late (c.args.at.now.moment + ms c.args.timeout) r.last_receive) (λ r. not (is_expired c.args.at.now.settings c.args.at.now.moment r))
    (λ r other. rw (held_at receipt c.args.at.now.moment r other) refl) none))

-- the row of the receipt, between the others
split : (c : After-has_held) → IsBetween c.args.receipt.now.slot c.args.receipt.now.serial c.self.inside.table.rows c.in-Some.row.now
split c =
    let there : find (is_at c.args.receipt.now.slot c.args.receipt.now.serial) c.self.inside.table.rows ≡ Some c.in-Some.row.now = search rules in
    stands_between _ _ 0 c.self.inside.table.rows c.in-Some.row.now c.get.ensures.apart.rise c.get.ensures.apart.slots there

-- it is kept and in flight, or not
is_its : (c : After-has_held) → c.has_held.result ≡ (not (is_expired c.args.at.now.settings c.args.at.now.moment c.in-Some.row.now) && is_held c.args.at.now.moment c.args.receipt.now c.in-Some.row.now)
is_its c =
    let rows = c.self.inside.table.rows in
    c.has_held.ensures ∙ rw (← c.self.view_is) (any_left_at c.args.receipt.now.slot c.args.receipt.now.serial rows c.in-Some.row.now (split c) (is_held c.args.at.now.moment c.args.receipt.now) (λ r. not (is_expired c.args.at.now.settings c.args.at.now.moment r)) (held_there c.args.receipt.now c.args.at.now.moment))

-- and late too
is_all : (c : After-has_held) → list_any (λ r. is_held c.args.at.now.moment c.args.receipt.now r && is_late (c.args.at.now.moment + ms c.args.timeout) r.last_receive) (unexpired c.args.at.now.settings c.args.at.now.moment c.args.self.now.table.rows)
    ≡ (not (is_expired c.args.at.now.settings c.args.at.now.moment c.in-Some.row.now) && (is_held c.args.at.now.moment c.args.receipt.now c.in-Some.row.now && is_late (c.args.at.now.moment + ms c.args.timeout) c.in-Some.row.now.last_receive))
is_all c =
    let rows = c.self.inside.table.rows in
    rw (← c.self.view_is) (any_left_at c.args.receipt.now.slot c.args.receipt.now.serial rows c.in-Some.row.now (split c) (λ r. is_held c.args.at.now.moment c.args.receipt.now r && is_late (c.args.at.now.moment + ms c.args.timeout) r.last_receive) (λ r. not (is_expired c.args.at.now.settings c.args.at.now.moment r))
    (λ r other. rw (held_there c.args.receipt.now c.args.at.now.moment r other) refl))

pub returns-then-has_held : goal.returns-then-has_held
returns-then-has_held c =
    let after = (goal.at.returns-then-has_held c).After-has_held in
    let its : c.has_held.result ≡ true = search rules in
    c.is_late.ensures ∙ sym (is_all after ∙ both_and _ _ _ (sym (is_its after) ∙ its))

pub returns-else-has_held : goal.returns-else-has_held
returns-else-has_held c =
    let after = (goal.at.returns-else-has_held c).After-has_held in
    let its : c.has_held.result ≡ false = search rules in
    its ∙ sym (is_all after ∙ not_both_and (not (is_expired c.args.at.now.settings c.args.at.now.moment c.in-Some.row.now)) (is_held c.args.at.now.moment c.args.receipt.now c.in-Some.row.now) (is_late (c.args.at.now.moment + ms c.args.timeout) c.in-Some.row.now.last_receive) (sym (is_its after) ∙ its))
