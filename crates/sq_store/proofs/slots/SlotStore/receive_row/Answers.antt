use Rattle.std.proofs.Common.{rules, ◌≡◌, ◌∙◌, ◌∷◌, ◌++◌, ◌+◌, Some, None, true, false, refl, sym, map}
use Rattle.std.specs.Prelude.{find}
use Rattle.sq_model.specs.Rows.{is_live}
use Rattle.sq_slots.specs.Slots.{IsBetween, is_at}
use Rattle.sq_slots.proofs.SplitLaws.{stands_between}
use Rattle.sq_store.specs.inside.SlotStores.{received_at}
use Rattle.sq_store.proofs.AtLaws.{map_at, map_none, not_there}
use Rattle.sq_store.proofs.slots.SlotStore.receive_row.Goals as goal
use Rattle.sq_store.proofs.slots.SlotStore.receive_row.Goals.{After-is_live}

pub returns-in_default-clause-rows : goal.returns-in_default-clause-rows
returns-in_default-clause-rows c =
    let none : find (is_at c.args.slot c.args.serial) c.self.inside.table.rows ≡ None = search rules in
    rw (← c.self.view_is) (sym (map_none c.args.slot c.args.serial (received_at c.args.at.now.settings c.args.slot c.args.serial c.args.at.now.moment c.args.until) (λ r other. rw other refl) c.self.inside.table.rows none))

-- the row of the slot and the serial, between the others
split : (c : After-is_live) → IsBetween c.args.slot c.args.serial c.self.inside.table.rows c.in-Some.row.now
split c =
    let there : find (is_at c.args.slot c.args.serial) c.self.inside.table.rows ≡ Some c.in-Some.row.now = search rules in
    stands_between _ _ 0 c.self.inside.table.rows c.in-Some.row.now c.get.ensures.apart.rise c.get.ensures.apart.slots there

-- no other is received
received : (c : After-is_live) → map (received_at c.args.at.now.settings c.args.slot c.args.serial c.args.at.now.moment c.args.until) c.self.inside.table.rows
    ≡ (split c).before ++ received_at c.args.at.now.settings c.args.slot c.args.serial c.args.at.now.moment c.args.until c.in-Some.row.now ∷ (split c).after
received c = map_at c.args.slot c.args.serial c.self.inside.table.rows c.in-Some.row.now (split c) (received_at c.args.at.now.settings c.args.slot c.args.serial c.args.at.now.moment c.args.until) (λ r other. rw (not_there c.args.slot c.args.serial r other) refl)

pub returns-then-is_live-clause-rows : goal.returns-then-is_live-clause-rows
returns-then-is_live-clause-rows c =
    let after = (goal.at.returns-then-is_live-clause-rows c).After-is_live in
    let s = split after in
    let row = c.in-Some.row.now in
    let live : is_live c.args.at.now.settings c.args.at.now.moment row ≡ true = search rules in
    c.revise.ensures.rows ∙ rw (← c.self.view_is) (s.changed (record { receives = row.receives + 1; visible_from = c.args.until; last_receive = Some c.args.at.now.moment }) ∙ sym (received after ∙ rw (s.at, live) refl))

pub returns-else-is_live-clause-rows : goal.returns-else-is_live-clause-rows
returns-else-is_live-clause-rows c =
    let after = (goal.at.returns-else-is_live-clause-rows c).After-is_live in
    let s = split after in
    let live : is_live c.args.at.now.settings c.args.at.now.moment c.in-Some.row.now ≡ false = search rules in
    rw (← c.self.view_is) (sym (received after ∙ rw (s.at, live) (sym s.whole)))
