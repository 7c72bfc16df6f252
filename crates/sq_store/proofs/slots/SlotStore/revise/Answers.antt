use Rattle.std.specs.List.{All}
use Rattle.sq_base.specs.declared.row.Row.{Row}
use Rattle.std.proofs.Common.{rules, ◌≡◌, ◌≢◌, ℕ, ◌<◌, ◌++◌, ◌∷◌, Some, None, sym, subst}
use Rattle.std.specs.Prelude.{find}
use Rattle.sq_slots.specs.Slots.{IsBetween, is_at}
use Rattle.sq_slots.proofs.SplitLaws.{none_changes, stands_between}
use Rattle.sq_store.specs.SlotStores.{IsIndexed}
use Rattle.sq_store.proofs.SlotLaws.{indexed_changed, spare_beside}
use Rattle.sq_store.proofs.slots.SlotStore.revise.Goals as goal
use Rattle.sq_store.proofs.slots.SlotStore.revise.Goals.{After-clear}

pub returns-in_default-clause-rows : goal.returns-in_default-clause-rows
returns-in_default-clause-rows c =
    let none : find (is_at c.args.slot c.args.serial) c.args.self.now.table.rows ≡ None = search rules in
    sym (none_changes c.args.slot c.args.serial c.args.delivery c.args.self.now.table.rows none)

-- the row that changes, between the others
split : (c : After-clear) → IsBetween c.args.slot c.args.serial c.self.inside.table.rows c.in-Some.row.now
split c =
    let there : find (is_at c.args.slot c.args.serial) c.self.inside.table.rows ≡ Some c.in-Some.row.now = search rules in
    stands_between c.args.slot c.args.serial 0 c.self.inside.table.rows c.in-Some.row.now c.get.ensures.apart.rise c.get.ensures.apart.slots there

-- its moment has gone out of the list of its class, where one may come in now
pub set-requires : goal.set-requires
set-requires c =
    let s = split (goal.at.set-requires c).After-clear in
    let whole : IsIndexed (s.before ++ c.in-Some.row.now ∷ s.after) c.self.inside.visible c.self.inside.ages = rw s.whole at c.self.invariant in
    spare_beside s.before c.in-Some.row.now s.after c.self.inside.visible c.clear.new.self c.self.inside.ages c.clear.ensures.ordered (rw (← s.slot_is) at c.clear.ensures.cleared) whole _

pub invariant_of-self : goal.invariant_of-self
invariant_of-self c =
    let s = split (goal.at.invariant_of-self c).After-clear in
    let row = c.in-Some.row.now in
    let whole : IsIndexed (s.before ++ row ∷ s.after) c.self.inside.visible c.self.inside.ages = rw s.whole at c.self.invariant in
    let fits : row.slot < 4294967296 = rw s.slot_is c.ranges.slot.fits in
    rw (c.update.ensures.rows, s.changed c.args.delivery)
    (indexed_changed s.before row s.after c.args.delivery c.self.inside.visible c.clear.new.self c.set.new.self c.self.inside.ages fits (subst (λ (n : ℕ). All (λ (r : Row). r.slot ≢ n) (s.before ++ s.after)) (sym s.slot_is) s.others)
    c.clear.ensures.ordered (rw (← s.slot_is) at c.clear.ensures.cleared) c.set.ensures.ordered (rw (← s.slot_is) at c.set.ensures.set) whole)
