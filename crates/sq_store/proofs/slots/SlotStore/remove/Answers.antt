use Rattle.std.proofs.Common.{rules, ◌≡◌, ◌≤◌, ◌++◌, ◌∷◌, Some, length, arith}
use Rattle.std.specs.Prelude.{find}
use Rattle.std.proofs.lemmas.List.Sums.{length-filter, count_by-le-length}
use Rattle.sq_slots.specs.Slots.{IsBetween, is_at, is_away}
use Rattle.sq_slots.proofs.SplitLaws.{stands_between}
use Rattle.sq_store.specs.SlotStores.{IsIndexed, SlotValue}
use Rattle.sq_store.proofs.MemoryLaws.{keeps_reserved}
use Rattle.sq_store.proofs.SlotLaws.{indexed_out}
use Rattle.sq_store.proofs.slots.SlotStore.remove.Goals as goal
use Rattle.sq_store.proofs.slots.SlotStore.remove.Goals.{After-unlist}

-- the row that goes out, between the others
split : (c : After-unlist) → IsBetween c.args.slot c.args.serial c.self.inside.table.rows c.in_ok-row.row
split c =
    let there : find (is_at c.args.slot c.args.serial) c.self.inside.table.rows ≡ Some c.in_ok-row.row = search rules in
    stands_between c.args.slot c.args.serial 0 c.self.inside.table.rows c.in_ok-row.row c.take.ensures.apart.rise c.take.ensures.apart.slots there

pub invariant_of-self-2 : goal.invariant_of-self-2
invariant_of-self-2 c =
    let s = split (goal.at.invariant_of-self-2 c).After-unlist in
    let whole : IsIndexed (s.before ++ c.in_ok-row.row ∷ s.after) c.self.inside.visible c.self.inside.ages = rw s.whole at c.self.invariant in
    rw (c.take.ensures.rows, s.away) (indexed_out s.before c.in_ok-row.row s.after c.self.inside.visible c.unlist.new.visible c.self.inside.ages c.unlist.new.ages
    c.unlist.ensures.ordered c.unlist.ensures.cleared c.unlist.ensures.rise c.unlist.ensures.ages c.unlist.ensures.memory whole)

pub returns-clause-reserved : goal.returns-clause-reserved
returns-clause-reserved c =
    let old : SlotValue = record { table = c.self.inside.table; visible = c.self.inside.visible; ages = c.self.inside.ages } in
    let new : SlotValue = record { table = c.take.new.self; visible = c.unlist.new.visible; ages = c.unlist.new.ages } in
    let rows = c.self.inside.table.rows in
    let fewer : length c.take.new.self.rows ≤ length rows =
    rw c.take.ensures.rows (omega (arith, length-filter (is_away c.args.slot c.args.serial) rows, count_by-le-length (is_away c.args.slot c.args.serial) rows)) in
    rw (← c.self.view_is) (keeps_reserved old new c.take.ensures.reserved fewer c.unlist.ensures.cleared.space c.unlist.ensures.memory)

pub returns-clause-between : goal.returns-clause-between
returns-clause-between c = rw (← c.self.view_is) (split (goal.at.returns-clause-between c).After-unlist)
