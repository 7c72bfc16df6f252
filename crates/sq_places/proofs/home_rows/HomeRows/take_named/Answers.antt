use Rattle.sq_places.specs.inside.RowStates.{is_state_named}
use Rattle.sq_places.proofs.IndexLaws.{take_law, left_ages, only_named}
use Rattle.sq_places.proofs.home_rows.HomeRows.take_named.Goals as goal

pub invariant_of-self : goal.invariant_of-self
invariant_of-self c = record {
  ordered = c.take.ensures.ordered c.self.invariant.ordered;
  each = rw (c.take.ensures.rows, c.take.ensures.taken) (left_ages (is_state_named c.args.receipt.now) c.args.receipt.now.serial c.self.inside.ages.keys c.self.inside.rows.entries c.self.invariant.each);
}

pub returns-clause-rows : goal.returns-clause-rows
returns-clause-rows c =
    rw (c.take.ensures.rows, c.take.ensures.taken, ← c.self.view_is)
    (take_law (is_state_named c.args.receipt.now) c.args.receipt.now.serial (only_named c.args.receipt.now) c.self.inside.ages.keys c.self.inside.rows.entries c.self.invariant.ordered c.self.invariant.each).0

pub returns-clause-taken : goal.returns-clause-taken
returns-clause-taken c =
    rw (c.take.ensures.taken, ← c.self.view_is)
    (take_law (is_state_named c.args.receipt.now) c.args.receipt.now.serial (only_named c.args.receipt.now) c.self.inside.ages.keys c.self.inside.rows.entries c.self.invariant.ordered c.self.invariant.each).1
