use Rattle.sq_places.specs.inside.RowStates.{is_state_of}
use Rattle.sq_places.proofs.IndexLaws.{take_law, left_ages, only_of}
use Rattle.sq_places.proofs.home_rows.HomeRows.take_out.Goals as goal

pub invariant_of-self : goal.invariant_of-self
invariant_of-self c = record {
  ordered = c.take.ensures.ordered c.self.invariant.ordered;
  each = rw (c.take.ensures.rows, c.take.ensures.taken) (left_ages (is_state_of c.args.row.now) c.args.row.now.serial c.self.inside.ages.keys c.self.inside.rows.entries c.self.invariant.each);
}

pub returns : goal.returns
returns c =
    rw (c.take.ensures.rows, c.take.ensures.taken, ← c.self.view_is)
    (take_law (is_state_of c.args.row.now) c.args.row.now.serial (only_of c.args.row.now) c.self.inside.ages.keys c.self.inside.rows.entries c.self.invariant.ordered c.self.invariant.each).0
