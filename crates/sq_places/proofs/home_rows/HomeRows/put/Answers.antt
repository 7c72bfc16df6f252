use Rattle.std.proofs.Common.{◌∙◌}
use Rattle.sq_places.proofs.IndexLaws.{put_law, put_ages, more_ages, added}
use Rattle.sq_places.proofs.home_rows.HomeRows.put.Goals as goal

pub invariant_of-self : goal.invariant_of-self
invariant_of-self c = record { ordered = c.self.invariant.ordered; each = rw c.in_err-insert.ensures.err c.self.invariant.each }

pub invariant_of-self-in_err-insert-2 : goal.invariant_of-self-in_err-insert-2
invariant_of-self-in_err-insert-2 c = record {
  ordered = rw c.in_err-insert-2.ensures.err c.self.invariant.ordered;
  each = rw c.in_err-insert-2.ensures.err (more_ages c.self.inside.ages.keys c.insert.new.self.keys (λ a h. c.in_ok-insert.ensures.updates.0 a ∙ added _ _ h) c.self.inside.rows.entries c.self.invariant.each);
}

pub invariant_of-self-2 : goal.invariant_of-self-2
invariant_of-self-2 c = record {
  ordered = c.in_ok-insert-2.ensures.ordered;
  each = rw c.in_ok-insert-2.ensures.entries (put_ages c.insert.new.self.keys c.self.inside.rows.entries c.args.row c.in_ok-insert.ensures.updates.1
      (more_ages c.self.inside.ages.keys c.insert.new.self.keys (λ a h. c.in_ok-insert.ensures.updates.0 a ∙ added _ _ h) c.self.inside.rows.entries c.self.invariant.each));
}

pub returns-clause-rows : goal.returns-clause-rows
returns-clause-rows c = rw (c.in_ok-insert-2.ensures.entries, ← c.self.view_is) (put_law c.self.inside.ages.keys c.self.inside.rows.entries c.args.row c.self.invariant.each)
