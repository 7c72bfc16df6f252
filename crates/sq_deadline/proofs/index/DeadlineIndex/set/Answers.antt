use Rattle.std.proofs.Common.{rules, arith, ◌≡◌, ◌∙◌, ◌<◌, false}
use Rattle.std.proofs.lemmas.List.Edits.{length-insert}
use Rattle.std.specs.Prelude.{slice_get}
use Rattle.std.specs.List.{insert}
use Rattle.sq_deadline.specs.Deadlines.{DeadlinesRise, with_deadline}
use Rattle.sq_deadline.specs.inside.Deadlines.{is_this}
use Rattle.sq_deadline.specs.Trees.{listed}
use Rattle.sq_deadline.proofs.OrderLaws.{comes_in, place_of, rise_with, stays}
use Rattle.sq_deadline.proofs.index.DeadlineIndex.set.Goals as goal
use Rattle.sq_deadline.proofs.index.DeadlineIndex.set.Goals.{After-insert}

pub returns-then-is_there-clause-deadlines : goal.returns-then-is_there-clause-deadlines
returns-then-is_there-clause-deadlines c = stays c.args.deadline c.args.self.now.deadlines (search rules)

-- it comes in at its index
came : (c : After-insert) → listed c.insert.new.self ≡ with_deadline c.args.deadline c.args.self.now.deadlines
came c =
    let ds = c.args.self.now.deadlines in
    let other : is_this c.args.deadline (slice_get ds (place_of c.args.deadline ds)) ≡ false = search rules in
    let put : listed c.insert.new.self ≡ insert ds (place_of c.args.deadline ds) c.args.deadline = search rules in
    put ∙ comes_in c.args.deadline ds other

pub returns-in-Some-clause-deadlines : goal.returns-in-Some-clause-deadlines
returns-in-Some-clause-deadlines c = came (goal.at.returns-in-Some-clause-deadlines c).After-insert

pub invariant_of-self : goal.invariant_of-self
invariant_of-self c =
    let ds = c.args.self.now.deadlines in
    let slot : c.args.deadline.slot < 4294967296 = search rules in
    let rises : DeadlinesRise 0 (listed c.insert.new.self) = rw (came (goal.at.invariant_of-self c).After-insert) (rise_with 0 c.args.deadline ds (omega arith) slot c.index-index.ensures.order) in
    let rest = length-insert (listed c.self.inside.tree) c.index-index.result c.args.deadline in
    search (rules, rises, rest)
