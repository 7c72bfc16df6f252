use Rattle.std.proofs.Common.{rules, ◌≡◌, ◌∙◌, ◌<◌, true, false, filter, length}
use Rattle.std.proofs.lemmas.List.Edits.{length-remove}
use Rattle.std.specs.Prelude.{slice_get}
use Rattle.std.specs.List.{remove}
use Rattle.sq_deadline.specs.Deadlines.{DeadlinesRise, is_other}
use Rattle.sq_deadline.specs.inside.Deadlines.{is_this}
use Rattle.sq_deadline.specs.Trees.{listed}
use Rattle.sq_deadline.proofs.OrderLaws.{goes_out, is_not_there, place_of, rise_without, there_within}
use Rattle.sq_deadline.proofs.index.DeadlineIndex.clear.Goals as goal
use Rattle.sq_deadline.proofs.index.DeadlineIndex.clear.Goals.{After-remove}

-- it goes out at its index
went : (c : After-remove) → listed c.remove.new.self ≡ filter (is_other c.args.deadline.now) c.args.self.now.deadlines
went c =
    let ds = c.args.self.now.deadlines in
    let there : is_this c.args.deadline.now (slice_get ds (place_of c.args.deadline.now ds)) ≡ true = search rules in
    let left : listed c.remove.new.self ≡ remove ds (place_of c.args.deadline.now ds) = search rules in
    left ∙ goes_out 0 c.args.deadline.now ds c.index-index.ensures.order there

pub returns-then-is_there-clause-deadlines : goal.returns-then-is_there-clause-deadlines
returns-then-is_there-clause-deadlines c = went (goal.at.returns-then-is_there-clause-deadlines c).After-remove

pub returns-else-is_there-clause-deadlines : goal.returns-else-is_there-clause-deadlines
returns-else-is_there-clause-deadlines c =
    let ds = c.args.self.now.deadlines in
    let other : is_this c.args.deadline.now (slice_get ds (place_of c.args.deadline.now ds)) ≡ false = search rules in
    is_not_there 0 c.args.deadline.now ds c.index-index.ensures.order other

pub invariant_of-self : goal.invariant_of-self
invariant_of-self c =
    let ds = c.args.self.now.deadlines in
    let rises : DeadlinesRise 0 (listed c.remove.new.self) = rw (went (goal.at.invariant_of-self c).After-remove) (rise_without 0 c.args.deadline.now ds c.index-index.ensures.order) in
    let there : is_this c.args.deadline.now (slice_get ds c.index-index.result) ≡ true = search rules in
    let before = there_within c.args.deadline.now ds c.index-index.result there in
    let within : c.index-index.result < length (listed c.self.inside.tree) = rw (← c.self.view_is) at before in
    let rest = length-remove (listed c.self.inside.tree) c.index-index.result within in
    search (rules, rises, rest)
