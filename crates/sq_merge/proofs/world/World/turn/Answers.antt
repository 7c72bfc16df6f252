use Rattle.std.proofs.Common.{◌≡◌, inr}
use Rattle.std.specs.List.{slice_index_or}
use Rattle.sq_merge.specs.Progresses.{with_progress}
use Rattle.sq_merge.specs.inside.Progresses.{progress_place}
use Rattle.sq_merge.proofs.ProgressLaws.{turn_stepped, turn_leaves}
use Rattle.sq_merge.proofs.StepLaws.{as_fields}
use Rattle.sq_merge.proofs.world.World.turn.Goals.{After-turn_with-answered}
use Rattle.sq_merge.proofs.world.World.turn.Goals as goal

-- the turn is lent what stands at its actor's place
lent : (c : After-turn_with-answered) → c.index.result.now ≡ slice_index_or (with_progress c.args.actor (as_fields c.self.view_is).progress) (progress_place c.args.actor (as_fields c.self.view_is).progress) c.index.result.now
lent c = rw (c.in_ok-at.ensures.added, c.in_ok-at.ensures.index) at c.index.ensures

pub returns-clause-answered : goal.returns-clause-answered
returns-clause-answered c =
    let same : (as_fields c.self-2.view_is).progress ≡ with_progress c.args.actor (as_fields c.self.view_is).progress = rw (← c.self-2.view_is, c.in_ok-at.ensures.added) at c.turn_with-answered.ensures.same_progress in
    rw (← c.self.view_is, c.in_ok-at.ensures.index)
    (inr (turn_stepped c.args.actor c.args.now c.args.turn.now (as_fields c.self.view_is) (as_fields c.self-2.view_is) c.turn_with-answered.new.progress c.index.result.now c.turn_with-answered.result (lent (goal.at.returns-clause-answered c).After-turn_with-answered) same
    (rw (← c.self-2.view_is, c.in_ok-at.ensures.added) at c.turn_with-answered.ensures.answered)))

pub returns-clause-leaves_records : goal.returns-clause-leaves_records
returns-clause-leaves_records c =
    let same : (as_fields c.self-2.view_is).progress ≡ with_progress c.args.actor (as_fields c.self.view_is).progress = rw (← c.self-2.view_is, c.in_ok-at.ensures.added) at c.turn_with-answered.ensures.same_progress in
    rw (← c.self.view_is, c.in_ok-at.ensures.index)
    (inr (turn_leaves c.args.actor c.args.now c.args.turn.now (as_fields c.self.view_is) (as_fields c.self-2.view_is) c.turn_with-answered.new.progress c.index.result.now c.turn_with-answered.result (lent (goal.at.returns-clause-leaves_records c).After-turn_with-answered) same _ _
    (rw (← c.self-2.view_is) at c.turn_with-answered.ensures.leaves_records)))
