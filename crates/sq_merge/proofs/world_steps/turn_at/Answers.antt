use Rattle.std.proofs.Common.{rules, ◌≡◌, [], refl, None, Some}
use Rattle.sq_actions.specs.Performs.{BringFits, LeaveFits, ServeFits}
use Rattle.sq_actions.proofs.PathLaws.{no_gain}
use Rattle.sq_merge.specs.WorldSteps.{TurnFits, world_counts}
use Rattle.sq_merge.proofs.BorrowedLaws.{at_world_as}
use Rattle.sq_merge.proofs.world_steps.turn_at.Goals as goal

pub returns-in-DeadTurn : goal.returns-in-DeadTurn
returns-in-DeadTurn c =
    let homes = (world_counts c.args.world_steps.now.world.now).homes in
    let at = at_world_as (TurnFits homes c.args.turn.now c.args.progress.now c.args.progress.now) (LeaveFits homes c.in-DeadTurn.name) c.args.world_steps.now c.leave.new.steps c.leave.result
    (rw c.in-DeadTurn.is (λ ds fits. (fits, refl))) c.leave.ensures.answered c.leave.ensures.leaves_records in
    record { same_reference = at.0; same_progress = at.1; answered = at.2; leaves_records = at.3 }

pub returns-in-EnterTurn : goal.returns-in-EnterTurn
returns-in-EnterTurn c =
    let homes = (world_counts c.args.world_steps.now.world.now).homes in
    let at = at_world_as (TurnFits homes c.args.turn.now c.args.progress.now (record c.args.progress.now { item = c.bring.new.tried })) (BringFits homes c.args.progress.now.item c.bring.new.tried) c.args.world_steps.now c.bring.new.steps c.bring.result
    (rw c.in-EnterTurn.is (λ ds fits. (fits, refl))) c.bring.ensures.answered c.bring.ensures.leaves_records in
    record { same_reference = at.0; same_progress = at.1; answered = at.2; leaves_records = at.3 }

pub returns-in-TaskTurn-Some : goal.returns-in-TaskTurn-Some
returns-in-TaskTurn-Some c =
    let named : c.in-TaskTurn-Some.field-0 ≡ Some c.in-TaskTurn-Some.number = search rules in
    let homes = (world_counts c.args.world_steps.now.world.now).homes in
    let at = at_world_as (TurnFits homes c.args.turn.now c.args.progress.now c.keep.new.self) (ServeFits homes c.walk_for-walk.result c.serve-told.new.walk) c.args.world_steps.now c.serve-told.new.steps c.serve-told.result
    (rw (c.in-TaskTurn-Some.is, named) (λ ds fits. (c.serve-told.new.walk, rw c.walk_for-walk.ensures at fits, c.keep.ensures))) c.serve-told.ensures.answered c.serve-told.ensures.leaves_records in
    record { same_reference = at.0; same_progress = at.1; answered = at.2; leaves_records = at.3 }

pub returns-in-TaskTurn-None : goal.returns-in-TaskTurn-None
returns-in-TaskTurn-None c =
    let none : c.in-TaskTurn-None.field-0 ≡ None = search rules in
    record {
      same_reference = refl;
      same_progress = refl;
      answered = record { trace = []; path = refl; fits = rw (c.in-TaskTurn-None.is, none) (refl, refl, refl) };
      leaves_records = record { trace = []; records = []; are = refl; gains = no_gain _ _ refl; fits = rw (c.in-TaskTurn-None.is, none) (refl, refl, refl) };
    }
