use Rattle.sq_actions.proofs.TurnLaws.{finished_by}
use Rattle.sq_actions.proofs.turns.finish.Goals as goal

pub returns : goal.returns
returns g c = finished_by _ c.args.walk.now _ _ _ c.ledger_step-answered.result _ c.ledger_step-answered.ensures.did c.walk_waiting.ensures c.finish_word.ensures
