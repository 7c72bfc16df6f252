use Rattle.sq_mover.specs.MoverValue.{new_mover}
use Rattle.sq_server.specs.Around.{around_all}
use Rattle.sq_server.proofs.RoundLaws.{told_run}
use Rattle.sq_server.proofs.movers.move_for_a_race.Goals as goal

pub returns : goal.returns
returns g c =
    (c.turns.new.mover, told_run (around_all c.args.service.now.service.value) 1000 c.new-mover.result new_mover c.turns.new.mover c.args.client.now c.turns.new.client c.turns.result c.new-mover.ensures c.turns.ensures.run)
