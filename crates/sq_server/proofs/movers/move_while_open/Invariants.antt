use Rattle.std.specs.Prelude.{ℕ}
use Rattle.sq_mover.specs.MoverValue.{new_mover}
use Rattle.sq_server.specs.Around.{around_all}
use Rattle.sq_server.specs.Rounds.{HasMadeRounds}
use Rattle.sq_server.proofs.movers.move_while_open.Given as goal

abbrev pub invariant-loop : goal.invariant-loop
invariant-loop g l = (rounds : ℕ) × HasMadeRounds (around_all l.service.service.value) rounds 1 new_mover l.fn.client l.rest l.mover l.client
