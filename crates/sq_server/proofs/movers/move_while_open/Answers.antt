use Rattle.std.proofs.Common.{suc}
use Rattle.sq_server.proofs.movers.move_while_open.Goals as goal

pub loop-preserved : goal.loop-preserved
loop-preserved g c = (suc c.loop.invariant.0, (c.loop.mover, c.loop.client, c.loop.rest, c.loop.invariant.1, c.round-rest.ensures))
