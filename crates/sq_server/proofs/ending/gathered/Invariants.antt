use Rattle.std.proofs.Common.{◌≡◌}
use Rattle.std.specs.Prelude.{vec_len}
use Rattle.sq_server.proofs.ending.gathered.Given as goal

abbrev pub invariant-loop : goal.invariant-loop
invariant-loop g l = (l.sessions.items ≡ l.fn.sessions.items) × (vec_len l.service.homes ≡ vec_len l.fn.service.homes)
