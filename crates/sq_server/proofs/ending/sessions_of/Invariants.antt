use Rattle.std.proofs.Common.{◌≡◌, ◌+◌, ◌≤◌, ◌++◌, length}
use Rattle.std.specs.Prelude.{vec_len, vec_capacity}
use Rattle.std.specs.Vec.Iter.{into_iter_items, into_iter_len}
use Rattle.sq_server.proofs.ending.sessions_of.Given as goal

abbrev pub invariant-loop-client : goal.invariant-loop-client
invariant-loop-client g l =
    (l.yielded ++ into_iter_items l.client-iterator ≡ l.fn.clients.items)
    × (into_iter_len l.client-iterator ≡ length (into_iter_items l.client-iterator))
    × (vec_len l.sessions + into_iter_len l.client-iterator ≤ vec_capacity l.sessions)
    × (l.sessions.items ≡ l.yielded)
