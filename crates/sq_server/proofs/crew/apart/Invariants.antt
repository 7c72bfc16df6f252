use Rattle.std.proofs.Common.{◌≡◌, ◌+◌, ◌-◌, ◌^◌, ◌≤◌, ◌++◌, length, map, min, sum_by}
use Rattle.std.specs.Prelude.{vec_len, vec_capacity}
use Rattle.std.specs.Vec.Iter.{into_iter_items, into_iter_len}
use Rattle.sq_server.proofs.crew.apart.Given as goal

abbrev pub invariant-loop-member : goal.invariant-loop-member
invariant-loop-member g l =
    (l.yielded ++ into_iter_items l.member-iterator ≡ l.fn.crew.items)
    × (into_iter_len l.member-iterator ≡ length (into_iter_items l.member-iterator))
    × (vec_len l.clients + into_iter_len l.member-iterator ≤ vec_capacity l.clients)
    × (l.clients.items ≡ map (λ m. m.client) l.yielded)
    × (l.count ≡ min (sum_by (λ m. m.count) l.yielded) (2 ^ 64 - 1))
