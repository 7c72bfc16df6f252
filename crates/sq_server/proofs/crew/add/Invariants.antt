use Rattle.std.proofs.Common.{◌≡◌, ◌++◌, map, replicate, sum_by}
use Rattle.sq_server.proofs.crew.add.Given as goal

abbrev pub invariant-loop : goal.invariant-loop
invariant-loop g l =
    (map (λ m. m.role) l.crew.items ≡ map (λ m. m.role) l.fn.crew.items ++ replicate l.counter l.role)
    × (sum_by (λ m. m.count) l.crew.items ≡ sum_by (λ m. m.count) l.fn.crew.items)
