use Rattle.std.proofs.Common.{◌≡◌, ◌+◌, length}
use Rattle.sq_places.specs.inside.Audits.{grown}
use Rattle.sq_places.proofs.places.grow.Given as goal

abbrev pub invariant-loop : goal.invariant-loop
invariant-loop l = l.homes.items ≡ grown (length l.fn.homes.items + l.counter) l.fn.homes.items
