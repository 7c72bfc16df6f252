use Rattle.std.proofs.Common.{◌≡◌, drop}
use Rattle.sq_requests.specs.inside.Batches.{are_distinct}
use Rattle.sq_requests.proofs.batches.are_distinct.Given as goal

abbrev pub invariant-loop-index : goal.invariant-loop-index
invariant-loop-index l = are_distinct l.entries ≡ are_distinct (drop l.index l.entries)
