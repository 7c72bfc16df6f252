use Rattle.std.proofs.Common.{◌≡◌, drop}
use Rattle.sq_calls.specs.Batches.{have_distinct_ids}
use Rattle.sq_calls.proofs.batches.have_distinct_ids.Given as goal

abbrev pub invariant-loop-index : goal.invariant-loop-index
invariant-loop-index l = have_distinct_ids l.entries ≡ have_distinct_ids (drop l.index l.entries)
