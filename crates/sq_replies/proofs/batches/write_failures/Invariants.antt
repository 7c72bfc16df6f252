use Rattle.std.proofs.Common.{◌≡◌, ◌++◌, take}
use Rattle.sq_replies.specs.Replies.{failures}
use Rattle.sq_replies.specs.inside.Told.{all_tokens}
use Rattle.sq_replies.proofs.batches.write_failures.Given as goal

abbrev pub invariant-loop-entry : goal.invariant-loop-entry
invariant-loop-entry l = l.out ≡ l.fn.out ++ all_tokens (failures (take l.entry-index l.told))
