use Rattle.std.proofs.Common.{◌≡◌, ◌+◌, ◌≤◌, drop}
use Rattle.sq_calls.specs.BodyTexts.{body_limit}
use Rattle.sq_requests.specs.inside.Batches.{lengths_of}
use Rattle.sq_requests.proofs.batches.are_too_long.Given as goal

abbrev pub invariant-loop-entry : goal.invariant-loop-entry
invariant-loop-entry l = record {
  within : l.bytes_left ≤ body_limit;
  left : lengths_of l.entries + l.bytes_left ≡ body_limit + lengths_of (drop l.entry-index l.entries);
}
