use Rattle.std.proofs.Common.{◌≡◌, take, []}
use Rattle.sq_audit.specs.Tags.{tags_of}
use Rattle.sq_places.specs.inside.MessagePasses.{pass_from, pass_start}
use Rattle.sq_places.proofs.message_pass.place_of.Given as goal

abbrev pub invariant-loop-index : goal.invariant-loop-index
invariant-loop-index l = l.message_pass ≡ pass_from l.x [] pass_start (tags_of (take l.index l.events))
