use Rattle.std.proofs.Common.{◌≡◌, ◌++◌, map, take}
use Rattle.sq_replies.specs.Replies.{message_data}
use Rattle.sq_replies.specs.inside.Told.{all_tokens}
use Rattle.sq_replies.proofs.reply.write_messages.Given as goal

abbrev pub invariant-loop-row : goal.invariant-loop-row
invariant-loop-row l = l.out ≡ l.fn.out ++ all_tokens (map (message_data l.fn.received.attributes l.fn.received.home) (take l.row-index l.fn.received.rows))
