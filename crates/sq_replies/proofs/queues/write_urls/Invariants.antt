use Rattle.std.proofs.Common.{◌≡◌, ◌++◌, map, take}
use Rattle.serde_json.specs.Data.{string}
use Rattle.sq_replies.specs.Replies.{queue_url}
use Rattle.sq_replies.specs.inside.Told.{all_tokens}
use Rattle.sq_replies.proofs.queues.write_urls.Given as goal

abbrev pub invariant-loop-name : goal.invariant-loop-name
invariant-loop-name l = l.out ≡ l.fn.out ++ all_tokens (map (λ name. string (queue_url name)) (take l.name-index l.names))
