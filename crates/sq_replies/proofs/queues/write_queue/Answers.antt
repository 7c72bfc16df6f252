use Rattle.std.proofs.Common.{◌≡◌, ◌∙◌}
use Rattle.sq_replies.specs.Replies.{queue_url}
use Rattle.sq_replies.proofs.queues.write_queue.Goals as goal

pub returns : goal.returns
returns c =
    let url : c.as_str.result.now ≡ queue_url c.args.name.now = c.as_str.ensures.value ∙ c.in_ok-url.ensures in
    rw url at c.write_only_text.ensures
