use Rattle.std.proofs.Common.{map}
use Rattle.serde_json.specs.Data.{string}
use Rattle.sq_replies.specs.Replies.{queue_url}
use Rattle.sq_replies.proofs.TellLaws.{one_list}
use Rattle.sq_replies.proofs.queues.write_queues.Goals as goal

pub returns : goal.returns
returns c = one_list c.end_list.result c.args.name.now (map (λ name. string (queue_url name)) c.args.queues.now) c.args.out.now c.begin_list.new.out c.write_urls.new.out c.end_list.new.out c.in_ok-begin_list.ensures c.in_ok-write_urls.ensures c.end_list.ensures
