use Rattle.std.proofs.Common.{codes, map}
use Rattle.sq_replies.specs.Replies.{message_data}
use Rattle.sq_replies.proofs.TellLaws.{one_list}
use Rattle.sq_replies.proofs.reply.write_received.Goals as goal

pub returns : goal.returns
returns c = one_list c.end_list.result (codes "Messages") (map (message_data c.args.received.now.attributes c.args.received.now.home) c.args.received.now.rows) c.args.out.now c.begin_list.new.out c.write_messages.new.out c.end_list.new.out c.in_ok-begin_list.ensures c.in_ok-write_messages.ensures c.end_list.ensures
