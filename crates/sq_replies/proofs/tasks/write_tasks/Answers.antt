use Rattle.std.proofs.Common.{codes, map}
use Rattle.sq_replies.specs.Replies.{task_data}
use Rattle.sq_replies.proofs.TellLaws.{one_list}
use Rattle.sq_replies.proofs.tasks.write_tasks.Goals as goal

pub returns : goal.returns
returns c = one_list c.end_list.result (codes "Results") (map task_data c.args.tasks.now) c.args.out.now c.begin_list.new.out c.write_each.new.out c.end_list.new.out c.in_ok-begin_list.ensures c.in_ok-write_each.ensures c.end_list.ensures
