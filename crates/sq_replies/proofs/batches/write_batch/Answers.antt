use Rattle.std.proofs.Common.{codes}
use Rattle.sq_replies.specs.Replies.{failures, successes}
use Rattle.sq_replies.proofs.TellLaws.{two_lists}
use Rattle.sq_replies.proofs.batches.write_batch.Goals as goal

pub returns : goal.returns
returns c =
    two_lists c.end_list.result (codes "Failed") (codes "Successful") (failures c.args.told.now) (successes c.args.told.now)
    c.args.out.now c.begin_list.new.out c.write_failures.new.out c.next_list.new.out c.write_successes.new.out c.end_list.new.out
    c.in_ok-begin_list.ensures c.in_ok-write_failures.ensures c.in_ok-next_list.ensures c.in_ok-write_successes.ensures c.end_list.ensures
