use Rattle.std.proofs.Common.{arith}
use Rattle.sq_store.proofs.DueLaws.{count_later}
use Rattle.sq_store.proofs.due.count_later.Goals as goal

pub returns : goal.returns
returns c = omega (arith, count_later c.args.moment c.args.index.now.deadlines)
