use Rattle.std.proofs.Common.{rules, arith}
use Rattle.sq_queue.proofs.service.Serving+C+G+D+T+SlotStore.new.Goals as goal

pub invariant_of-result : goal.invariant_of-result
invariant_of-result g c = record {
  sampled = search rules;
  few = let many = c.in_ok-each_under_lock.ensures.many in let most = c.in_ok-homes.ensures.few in omega (arith, many, most);
  placed = c.in_ok-each_under_lock.ensures.placed;
}
