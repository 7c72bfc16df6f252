use Rattle.std.proofs.Common.{rules, arith, ◌≡◌}
use Rattle.std.proofs.lemmas.Grind.{common_steps}
use Rattle.sq_queue.proofs.FinishLaws.{gathered_more}
use Rattle.sq_queue.proofs.finish.gather.Goals as goal

pub loop-session-preserved : goal.loop-session-preserved
loop-session-preserved g c =
    let mine : c.session.inside.journal ≡ c.in-Some.session.journal = search rules in record {
      all = grind (arith, common_steps);
      left = search rules;
      spare = search rules;
      capacity = search rules;
      journals = gathered_more (λ s. s.journal) c.args.all.now.journals.items c.loop-session.yielded c.in-Some.session c.session.inside.journal c.loop-session.all.journals.items c.put_first.new.journals.items c.loop-session.invariant.journals mine c.put_first.ensures.put;
      distinct = c.put_first.ensures.distinct;
      fewer = grind (arith, common_steps);
      directory_parts = grind (arith, common_steps);
      ledger_parts = grind (arith, common_steps);
      directory = grind (arith, common_steps);
      ledger = grind (arith, common_steps);
      directory_few = search rules;
      ledger_few = search rules;
      made = search rules;
    }
