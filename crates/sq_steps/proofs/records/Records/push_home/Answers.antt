use Rattle.std.proofs.Common.{rules, length}
use Rattle.sq_steps.proofs.RecordLaws.{home_put, home_within}
use Rattle.sq_steps.proofs.records.Records.push_home.Goals as goal

pub invariant_of-self : goal.invariant_of-self
invariant_of-self c = record {
  within = rw c.push.ensures.items (home_within (length c.self.inside.others.items) c.self.inside.names.names c.keep-kept.new.names.names c.self.inside.kept.items c.args.its_record c.keep-kept.result c.self.invariant.within c.keep-kept.ensures.kept);
  spare = search rules;
}

pub returns-clause-items : goal.returns-clause-items
returns-clause-items c =
    rw (c.push.ensures.items, ← c.self.view_is)
    (home_put c.self.inside.others.items c.self.inside.names.names c.keep-kept.new.names.names c.self.inside.kept.items c.args.its_record c.keep-kept.result c.self.invariant.within c.keep-kept.ensures.kept)
