use Rattle.std.proofs.Common.{rules, ◌≡◌, length}
use Rattle.sq_steps.proofs.RecordLaws.{other_put, other_within}
use Rattle.sq_steps.proofs.records.Records.push_other.Goals as goal

pub invariant_of-self : goal.invariant_of-self
invariant_of-self c =
    let at : c.len.result ≡ length c.self.inside.others.items = c.len.ensures in
    record {
      within = rw (c.push-2.ensures.items, c.push.ensures.items, at) (other_within c.self.inside.others.items (length c.self.inside.names.names) c.self.inside.kept.items c.args.other c.self.invariant.within);
      spare = search rules;
    }

pub returns-clause-items : goal.returns-clause-items
returns-clause-items c =
    let at : c.len.result ≡ length c.self.inside.others.items = c.len.ensures in
    rw (c.push-2.ensures.items, c.push.ensures.items, at, ← c.self.view_is)
    (other_put c.self.inside.others.items c.self.inside.names.names c.self.inside.kept.items c.args.other c.self.invariant.within)
