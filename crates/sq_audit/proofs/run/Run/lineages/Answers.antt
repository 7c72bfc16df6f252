use Rattle.std.proofs.Common.{rules, ◌≡◌, false, length}
use Rattle.sq_model.specs.Places.{run_sends}
use Rattle.std.specs.BTreeSet.{IsFromIterResult}
use Rattle.std.specs.Vec.Iter.{into_iter_len}
use Rattle.std.proofs.lemmas.Iterator.Adapters.{fact_from_collect, YieldsList-from_vec}
use Rattle.sq_audit.specs.RunLineages.{id_cmp}
use Rattle.sq_audit.specs.RunLineages.{has_some}
use Rattle.sq_audit.proofs.RunLaws.{no_lineages, none_is, set_lineages}
use Rattle.sq_audit.proofs.run.Run.lineages.Goals as goal

pub returns-then-not-has_sent-clause-lineages : goal.returns-then-not-has_sent-clause-lineages
returns-then-not-has_sent-clause-lineages c =
    let none : has_some (run_sends c.args.self.now) ≡ false = search rules in
    rw c.new.ensures.items (no_lineages c.args.self.now (none_is (run_sends c.args.self.now) none))

pub returns-clause-lineages : goal.returns-clause-lineages
returns-clause-lineages c =
    let count : into_iter_len c.into_iter.result ≡ length c.in_ok-sends.sends.items = search rules in
    let collected = fact_from_collect (λ xs v. IsFromIterResult id_cmp xs v) c.collect.result c.collect.ensures.ran (YieldsList-from_vec c.in_ok-sends.sends.items c.into_iter.ensures.rest count) in
    let made : IsFromIterResult id_cmp c.in_ok-sends.sends.items c.in_ok-ids.ids = rw c.in_ok-ids.was at collected in
    let all : c.in_ok-collect.field-0.items ≡ c.in_ok-ids.ids.keys = search rules in
    rw all (set_lineages c.args.self.now c.in_ok-sends.sends.items c.in_ok-ids.ids c.in_ok-sends.ensures.sends made)
