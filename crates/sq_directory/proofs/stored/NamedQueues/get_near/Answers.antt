use Rattle.std.proofs.Common.{◌≡◌, ◌∙◌, rules, sym}
use Rattle.sq_directory.proofs.StoredLaws.{lookup_is}
use Rattle.sq_directory.proofs.stored.NamedQueues.get_near.Goals as goal

pub returns-then-eq : goal.returns-then-eq
returns-then-eq c =
    let same : c.in-Some.key.now ≡ c.args.name.now = search rules in
    rw (← c.self.view_is) (sym (rw same at c.in-Some.ensures.value) ∙ lookup_is c.args.name.now c.self.inside.queues.entries c.self.invariant)

pub returns-in_err-index : goal.returns-in_err-index
returns-in_err-index c = rw (← c.self.view_is, c.from_residual.ensures) (c.in_err-index.ensures.value ∙ lookup_is c.args.name.now c.self.inside.queues.entries c.self.invariant)

pub returns : goal.returns
returns c = rw (← c.self.view_is) (c.in_ok-index.ensures.value ∙ lookup_is c.args.name.now c.self.inside.queues.entries c.self.invariant)
