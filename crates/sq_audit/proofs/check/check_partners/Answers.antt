use Rattle.std.proofs.Common.{rules, ◌≡◌, ◌∙◌, ◌<◌, length, Err, Some, slice_get, subst, sym}
use Rattle.std.proofs.lemmas.Option.{slice_get_within}
use Rattle.sq_model.specs.Replays.{HomeEvent}
use Rattle.sq_audit.specs.inside.Faults.{HasPartner}
use Rattle.sq_model.proofs.ElementLaws.{below_more, some_same}
use Rattle.sq_audit.proofs.check.check_partners.Goals as goal

pub returns-in_err-check_partner-clause-fault : goal.returns-in_err-check_partner-clause-fault
returns-in_err-check_partner-clause-fault c =
    let refused : c.from_residual.result ≡ Err c.in_err-check_partner.field-0.0 = search rules in
    rw refused (c.loop-at.at, c.index.result.now, c.index.ensures, c.in_err-check_partner.ensures.fault)

pub loop-at-preserved : goal.loop-at-preserved
loop-at-preserved c =
    below_more (λ k. (e : HomeEvent) → slice_get c.args.events.now.items k ≡ Some e → HasPartner c.args.ledger.now.history.events e) c.loop-at.at c.loop-at.invariant
    (λ e there. subst (HasPartner c.args.ledger.now.history.events) (some_same (sym c.index.ensures ∙ there)) c.in_ok-check_partner.ensures.ok)

pub returns-clause-ok : goal.returns-clause-ok
returns-clause-ok c = λ k e there. c.loop-at.invariant k (let lt : k < length c.args.events.now.items = slice_get_within c.args.events.now.items k e there in search rules) e there
