use Rattle.std.proofs.Common.{◌≡◌, Some, slice_get, true}
use Rattle.std.proofs.lemmas.Result.{on_ok_weaker, IfErr-weaker}
use Rattle.sq_model.specs.Ledgers.{is_own}
use Rattle.sq_audit.specs.HomeHistories.{histories_of}
use Rattle.sq_audit.specs.declared.check.Part.TheVariants.{Ledger}
use Rattle.sq_audit.specs.Faults.{IsWrong}
use Rattle.sq_audit.specs.inside.Faults.{IsEventFault}
use Rattle.sq_audit.proofs.CheckLaws.{ledger_fits, ledger_wrong, own_if}
use Rattle.sq_audit.proofs.check.check_ledger_event.Goals as goal

pub returns-in_default : goal.returns-in_default
returns-in_default c =
    let per_queue = c.evidence.inside.per_queue in
    let homes = c.evidence.inside.homes.now in
    let d = c.evidence.inside.directory.now.events in
    let l = c.evidence.inside.ledger.now.history.events in
    let journals = c.evidence.inside.journals.now in
    let e = c.args.event.now in
    let own : is_own e.call ≡ true = own_if e.call c.in_default.not-AtHome in
    let there : slice_get l c.args.index ≡ Some e = rw (← c.evidence.view_is) at c.requires.there in
    rw (← c.evidence.view_is) (record {
      records = on_ok_weaker c.check_event.result (λ here _. ledger_fits per_queue homes c.evidence.invariant.numbered d l journals (rw (← c.evidence.view_is) at c.requires.fit) c.args.index e there here) (rw (← c.evidence.view_is) at c.check_event.ensures.ok);
      partners = on_ok_weaker c.check_event.result (λ here not. absurd cc) c.check_event.ensures.ok;
      fault = IfErr-weaker c.check_event.result (IsEventFault per_queue journals e.actor e.place Ledger c.args.index) (IsWrong d l (histories_of homes) journals)
          (λ f. ledger_wrong per_queue homes c.evidence.invariant.numbered d l journals (rw (← c.evidence.view_is) at c.requires.fit) c.args.index e f there own) (rw (← c.evidence.view_is) at c.check_event.ensures.fault);
    })
