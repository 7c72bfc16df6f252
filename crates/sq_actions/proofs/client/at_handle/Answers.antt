use Rattle.std.proofs.Common.{rules}
use Rattle.sq_actions.specs.Entries.{OneFits}
use Rattle.sq_actions.specs.inside.Messages.{asked_by}
use Rattle.sq_actions.proofs.ClientLaws.{answered_found, answered_lost}
use Rattle.sq_actions.proofs.EntryLaws.{answered_as_entry, handle_as_entry}
use Rattle.sq_actions.proofs.client.at_handle.Goals as goal

pub returns-in_err-of : goal.returns-in_err-of
returns-in_err-of g c = answered_lost _ _ _ _ _ _ _ c.in_err-of.ensures.refusal c.in_err-of.ensures.did (search rules)

pub returns : goal.returns
returns g c =
    let name = c.args.queue.now in
    let asked = asked_by c.args.what c.args.handle.now in
    rw c.one_answered.ensures
    (answered_found _ g.S.LockSteps.counts (λ n. OneFits n.homes name asked) _ _ _ _ name _ _ c.in_ok-of.ensures.did c.resolve.ensures.same_counts
    (answered_as_entry _ _ _ name asked _ _ _ _ c.on_message.ensures.did (λ ds fits. handle_as_entry _ name _ c.args.handle.now c.args.what ds _ (rw c.in_ok-of.ensures.named at fits))) (λ ds fits. fits))
