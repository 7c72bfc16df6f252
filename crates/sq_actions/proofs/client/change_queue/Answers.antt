use Rattle.std.proofs.Common.{rules}
use Rattle.sq_model.specs.declared.directory.DirectoryReply.TheVariants as told
use Rattle.sq_actions.specs.Fits.{ThenAll}
use Rattle.sq_actions.proofs.ClientLaws.{answered_by_directory, answered_refused}
use Rattle.sq_actions.proofs.client.change_queue.Goals as goal

pub returns-in_err-made : goal.returns-in_err-made
returns-in_err-made g c = answered_refused _ _ _ _ _ _ _ (search rules) c.in_err-made.ensures.refusal c.in_err-made.ensures.did

pub returns-in-Made : goal.returns-in-Made
returns-in-Made g c =
    answered_by_directory _ g.S.LockSteps.counts c.args.call.now (λ n. ThenAll n.homes c.args.name.now c.args.answer) _ _ _ _ (told.Made c.in-Made.made) _
    (rw c.in-Made.is at c.in_ok-made.ensures.did) c.directory_step.ensures.same_counts (rw c.in-Made.is at c.in_ok-made.ensures.reply) c.ask_all.ensures (λ ds fits. fits)

pub returns-in-Changed : goal.returns-in-Changed
returns-in-Changed g c =
    answered_by_directory _ g.S.LockSteps.counts c.args.call.now (λ n. ThenAll n.homes c.args.name.now c.args.answer) _ _ _ _ (told.Changed c.in-Changed.changed) _
    (rw c.in-Changed.is at c.in_ok-made.ensures.did) c.directory_step.ensures.same_counts (rw c.in-Changed.is at c.in_ok-made.ensures.reply) c.ask_all-in-Changed.ensures (λ ds fits. fits)

pub returns-in-Removed : goal.returns-in-Removed
returns-in-Removed g c =
    answered_by_directory _ g.S.LockSteps.counts c.args.call.now (λ n. ThenAll n.homes c.args.name.now c.args.answer) _ _ _ _ (told.Removed c.in-Removed.number) _
    (rw c.in-Removed.is at c.in_ok-made.ensures.did) c.directory_step.ensures.same_counts (rw c.in-Removed.is at c.in_ok-made.ensures.reply) c.ask_all-in-Removed.ensures (λ ds fits. fits)

pub returns-in-Ticket : goal.returns-in-Ticket
returns-in-Ticket g c =
    answered_by_directory _ g.S.LockSteps.counts c.args.call.now (λ n. ThenAll n.homes c.args.name.now c.args.answer) _ _ _ _ (told.Ticket c.in-Ticket.number) _
    (rw c.in-Ticket.is at c.in_ok-made.ensures.did) c.directory_step.ensures.same_counts (rw c.in-Ticket.is at c.in_ok-made.ensures.reply) c.ask_all-in-Ticket.ensures (λ ds fits. fits)
