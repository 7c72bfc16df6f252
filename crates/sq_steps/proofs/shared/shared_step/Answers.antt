use Rattle.std.proofs.Common.{rules}
use Rattle.sq_steps.specs.SharedSteps.{BothDo}
use Rattle.sq_steps.proofs.JournalLaws.{shared_journal_more}
use Rattle.sq_steps.proofs.shared.shared_step.Goals as goal

pub invariant_of-journal-in-Some : goal.invariant_of-journal-in-Some
invariant_of-journal-in-Some c =
    let stamp = c.in-Some.record.stamp in
    let both : BothDo c.args.home.now c.both_halves.new.home c.args.ledger.now.history c.both_halves.new.ledger.history c.journal.inside.by stamp c.args.name c.args.act (c.in-Some.reply, c.in-Some.record) = search rules in
    rw (c.count.ensures, c.step.ensures, c.push_home.ensures.items, c.ready.ensures.items)
    (shared_journal_more _ _ _ _ _ stamp c.args.name _ c.in-Some.reply c.in-Some.record c.push_home.new.self.spare c.journal.invariant both)
