use Rattle.std.proofs.Common.{rules, ◌≡◌, subst}
use Rattle.sq_directory.proofs.DirectoryLaws.{directory_kept_more}
use Rattle.sq_model.specs.declared.directory.DirectoryReply.{DirectoryReply}
use Rattle.sq_directory.specs.DirectoryHistory.{DirectoryHistory}
use Rattle.sq_directory.specs.Makers.{IsAnsweredByName}
use Rattle.sq_directory.proofs.MakerLaws.{answered_by_name}
use Rattle.sq_directory.proofs.directory.Directory.step.Goals as goal

pub invariant_of-self-2 : goal.invariant_of-self-2
invariant_of-self-2 c = directory_kept_more _ _ c.args.by.now c.args.now c.args.call.now c.add-step.result c.self.invariant c.add-step.ensures.rising (search rules)

pub returns-clause-made : goal.returns-clause-made
returns-clause-made c =
    let answered : c.add-step.result.reply ≡ c.kept.inside.answered = search rules in
    let old : DirectoryHistory = record { directory = c.self.inside.queues; last = c.self.inside.log.last; events = c.self.inside.log.events; spare = c.self.inside.log.spare } in
    let new : DirectoryHistory = record { directory = c.answer.new.self; last = c.add-step.new.self.last; events = c.add-step.new.self.events; spare = c.add-step.new.self.spare } in
    let made = answered_by_name old new c.args.by.now c.args.now c.args.call.now c.add-step.result c.self.invariant (search rules) in
    subst (λ (r : DirectoryReply). IsAnsweredByName c.add-step.new.self.events c.add-step.new.self.last c.args.call.now r) answered made
