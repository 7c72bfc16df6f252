use Rattle.std.proofs.Common.{rules}
use Rattle.sq_directory.specs.Makers.{IsMadeBy}
use Rattle.sq_directory.proofs.MakerLaws.{made_later}
use Rattle.sq_steps.proofs.JournalLaws.{later_second}
use Rattle.sq_steps.proofs.reads.resolve.Goals as goal

pub returns-clause-made : goal.returns-clause-made
returns-clause-made c =
    let made : IsMadeBy c.args.directory.now.events c.args.directory.now.last c.args.name.now c.in-Some.queue = search rules in
    rw (c.see.ensures, c.last.ensures) (made_later c.args.directory.now.events c.args.directory.now.last _ c.args.name.now c.in-Some.queue made (later_second c.args.journal.now.seen c.args.directory.now.last))
