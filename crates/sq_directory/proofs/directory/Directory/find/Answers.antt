use Rattle.sq_directory.proofs.MakerLaws.{if_found}
use Rattle.sq_directory.proofs.directory.Directory.find.Goals as goal

pub returns-clause-made : goal.returns-clause-made
returns-clause-made c = rw (← c.self.view_is) (if_found _ c.args.name.now _ c.self.invariant c.find.ensures)
