use Rattle.std.proofs.Common.{◌∙◌, refl}
use Rattle.sq_model.specs.Directories.{DirectoryStep}
use Rattle.sq_directory.proofs.ListingLaws.{names_listed}
use Rattle.sq_directory.proofs.queues.Queues.list.Goals as goal

pub returns-clause-prepared : goal.returns-clause-prepared
unfolding DirectoryStep
returns-clause-prepared c m = rw (← c.self.view_is, c.in_ok-replies.ensures.replies) (c.in_ok-names.ensures.names ∙ names_listed c.args.prefix.now c.self.inside.queues.queues, refl)
