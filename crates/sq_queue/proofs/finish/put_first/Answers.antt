use Rattle.std.proofs.Common.{◌≡◌, None}
use Rattle.std.specs.Prelude.{position}
use Rattle.sq_steps.specs.Journals.{is_of_actor}
use Rattle.sq_steps.proofs.DistinctLaws.{distinct_more}
use Rattle.sq_queue.proofs.finish.put_first.Goals as goal

pub returns-in-None-clause-distinct : goal.returns-in-None-clause-distinct
returns-in-None-clause-distinct c =
    let lost : position (is_of_actor c.args.journal.actor) c.args.journals.now.items ≡ None = cc in
    rw c.push_reserved.ensures.items (distinct_more c.args.journal c.args.journals.now.items c.requires.distinct lost)
