use Rattle.std.proofs.Common.{refl}
use Rattle.sq_steps.proofs.DropLaws.{first_is_all, journal_less}
use Rattle.sq_steps.proofs.journal.Journal.drop_record.Goals as goal

pub invariant_of-self : goal.invariant_of-self
invariant_of-self c = rw (c.drop_record.ensures.spare, c.drop_record.ensures.dropped, first_is_all c.args.place _ c.self.invariant.rise) (journal_less _ c.args.place c.self.invariant)

pub returns-clause-dropped : goal.returns-clause-dropped
returns-clause-dropped c = rw (← c.self.view_is, c.drop_record.ensures.spare, c.drop_record.ensures.dropped, first_is_all c.args.place _ c.self.invariant.rise) refl
