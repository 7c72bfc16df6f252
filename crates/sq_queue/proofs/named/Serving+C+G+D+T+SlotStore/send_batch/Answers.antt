use Rattle.sq_queue.specs.Around.{service_counts}
use Rattle.sq_queue.proofs.AnswerLaws.{batch_tells, leaves_as, performs_as}
use Rattle.sq_queue.proofs.named.Serving+C+G+D+T+SlotStore.send_batch.Goals as goal

pub entries-requires : goal.entries-requires
entries-requires g c = batch_tells (service_counts c.args.self.now) c.args.batch c.call.ensures.sections.trace c.call.result c.call.ensures.sections.fits

pub returns-clause-sections : goal.returns-clause-sections
returns-clause-sections g c = performs_as _ _ c.entries.ensures c.call.ensures.sections

pub returns-clause-leaves_records : goal.returns-clause-leaves_records
returns-clause-leaves_records g c = leaves_as _ _ c.entries.ensures c.call.ensures.leaves_records
