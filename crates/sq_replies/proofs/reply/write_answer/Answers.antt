use Rattle.sq_replies.proofs.reply.write_answer.Goals as goal

pub returns-in-Queues : goal.returns-in-Queues
returns-in-Queues c = rw (c.in-Queues.is, ← c.as_slice.ensures) c.write_queues.ensures

pub returns-in-Sources : goal.returns-in-Sources
returns-in-Sources c = rw (c.in-Sources.is, ← c.as_slice-in-Sources.ensures) c.write_queues-in-Sources.ensures
