use Rattle.sq_replies.proofs.AsciiLaws.{task_handle_ascii}
use Rattle.sq_replies.proofs.tasks.write_handle_if.Goals as goal

pub ascii_text-requires : goal.ascii_text-requires
ascii_text-requires c = rw c.task_handle-handle.ensures (task_handle_ascii _)
