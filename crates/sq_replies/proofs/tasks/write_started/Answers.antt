use Rattle.std.proofs.Common.{◌≡◌, ◌∙◌}
use Rattle.sq_calls.specs.TaskHandles.{task_handle_text}
use Rattle.sq_replies.proofs.AsciiLaws.{task_handle_ascii}
use Rattle.sq_replies.proofs.tasks.write_started.Goals as goal

pub ascii_text-requires : goal.ascii_text-requires
ascii_text-requires c = rw c.task_handle-handle.ensures (task_handle_ascii _)

pub returns : goal.returns
returns c =
    let handle : c.ascii_text.result.now ≡ task_handle_text c.args.task = c.ascii_text.ensures ∙ c.task_handle-handle.ensures in
    rw (← handle) c.write_only_text.ensures
