-- The queues of a message move task, as they are answered.
use Rattle.std.specs.Prelude.{Option}
use Rattle.sq_model.specs.declared.task.NamedQueue.{NamedQueue}
use Rattle.sq_model.specs.Directories.{MoveEnds}

-- the source, and the destination where that is given
abbrev pub as_ends : NamedQueue × Option NamedQueue → MoveEnds
as_ends queues = record { source = queues.0; destination = queues.1 }
