-- The text of a task's handle. Own.
use Rattle.std.specs.Prelude.{ℕ, List, ◌++◌, ◌==◌, codes, take, drop, length, nat_le, nat_lt, if◌then◌else◌, Option, Some, None}
use Rattle.std.specs.Str.{bytes_eq}
use Rattle.sq_base.specs.Fields.{field, ◌>>=◌, field_at}

-- a fixed text, and the task's number in 16 hexadecimal digits
unfoldable pub task_handle_text : ℕ → List ℕ
task_handle_text task = codes "task-" ++ field 16 task

-- what follows the fixed text
unfoldable pub behind_front : List ℕ → Option (List ℕ)
behind_front bytes =
    if nat_lt (length bytes) 5 then None
    else if bytes_eq (take 5 bytes) (codes "task-") then Some (drop 5 bytes) else None

-- a number that a task may have
abbrev pub task_in_range : ℕ → Option ℕ
task_in_range number = if nat_le 1 number then Some number else None

-- the task whose handle a text is
unfoldable pub task_handle_at : List ℕ → Option ℕ
task_handle_at bytes = do
  digits ← behind_front bytes
  number ← field_at 16 digits
  if length number.1 == 0 then task_in_range number.0 else None
