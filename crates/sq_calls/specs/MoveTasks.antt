-- What a message move task is between (SQS API Reference, StartMessageMoveTask).
use Rattle.std.specs.Prelude.{ℕ, List, Bool, false, Option, None, Some}
use Rattle.std.specs.Str.{bytes_eq}

-- the queue of this name is the destination
abbrev pub is_destination : List ℕ → Option (List ℕ) → Bool
is_destination source None = false
is_destination source (Some name) = bytes_eq source name
