-- What the clients of a race are given.
use Rattle.std.specs.Prelude.{List, [], ◌∷◌, Option, Some, None}
use Rattle.sq_base.specs.declared.handle.Handle.{Handle}
use Rattle.sq_base.specs.declared.ids.HomeId.{HomeId}
use Rattle.sq_base.specs.declared.row.Row.{Row}
use Rattle.sq_calls.specs.declared.calls.Answer.{Answer}
use Rattle.sq_calls.specs.declared.calls.Answer.TheVariants.{Received}
use Rattle.sq_replies.specs.Replies.{handle_of}

-- the handle of the first of these messages of a home
abbrev pub handle_of_first : HomeId → List Row → Option Handle
handle_of_first home [] = None
handle_of_first home (row ∷ rows) = Some (handle_of home row)

-- the handle of the first message that an answer gives
abbrev pub first_given : Answer → Option Handle
first_given (Received got) = handle_of_first got.home got.rows
first_given answer = None
