-- What a line asks.
use Rattle.std.specs.Prelude.{ℕ, List, Bool, false, if◌then◌else◌, Option, Some, None, Result, Ok, Err, codes, is_some, ◌||◌}
use Rattle.std.specs.Str.{bytes_eq}
use Rattle.serde_json.specs.Data.{Data}
use Rattle.serde_json.specs.Find.{as_object}
use Rattle.sq_base.specs.declared.refusal.Refusal.{Refusal}
use Rattle.sq_base.specs.declared.refusal.Refusal.TheVariants.{InvalidRequest}
use Rattle.sq_policy.specs.Reading.{◌>>=◌}
use Rattle.sq_calls.specs.declared.turns.Turn.{Turn}
use Rattle.sq_requests.specs.Members.{text_at}
use Rattle.sq_requests.specs.Queues.{create_asks, set_asks}
use Rattle.sq_requests.specs.Requests.{clock_at, actor_at, asked_call, batch_kind, turn_of}

-- memory is asked for the text of a policy, for a body, and for the entries of a batch
unfoldable pub call_asks : List ℕ → Data → Result Bool Refusal
call_asks action d =
    if bytes_eq action (codes "CreateQueue") then create_asks d
    else if bytes_eq action (codes "SetQueueAttributes") then set_asks d
    else asked_call action d >>= λ call. Ok (bytes_eq action (codes "SendMessage") || is_some (batch_kind action))

-- no memory is asked for a turn
abbrev pub asks_or : Option (Result Turn Refusal) → Result Bool Refusal → Result Bool Refusal
asks_or (Some turn) asks = turn >>= λ turn. Ok false
asks_or None asks = asks

unfoldable pub call_or_turn_asks : List ℕ → Data → Result Bool Refusal
call_or_turn_asks action d = asks_or (turn_of action d) (call_asks action d)

abbrev pub request_asks_in : Data → Result Bool Refusal
request_asks_in d = do
  action ← text_at (codes "Action") d
  clock ← clock_at d
  actor ← actor_at d
  call_or_turn_asks action d

unfoldable pub request_asks : Data → Result Bool Refusal
request_asks d = if is_some (as_object d) then request_asks_in d else Err InvalidRequest
