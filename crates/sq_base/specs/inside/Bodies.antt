-- Which texts are bodies (SQS API Reference, SendMessage, MessageBody).
use Rattle.std.specs.Prelude.{ℕ, ◌&&◌, nat_lt, Bool}
use Rattle.sq_base.specs.Bodies.{allowed}

-- a byte that is one of them, as a character of its own
unfoldable pub is_short : ℕ → Bool
is_short b = allowed b && nat_lt b 128
