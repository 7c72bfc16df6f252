-- How long a body may be: it has a byte at least (SQS API Reference, SendMessage, MessageBody); the greatest length is own.
use Rattle.std.specs.Prelude.{ℕ, List, length, Bool, ◌||◌, ◌==◌, nat_lt}

-- the most bytes of a body, and of the bodies of a batch together (own)
abbrev pub body_limit : ℕ
body_limit = 1048576

-- no byte, or more than a body may have
abbrev pub is_too_small_or_large : List ℕ → Bool
is_too_small_or_large text = length text == 0 || nat_lt body_limit (length text)
