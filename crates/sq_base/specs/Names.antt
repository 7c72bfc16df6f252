-- Which texts are names of queues (SQS API Reference, CreateQueue, QueueName).
use Rattle.std.specs.Prelude.{ℕ, ◌&&◌, ◌||◌, ◌==◌, nat_le, List, length, Bool}
use Rattle.std.specs.List.{list_all}

-- an ASCII letter, digit, `-` or `_`
unfoldable pub is_name_byte : ℕ → Bool
is_name_byte b = (nat_le 97 b && nat_le b 122) || (nat_le 65 b && nat_le b 90) || (nat_le 48 b && nat_le b 57) || b == 45 || b == 95

-- 1 to 80 such bytes
abbrev pub is_name : List ℕ → Bool
is_name bytes = nat_le 1 (length bytes) && nat_le (length bytes) 80 && list_all is_name_byte bytes
