-- Which texts are bodies (SQS API Reference, SendMessage, MessageBody).
use Rattle.std.specs.Prelude.{ℕ, ◌&&◌, ◌||◌, ◌==◌, nat_le, nat_lt, List, length, Bool, Result, Ok, Err, if◌then◌else◌}
use Rattle.std.specs.List.{list_all}
use Rattle.std.specs.Str.{chars}
use Rattle.sq_base.specs.declared.refusal.Refusal.{Refusal}
use Rattle.sq_base.specs.declared.refusal.Refusal.TheVariants.{InvalidParameterValue, InvalidMessageContents}

-- the characters of a body: U+0009, U+000A, U+000D, U+0020 to U+D7FF, U+E000 to U+FFFD and U+10000 to U+10FFFF
unfoldable pub allowed : ℕ → Bool
allowed c = c == 9 || c == 10 || c == 13 || (nat_le 32 c && nat_le c 55295) || (nat_le 57344 c && nat_le c 65533) || (nat_le 65536 c && nat_le c 1114111)

-- at least one byte and at most the limit, and each character allowed
abbrev pub body_check : List ℕ → ℕ → Result (Unit {0}) Refusal
body_check text limit =
    if length text == 0 || nat_lt limit (length text) then Err InvalidParameterValue
    else if list_all allowed (chars text) then Ok tt
    else Err InvalidMessageContents
