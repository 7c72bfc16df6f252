-- The id of a message as a number of 128 bits: a UUID of version 8 (RFC 9562, section 5.8).
use Rattle.std.specs.Prelude.{ℕ, ◌/◌, ◌%◌, ◌&&◌, ◌||◌, ◌==◌, not, nat_le, nat_lt, if◌then◌else◌, Option, Some, None}
use Rattle.sq_base.specs.declared.message_id.MessageId.{MessageId}

-- the id of a number, by its first and its last 64 bits
abbrev pub id_of : ℕ → ℕ → Option MessageId
id_of high low =
    if not (high / 4096 % 16 == 8) || not (low / 4611686018427387904 == 2) then None
    else if nat_le 1 (high / 65536) && nat_lt (high / 65536) 281474976710656 then
    if nat_lt (high % 4096) 16 then
    if nat_lt (low % 4611686018427387904) 4611686018427387904 then Some (record { queue = high / 65536; home = high % 4096; serial = low % 4611686018427387904 })
    else None
    else None
    else None
