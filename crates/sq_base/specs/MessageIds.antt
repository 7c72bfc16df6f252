-- The id of a message as a number of 128 bits: a UUID of version 8 (RFC 9562, section 5.8).
use Rattle.std.specs.Prelude.{ℕ, ◌+◌, ◌*◌, ◌<◌, ◌≤◌}
use Rattle.sq_base.specs.declared.message_id.MessageId.{MessageId}

-- from the first bit: queue in 48 bits, version 8 in 4, home in 12, variant 2 in 2, serial in 62
abbrev pub id_number : MessageId → ℕ
id_number m = (m.queue * 65536 + 32768 + m.home) * 18446744073709551616 + (9223372036854775808 + m.serial)

-- what may stand in an id
pub record IsMessageId (m : MessageId) : Type 0 where
  pub queue : (1 ≤ m.queue) × (m.queue < 281474976710656)
  pub home : m.home < 16
  pub serial : m.serial < 4611686018427387904
