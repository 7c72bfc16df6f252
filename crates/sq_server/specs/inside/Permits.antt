-- How many bytes of a line were read.
use Rattle.std.specs.Prelude.{◌≡◌, ℕ, ◌+◌, ◌-◌, ◌^◌, min, List, length, None, Option, Some}
use Rattle.memchr.specs.Find.{IsLastByte, is_byte}

-- so many bytes stand behind a line feed at such a place, or before which so many stood if there is none, up to the greatest u64
abbrev pub bytes_behind : ℕ → ℕ → Option ℕ → ℕ
bytes_behind begun more None = min (begun + more) (2 ^ 64 - 1)
bytes_behind begun more (Some feed) = more - (feed + 1)

-- so many bytes of a line were read, once these were read behind so many
abbrev pub IsBegun : ℕ → List ℕ → ℕ → Type 0
IsBegun begun bytes now = (feed : Option ℕ) × IsLastByte (is_byte 10) bytes feed × (now ≡ bytes_behind begun (length bytes) feed)
