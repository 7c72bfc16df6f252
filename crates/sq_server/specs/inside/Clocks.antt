-- What the clock of a server tells.
use Rattle.std.specs.Prelude.{ℕ, ◌^◌, ltb, if◌then◌else◌}

-- a number that 64 bits hold, and 0 for a greater one
abbrev pub in_64_bits : ℕ → ℕ
in_64_bits n = if ltb n (2 ^ 64) then n else 0
