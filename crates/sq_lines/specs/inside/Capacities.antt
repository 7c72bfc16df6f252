-- The memory of a line that is read.
use Rattle.std.specs.Prelude.{ℕ, ◌*◌, leb, max, min, if◌then◌else◌}
use Rattle.sq_lines.specs.declared.lines.TheConstants.{LIMIT}

-- the capacity of a line that has so much and wants so much: what it has where that is enough, else twice that up to the limit, or what it wants where that is more
abbrev pub grown_capacity : ℕ → ℕ → ℕ
grown_capacity capacity wanted = if leb wanted capacity then capacity else max (min (2 * capacity) LIMIT) wanted
