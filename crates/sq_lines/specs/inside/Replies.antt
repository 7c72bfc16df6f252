-- Replies that wait, and what goes out of them.
use Rattle.std.specs.Prelude.{ℕ, suc, ◌+◌, ◌-◌, nat_le, if◌then◌else◌, List, [], ◌∷◌, length}

-- how many texts of these lengths, each with a line feed, are whole in so many bytes
abbrev pub whole_in : List ℕ → ℕ → ℕ
whole_in [] n = 0
whole_in (length ∷ lengths) n = if nat_le n length then 0 else suc (whole_in lengths (n - (length + 1)))
