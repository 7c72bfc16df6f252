-- What contracts see of a list that grows in blocks.
use Rattle.std.specs.Prelude.{ℕ, ◌≡◌, ◌+◌, ◌-◌, ◌^◌, List, ◌++◌, min, ◌&&◌, nat_le, nat_lt, length, if◌then◌else◌}
use Rattle.std.specs.Global.{Vec}
use Rattle.std.specs.List.{flat_map}

-- its items, and for how many more there is memory
pub record BlocksValue (T : Type 0) : Type 0 where
  pub items : List T
  pub reserved : ℕ

-- a block is full
abbrev pub IsWhole : {T : Type 0} → Vec T → Type 0
IsWhole block = length block.items ≡ 4096

-- the items of whole blocks, and then those of the last one
abbrev pub joined : {T : Type 0} → List (Vec T) → List T → List T
joined whole last = flat_map (λ block. block.items) whole ++ last

-- Memory for items more, of a last block with so many items and spare memory for so many, of so many whole blocks with spare memory for so many, and of the next one with its room: that
-- block's, and the next one where it can be begun once that one is full.
abbrev pub spare_in : ℕ → ℕ → ℕ → ℕ → ℕ → ℕ
spare_in len capacity blocks most next =
    (min capacity 4096 - len) + (if nat_le 4096 capacity && nat_lt blocks (min most (2 ^ 50)) && nat_le 4096 next then 4096 else 0)
