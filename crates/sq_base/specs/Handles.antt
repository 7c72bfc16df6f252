-- The texts of a receipt handle. Own.
use Rattle.std.specs.Prelude.{ℕ, ◌≡◌, ◌⊎◌, ◌<◌, ◌≤◌, ◌&&◌, List, [], ◌∷◌, ◌++◌, length, nat_le, nat_lt, ◌==◌, if◌then◌else◌, Option, Some, None}
use Rattle.sq_base.specs.Fields.{field, ◌>>=◌, field_at, part_at}
use Rattle.sq_base.specs.declared.handle.Handle.{Handle}

-- queue, home, slot, serial and receive number in hexadecimal digits, with a `-` between: the text of version 1
unfoldable pub numbers_text : Handle → List ℕ
numbers_text h = field 12 h.queue ++ (45 ∷ (field 3 h.home ++ (45 ∷ (field 8 h.slot ++ (45 ∷ (field 16 h.serial ++ (45 ∷ field 8 h.receive)))))))

-- the text of version 2, which is written: a `2-` before that of version 1
unfoldable pub handle_text : Handle → List ℕ
handle_text h = 50 ∷ 45 ∷ numbers_text h

-- a text of a handle: there is one of each version
abbrev pub IsHandleText : Handle → List ℕ → Type 0
IsHandleText h bytes = (bytes ≡ handle_text h) ⊎ (bytes ≡ numbers_text h)

-- what may stand in a handle
pub record Fits (h : Handle) : Type 0 where
  pub queue : (1 ≤ h.queue) × (h.queue < 281474976710656)
  pub home : h.home < 16
  pub slot : h.slot < 4294967296
  pub serial : h.serial < 4611686018427387904
  pub receive : (1 ≤ h.receive) × (h.receive ≤ 4294967295)

-- a handle, where its numbers may stand in one
abbrev pub in_range : Handle → Option Handle
in_range h =
    if nat_le 1 h.queue && nat_lt h.queue 281474976710656 then
    if nat_lt h.home 16 then
    if nat_lt h.serial 4611686018427387904 then
    if nat_le 1 h.receive && nat_le h.receive 4294967295 then Some h else None
    else None
    else None
    else None

-- the handle whose numbers a text spells
unfoldable pub numbers_at : List ℕ → Option Handle
numbers_at bytes = do
  queue ← part_at 12 bytes
  home ← part_at 3 queue.1
  slot ← part_at 8 home.1
  serial ← part_at 16 slot.1
  receive ← field_at 8 serial.1
  if length receive.1 == 0 then in_range (record { queue = queue.0; home = home.0; slot = slot.0; serial = serial.0; receive = receive.0 }) else None

-- what follows the `2-` of version 2; a text that does not begin so is of version 1
abbrev pub after_version : List ℕ → List ℕ
after_version [] = []
after_version (b ∷ []) = b ∷ []
after_version (b ∷ c ∷ rest) = if b == 50 && c == 45 then rest else b ∷ c ∷ rest

-- the handle that a text spells, in one of the two versions
unfoldable pub handle_at : List ℕ → Option Handle
handle_at bytes = numbers_at (after_version bytes)
