-- Bytes that are characters of their own.
use Rattle.std.proofs.Common.{◌≡◌, ℕ, zero, suc, true, List, [], ◌∷◌, refl, arith}
use Rattle.std.specs.Prelude.{nat_lt}
use Rattle.std.specs.List.{list_all}
use Rattle.std.specs.Str.{chars}
use Rattle.std.specs.Str.{IsAscii}
use Rattle.std.proofs.lemmas.Bool.{and_parts}
use Rattle.std.proofs.lemmas.Grind.{common_steps}
use Rattle.std.proofs.lemmas.Str.{chars-IsAscii}
use Rattle.sq_base.specs.Bodies.{allowed}
use Rattle.sq_base.specs.inside.Bodies.{is_short}

short_parts : (b : ℕ) → is_short b ≡ true → (allowed b ≡ true) × (nat_lt b 128 ≡ true)
unfolding is_short
short_parts b h = and_parts _ _ h

are_ascii : (bytes : List ℕ) → list_all is_short bytes ≡ true → IsAscii bytes
are_ascii [] h i = omega arith
are_ascii (b ∷ bytes) h zero = let own = (short_parts b (and_parts _ _ h).0).1 in grind (arith, common_steps, own)
are_ascii (b ∷ bytes) h (suc i) = are_ascii bytes (and_parts _ _ h).1 i

are_allowed : (bytes : List ℕ) → list_all is_short bytes ≡ true → list_all allowed bytes ≡ true
are_allowed [] h = refl
are_allowed (b ∷ bytes) h = rw ((short_parts b (and_parts _ _ h).0).0) (are_allowed bytes (and_parts _ _ h).1)

pub short_text : (text : List ℕ) → list_all is_short text ≡ true → list_all allowed (chars text) ≡ true
short_text text h = rw (chars-IsAscii text (are_ascii text h)) (are_allowed text h)
