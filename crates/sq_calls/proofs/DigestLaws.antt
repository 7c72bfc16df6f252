-- Digests are ASCII.
use Rattle.std.proofs.Common.{◌≡◌, ℕ, List, [], ◌∷◌, true, refl}
use Rattle.std.specs.Prelude.{nat_lt}
use Rattle.std.specs.List.{list_all}
use Rattle.std.specs.Str.{IsAscii}
use Rattle.std.proofs.lemmas.Bool.{and_parts, ltb-true}
use Rattle.std.proofs.lemmas.Str.Ascii.{IsAscii-nil, IsAscii-cons}
use Rattle.hex.specs.Hex.{encode_lower, lower_digits}
use Rattle.hex.proofs.HexLemmas.{IsAscii-encode_with}

all_ascii : (bs : List ℕ) → list_all (λ b. nat_lt b 128) bs ≡ true → IsAscii bs
all_ascii [] e = IsAscii-nil
all_ascii (b ∷ bs) e =
    let p = and_parts (nat_lt b 128) (list_all (λ b. nat_lt b 128) bs) e in
    IsAscii-cons b bs (ltb-true _ _ p.0) (all_ascii bs p.1)

-- bytes in hexadecimal digits, as a digest is written
pub digest_ascii : (bytes : List ℕ) → IsAscii (encode_lower bytes)
digest_ascii bytes = IsAscii-encode_with lower_digits bytes (all_ascii lower_digits refl)
