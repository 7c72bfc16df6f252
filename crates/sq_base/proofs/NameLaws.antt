-- Names are ASCII, and how they are kept.
use Rattle.std.proofs.Common.{◌≡◌, ℕ, ◌-◌, ◌<◌, ◌≤◌, true, List, [], ◌∷◌, ◌++◌, length, take, replicate, refl, sym, ap, ◌∙◌, arith, zero, suc}
use Rattle.std.specs.Prelude.{◌≢◌, nat_le, ◌&&◌}
use Rattle.std.specs.List.{list_all}
use Rattle.std.specs.Str.{IsAscii}
use Rattle.std.proofs.lemmas.Bool.Decides.{nat_tests}
use Rattle.std.proofs.lemmas.Bool.{le-leb, and_parts, and_from}
use Rattle.std.proofs.lemmas.List.{take_at, length-append, length-replicate}
use Rattle.sq_base.specs.Names.{is_name, is_name_byte}

pub name_byte_ascii : (b : ℕ) → is_name_byte b ≡ true → b < 128
unfolding is_name_byte
name_byte_ascii b e = grind (arith, nat_tests)

all_ascii : (bs : List ℕ) → list_all is_name_byte bs ≡ true → IsAscii bs
all_ascii [] e i = omega arith
all_ascii (b ∷ bs) e zero = name_byte_ascii b (and_parts (is_name_byte b) (list_all is_name_byte bs) e).0
all_ascii (b ∷ bs) e (suc i) = all_ascii bs (and_parts (is_name_byte b) (list_all is_name_byte bs) e).1 i

-- a name is ASCII
pub name_ascii : (bs : List ℕ) → is_name bs ≡ true → IsAscii bs
name_ascii bs e = all_ascii bs (and_parts (nat_le 1 (length bs) && nat_le (length bs) 80) (list_all is_name_byte bs) e).1

-- a name with zeros after it, as it is kept
pub padded_name : (text bytes : List ℕ) → length text ≢ 0 → length text ≤ 80 → list_all is_name_byte text ≡ true → bytes ≡ text ++ replicate (80 - length text) 0
    → (length text ≤ length bytes) × (length bytes ≡ 80) × (bytes ≡ take (length text) bytes ++ replicate (80 - length text) 0) × (is_name (take (length text) bytes) ≡ true)
padded_name text bytes some most all is =
    let front : take (length text) bytes ≡ text = ap (take (length text)) is ∙ take_at text (replicate (80 - length text) 0) (length text) refl in
    let count : length bytes ≡ 80 = ap (λ (x : List ℕ). length x) is ∙ omega (arith, length-append text (replicate (80 - length text) 0), length-replicate {A = ℕ} (80 - length text) 0) in
    let least : nat_le 1 (length text) ≡ true = le-leb _ _ (omega (arith, some)) in
    let name : is_name text ≡ true = and_from _ _ (and_from _ _ least (le-leb _ _ most)) all in
    (omega (arith, count), count, is ∙ ap (λ (x : List ℕ). x ++ replicate (80 - length text) 0) (sym front), ap is_name front ∙ name)
