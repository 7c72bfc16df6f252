-- Texts of digits.
use Rattle.std.proofs.Common.{◌≡◌, ℕ, ◌<◌, List, [], ◌∷◌, length, true, false, Bool, refl, arith}
use Rattle.std.specs.Prelude.{◌&&◌, ◌==◌, nat_le, nat_lt}
use Rattle.std.specs.Char.{digit_value, is_ascii_digit}
use Rattle.std.specs.List.{list_all}
use Rattle.std.specs.Str.Parse.{AllDigits, IsNumeral, digits_value, without_leading_plus}
use Rattle.std.proofs.lemmas.Bool.{and_parts, leb-true, ltb-true}
use Rattle.std.proofs.lemmas.Grind.{common_steps}
use Rattle.std.proofs.lemmas.Str.{digit_value_digit}
use Rattle.sq_policy.specs.Amounts.{is_digits}

digit_below : (b : ℕ) → is_ascii_digit b ≡ true → digit_value b < 10
digit_below b e =
    let p = and_parts (nat_le 48 b) (nat_le b 57) e in
    let value = digit_value_digit b (leb-true _ _ p.0, leb-true _ _ p.1) in
    omega (arith, value, leb-true _ _ p.1)

all_digits : (bs : List ℕ) → list_all is_ascii_digit bs ≡ true → AllDigits 10 bs
all_digits [] e = tt
all_digits (b ∷ bs) e =
    let p = and_parts (is_ascii_digit b) (list_all is_ascii_digit bs) e in
    (digit_below b p.0, all_digits bs p.1)

-- a digit is no `+`
plain : (bs : List ℕ) → list_all is_ascii_digit bs ≡ true → without_leading_plus bs ≡ bs
plain [] e = refl
plain (b ∷ bs) e =
    let p = and_parts (is_ascii_digit b) (list_all is_ascii_digit bs) e in
    let least = leb-true _ _ (and_parts (nat_le 48 b) (nat_le b 57) p.0).0 in
    let other : (b == 43) ≡ false = grind (arith, common_steps, least) in
    rw other refl

pub numeral : (bs : List ℕ) → is_digits bs ≡ true → IsNumeral 10 bs × (without_leading_plus bs ≡ bs)
unfolding is_digits
numeral bs e =
    let p = and_parts (nat_le 1 (length bs) && nat_le (length bs) 20) (list_all is_ascii_digit bs) e in
    let q = and_parts (nat_le 1 (length bs)) (nat_le (length bs) 20) p.0 in
    ((leb-true _ _ q.0, all_digits bs p.1), plain bs p.1)

not_true : (b : Bool) → (b ≡ true → ⊥) → b ≡ false
not_true true never = absurd (never refl)
not_true false never = refl

-- a text of digits that is not parsed is of a number beyond 64 bits
pub beyond : (bs : List ℕ) → is_digits bs ≡ true → (IsNumeral 10 (without_leading_plus bs) × (digits_value 10 (without_leading_plus bs) < 18446744073709551616) → ⊥) → nat_lt (digits_value 10 bs) 18446744073709551616 ≡ false
beyond bs e never = not_true _ (λ h. let n = numeral bs e in never (rw n.1 (n.0, ltb-true _ _ h)))
