-- Whole numbers: members of JSON, or texts of digits.
use Rattle.std.specs.Prelude.{ℕ, List, Bool, ◌&&◌, nat_le, nat_lt, if◌then◌else◌, Option, Some, None, Result, Ok, Err, ok_or, length}
use Rattle.std.specs.Char.{is_ascii_digit}
use Rattle.std.specs.List.{list_all}
use Rattle.std.specs.Str.Parse.{digits_value}
use Rattle.serde_json.specs.Data.{Data, Num, unsigned, negative, float}
use Rattle.serde_json.specs.Find.{as_str, as_number}
use Rattle.sq_base.specs.declared.refusal.Refusal.{Refusal}
use Rattle.sq_base.specs.declared.refusal.Refusal.TheVariants.{InvalidRequest}
use Rattle.sq_policy.specs.Reading.{◌>>=◌}
use Rattle.sq_policy.specs.declared.amount.Amount.{Amount}
use Rattle.sq_policy.specs.declared.amount.Amount.TheVariants.{Natural, Other}

-- a whole number is one of 64 bits, below 0 or not; any other number is of a wrong type
abbrev pub amount_of : Option Num → Result Amount Refusal
amount_of None = Err InvalidRequest
amount_of (Some (unsigned n)) = Ok (Natural n)
amount_of (Some (negative z)) = Ok Other
amount_of (Some (float x)) = Err InvalidRequest

-- one that may be there
abbrev pub some_amount : Result Amount Refusal → Result (Option Amount) Refusal
some_amount read = read >>= λ amount. Ok (Some amount)

-- a number from the least to the greatest
abbrev pub within : ℕ → ℕ → ℕ → Option ℕ
within least greatest n = if nat_le least n && nat_le n greatest then Some n else None

abbrev pub amount_in_range : ℕ → ℕ → Refusal → Amount → Result ℕ Refusal
amount_in_range least greatest refusal (Natural n) = ok_or (within least greatest n) refusal
amount_in_range least greatest refusal Other = Err refusal

abbrev pub in_range_if : ℕ → ℕ → Refusal → Option Amount → Result (Option ℕ) Refusal
in_range_if least greatest refusal None = Ok None
in_range_if least greatest refusal (Some amount) = amount_in_range least greatest refusal amount >>= λ n. Ok (Some n)

-- 1 to 20 ASCII digits
unfoldable pub is_digits : List ℕ → Bool
is_digits text = nat_le 1 (length text) && nat_le (length text) 20 && list_all is_ascii_digit text

-- the number of a text of digits; one beyond 64 bits is in no range
unfoldable pub amount_of_text : List ℕ → Amount
amount_of_text text =
    if is_digits text && nat_lt (digits_value 10 text) 18446744073709551616 then Natural (digits_value 10 text) else Other

-- a numeric attribute is a text or a whole number
abbrev pub as_attribute : Option (List ℕ) → Option Num → Result Amount Refusal
as_attribute None number = amount_of number
as_attribute (Some text) number = Ok (amount_of_text text)

unfoldable pub attribute_of : Data → Result Amount Refusal
attribute_of d = as_attribute (as_str d) (as_number d)
