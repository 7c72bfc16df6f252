use Rattle.std.proofs.Common.{◌≡◌, ◌∙◌, ap, sym, refl, true, false}
use Rattle.std.specs.Prelude.{nat_lt}
use Rattle.std.specs.Str.Parse.{digits_value}
use Rattle.std.proofs.lemmas.Bool.{lt-ltb}
use Rattle.sq_policy.specs.Amounts.{is_digits, amount_of_text}
use Rattle.sq_policy.proofs.DigitLaws.{numeral, beyond}
use Rattle.sq_policy.proofs.amount.amount_of_text.Goals as goal

pub returns-in-Ok : goal.returns-in-Ok
unfolding amount_of_text
returns-in-Ok c =
    let text = c.args.text.now in
    let digits : is_digits text ≡ true = ap is_digits (sym c.as_bytes.ensures.value) ∙ sym c.is_digits.ensures ∙ c.if-not-is_digits.false in
    let plain = (numeral text digits).1 in
    let parsed = c.in-Ok.ensures.value.0 in
    let below : nat_lt (digits_value 10 text) 18446744073709551616 ≡ true = lt-ltb _ _ (rw plain at parsed.0.1) in
    rw (digits, below, parsed.1, plain) refl

pub returns-in-Err : goal.returns-in-Err
unfolding amount_of_text
returns-in-Err c =
    let text = c.args.text.now in
    let digits : is_digits text ≡ true = ap is_digits (sym c.as_bytes.ensures.value) ∙ sym c.is_digits.ensures ∙ c.if-not-is_digits.false in
    let above : nat_lt (digits_value 10 text) 18446744073709551616 ≡ false = beyond text digits c.in-Err.ensures.value.0 in
    rw (digits, above) refl
