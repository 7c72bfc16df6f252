use Rattle.std.proofs.Common.{◌≡◌, refl, true, rules, tests, length}
use Rattle.std.specs.Prelude.{nat_le}
use Rattle.std.specs.Char.{is_ascii_digit}
use Rattle.std.specs.List.{list_all}
use Rattle.std.proofs.lemmas.Bool.{le-leb}
use Rattle.std.proofs.lemmas.Iterator.{YieldsList-from_slice}
use Rattle.std.proofs.lemmas.Iterator.Search.{all_from_yields_List}
use Rattle.sq_policy.specs.Amounts.{is_digits}
use Rattle.sq_policy.proofs.amount.is_digits.Goals as goal

pub returns-then-text-le20 : goal.returns-then-text-le20
unfolding is_digits
returns-then-text-le20 c =
    let least : nat_le 1 (length c.args.text.now) ≡ true = le-leb _ _ c.if-text-le20.true.0 in
    let most : nat_le (length c.args.text.now) 20 ≡ true = le-leb _ _ c.if-text-le20.true.1 in
    let all : c.all.result ≡ list_all is_ascii_digit c.args.text.now = all_from_yields_List is_ascii_digit _ _ c.all.result c.all.ensures.ran (YieldsList-from_slice c.args.text.now cc) (λ x b q k. search (rules, tests)) in
    rw (least, most, all) refl
