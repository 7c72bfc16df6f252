use Rattle.std.proofs.Common.{rules, refl, Some}
use Rattle.std.specs.Prelude.{option_map}
use Rattle.sq_history.specs.Halves.{HasItem}
use Rattle.sq_history.proofs.shared.copies_of.Goals as goal

pub returns-in_err-calls-clause-refused : goal.returns-in_err-calls-clause-refused
returns-in_err-calls-clause-refused c =
    let there : HasItem (option_map (λ i. i.now) c.args.item) = (c.in-Some.item.now, rw c.in-Some.is refl) in
    search rules

pub returns-in_err-copy-clause-refused : goal.returns-in_err-copy-clause-refused
returns-in_err-copy-clause-refused c =
    let there : HasItem (option_map (λ i. i.now) c.args.item) = (c.in-Some.item.now, rw c.in-Some.is refl) in
    search rules
