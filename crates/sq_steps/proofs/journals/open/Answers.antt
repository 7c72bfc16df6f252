use Rattle.std.proofs.Common.{rules, ◌≡◌, ◌∷◌, [], ◌+◌, length, Some, None, arith, sym}
use Rattle.std.specs.Prelude.{position}
use Rattle.std.proofs.lemmas.List.{length-append}
use Rattle.sq_steps.specs.Journals.{is_of_actor}
use Rattle.sq_steps.proofs.JournalListLaws.{found_opened, lost_opened}
use Rattle.sq_steps.proofs.journals.open.Goals as goal

pub returns-in-Some-clause-opened : goal.returns-in-Some-clause-opened
returns-in-Some-clause-opened c =
    let pos : position (is_of_actor c.args.actor) c.args.journals.now.items ≡ Some c.in-Some.at = search rules in
    sym (found_opened c.args.actor c.args.journals.now.items c.in-Some.at pos).1

pub returns-clause-index : goal.returns-clause-index
returns-clause-index c =
    let pos : position (is_of_actor c.args.actor) c.args.journals.now.items ≡ None = search rules in
    let lost = lost_opened c.args.actor c.args.journals.now.items pos in
    let more : length c.push_within_capacity.new.items.items ≡ length c.args.journals.now.items + 1 = rw (c.push_within_capacity.ensures, c.try_reserve.ensures.items) (length-append c.args.journals.now.items (c.new.result ∷ [])) in
    omega (arith, c.len.ensures, more, lost.0)

pub returns-clause-opened : goal.returns-clause-opened
returns-clause-opened c =
    let pos : position (is_of_actor c.args.actor) c.args.journals.now.items ≡ None = search rules in
    rw (c.push_within_capacity.ensures, c.try_reserve.ensures.items, c.new.ensures) (sym (lost_opened c.args.actor c.args.journals.now.items pos).1)
