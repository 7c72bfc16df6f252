use Rattle.std.proofs.Common.{arith, rules, ◌≡◌, None, Some, sym}
use Rattle.std.specs.Prelude.{find}
use Rattle.sq_model.specs.Ledgers.{has_number, items_without}
use Rattle.sq_laws.proofs.LedgerLists.{rise_without}
use Rattle.sq_ledger.proofs.ItemLaws.{none_goes, taken_out}
use Rattle.sq_ledger.proofs.items.TransitItems.take.Goals.{After-remove}
use Rattle.sq_ledger.proofs.items.TransitItems.take.Goals as goal

-- the item goes out, and the others stay
goes : (c : After-remove) → (c.remove.result ≡ find (has_number c.args.number) c.self.inside.items.items) × (c.remove.new.self.items ≡ items_without c.args.number c.self.inside.items.items)
goes c =
    let found : find (has_number c.args.number) c.args.self.now.items ≡ Some c.in_ok-get.field-0.now = search rules in
    taken_out c.args.number c.self.inside.items.items c.remove.new.self.items c.self.invariant.0 c.index-index.result c.remove.result c.in_ok-get.field-0.now c.self.invariant.1
    (rw (← c.self.view_is) at c.index-index.ensures) (rw (← c.self.view_is) at found) (λ d lt. c.remove.ensures.succeeds d (omega (arith, lt))) c.remove.ensures.items

pub returns-in_err-get-clause-items : goal.returns-in_err-get-clause-items
returns-in_err-get-clause-items c =
    let none : find (has_number c.args.number) c.args.self.now.items ≡ None = search rules in
    sym (none_goes c.args.number c.args.self.now.items none)

pub returns-clause-taken : goal.returns-clause-taken
returns-clause-taken c = rw (← c.self.view_is) (goes (goal.at.returns-clause-taken c).After-remove).0

pub returns-clause-items : goal.returns-clause-items
returns-clause-items c = rw (← c.self.view_is) (goes (goal.at.returns-clause-items c).After-remove).1

pub invariant_of-self : goal.invariant_of-self
invariant_of-self c =
    let left = (goes (goal.at.invariant_of-self c).After-remove).1 in
    (c.self.invariant.0, rw left (rise_without c.args.number 1 c.self.inside.items.items c.self.invariant.0 c.self.invariant.1))
