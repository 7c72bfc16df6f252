use Rattle.std.proofs.Common.{rules, ◌≡◌, Bor, Some, None, true, false, refl}
use Rattle.std.specs.Prelude.{find, option_map}
use Rattle.sq_model.specs.declared.item.Item.{Item}
use Rattle.sq_model.specs.Ledgers.{has_number}
use Rattle.sq_ledger.proofs.ItemLaws.{found_by, kept_if}
use Rattle.sq_ledger.proofs.items.TransitItems.get.Goals.{After-get}
use Rattle.sq_ledger.proofs.items.TransitItems.get.Goals as goal

-- what is read is the item of the number, where it has the number
read : (c : After-get) → find (has_number c.args.number) c.self.inside.items.items ≡ kept_if (has_number c.args.number) (option_map (λ (x : Bor Item). x.now) c.get.result)
read c =
    found_by (λ (x : Bor Item). x.now) c.args.number c.self.inside.items.items c.self.invariant.0 c.index.result c.get.result c.self.invariant.1 (rw (← c.self.view_is) at c.index.ensures) c.get.ensures.item

pub returns-in_err-item : goal.returns-in_err-item
returns-in_err-item c =
    let none : c.get.result ≡ None = search rules in
    let out : c.from_residual.result ≡ None = search rules in
    rw (← c.self.view_is, read (goal.at.returns-in_err-item c).After-get, none, out) refl

pub returns-then-get-number : goal.returns-then-get-number
returns-then-get-number c =
    let there : c.get.result ≡ Some c.in_ok-item.item = search rules in
    let passes : has_number c.args.number c.in_ok-item.item.now ≡ true = search rules in
    rw (← c.self.view_is, read (goal.at.returns-then-get-number c).After-get, there, passes) refl

pub returns-else-get-number : goal.returns-else-get-number
returns-else-get-number c =
    let there : c.get.result ≡ Some c.in_ok-item.item = search rules in
    let fails : has_number c.args.number c.in_ok-item.item.now ≡ false = search rules in
    rw (← c.self.view_is, read (goal.at.returns-else-get-number c).After-get, there, fails) refl
