use Rattle.std.proofs.Common.{rules, ◌≡◌, ◌∙◌, MutBor, None, Some, refl, sym, true, false, map}
use Rattle.std.specs.Prelude.{find, slice_get}
use Rattle.sq_model.specs.declared.item.Item.{Item}
use Rattle.sq_model.specs.Ledgers.{has_number, turned_if}
use Rattle.sq_laws.proofs.LedgerLists.{rise_turned}
use Rattle.sq_ledger.proofs.ItemLaws.{found_by, none_turns, read_is, set_same, turned_at}
use Rattle.sq_ledger.proofs.items.TransitItems.turn.Goals as goal
use Rattle.sq_ledger.proofs.items.TransitItems.turn.Goals.{in-Some+then-get-number, in-Some+else-get-number, in_default}

pub returns-clause-items : goal.returns-clause-items
returns-clause-items c =
    let number = c.args.number in
    let items = c.self.inside.items.items in
    let index = rw (← c.self.view_is) at c.index-index.ensures in
    let read = read_is (λ (x : MutBor Item). x.now) items c.index-index.result c.get_mut.result c.get_mut.ensures.item in
    let found = found_by (λ (x : MutBor Item). x.now) number items c.self.invariant.0 c.index-index.result c.get_mut.result c.self.invariant.1 index c.get_mut.ensures.item in
    elim c.match-get_mut.branch [
      | in-Some+then-get-number w ↦
          let passes : has_number number w.in-Some.item.now ≡ true = search rules in
          let there : find (has_number number) items ≡ Some w.in-Some.item.now = found ∙ rw (w.in-Some.is, passes) refl in
          rw (← c.self.view_is, w.self-inside-is) (sym (turned_at number items c.self.invariant.0 c.index-index.result w.in-Some.item.now c.self.invariant.1 index there))
      | in-Some+else-get-number w ↦
          let fails : has_number number w.in-Some.item.now ≡ false = search rules in
          let none : find (has_number number) items ≡ None = found ∙ rw (w.in-Some.is, fails) refl in
          let there : slice_get items c.index-index.result ≡ Some w.in-Some.item.now = sym read ∙ rw w.in-Some.is refl in
          rw (← c.self.view_is, w.self-inside-is) (set_same items c.index-index.result w.in-Some.item.now there ∙ sym (none_turns number items none))
      | in_default w ↦
          let none : find (has_number number) items ≡ None = found ∙ rw w.in_default.is refl in
          rw (← c.self.view_is, w.self-inside-is) (sym (none_turns number items none))
    ]

pub invariant_of-self : goal.invariant_of-self
invariant_of-self c =
    let items = c.self.inside.items.items in
    let left : c.match-get_mut.self-inside.items.items ≡ map (turned_if c.args.number) items = rw (← c.self.view_is) at (returns-clause-items c) in
    (c.self.invariant.0, rw left (rise_turned c.args.number 1 items c.self.invariant.0 c.self.invariant.1))
