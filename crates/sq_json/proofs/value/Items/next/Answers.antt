use Rattle.std.proofs.Common.{◌≡◌, List, Option, MatchOption, sym, ◌∙◌, subst}
use Rattle.json.specs.Token.{Token}
use Rattle.serde_json.specs.Data.{no_items, item}
use Rattle.sq_json.specs.View.{view, items_view, HasItems}
use Rattle.sq_json.proofs.Views.{next_HasData, next_HasItems, next_view}
use Rattle.sq_json.proofs.value.Items.next.Goals as goal
use Rattle.sq_json.proofs.value.Items.next.Goals.{in-Some, in-None}

pub invariant_of-result : goal.invariant_of-result
invariant_of-result c = next_HasData c.self.inside.next c.in-Some.element c.next.new.self c.self.invariant c.in-Some.ensures.value

pub invariant_of-self : goal.invariant_of-self
invariant_of-self c =
    elim c.match-next.branch [
      | in-Some w ↦ next_HasItems c.self.inside.next w.in-Some.element c.next.new.self c.self.invariant w.in-Some.ensures.value
      | in-None w ↦ subst HasItems (sym w.in-None.ensures.stays) c.self.invariant
    ]

abbrev Turn : List Token → List Token → Option (List Token) → Type 0
Turn old new r = MatchOption r (items_view old ≡ no_items) (λ ts. items_view old ≡ item (view ts) (items_view new))

pub returns-clause-value : goal.returns-clause-value
returns-clause-value c =
    let old = c.self.inside.next in
    let new = c.next.new.self in
    let turn : Turn old new c.next.result = next_view old new c.next.result c.self.invariant c.next.ensures.value in
    let seen : Turn c.args.self.now new c.next.result = subst (λ ts. Turn ts new c.next.result) c.self.view_is turn in
    elim c.match-next.branch [
      | in-Some w ↦ subst (Turn c.args.self.now new) (w.in-Some.is ∙ sym w.result-is) seen
      | in-None w ↦ subst (Turn c.args.self.now new) (w.in-None.is ∙ sym w.result-is) seen
    ]
