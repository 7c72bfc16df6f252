use Rattle.std.proofs.Common.{◌≡◌, ℕ, List, [], ◌∷◌, Option, Some, None, MatchOption, sym, subst}
use Rattle.std.specs.Borrow.{Bor}
use Rattle.json.specs.Token.{Token}
use Rattle.sq_json.specs.View.{names_view, HasNames}
use Rattle.sq_json.proofs.Views.{next_HasNames, next_name}
use Rattle.sq_json.proofs.value.Names.next.Goals as goal
use Rattle.sq_json.proofs.value.Names.next.Goals.{in-Some, in-None}

pub invariant_of-self : goal.invariant_of-self
invariant_of-self c =
    elim c.match-next.branch [
      | in-Some w ↦ next_HasNames c.self.inside.next c.next.new.self _ c.self.invariant w.in-Some.ensures.value
      | in-None w ↦ subst HasNames (sym w.in-None.ensures.stays) c.self.invariant
    ]

abbrev Turn : List Token → List Token → Option (Bor (List ℕ)) → Type 0
Turn old new r = MatchOption r (names_view old ≡ []) (λ name. names_view old ≡ name.now ∷ names_view new)

pub returns-clause-value : goal.returns-clause-value
returns-clause-value c =
    let old = c.self.inside.next in
    let new = c.next.new.self in
    elim c.match-next.branch [
      | in-Some w ↦ subst (Turn c.args.self.now new) (sym w.result-is) (subst (λ ts. names_view ts ≡ w.in-Some.name.now ∷ names_view new) c.self.view_is (next_name old new (Some _) c.self.invariant w.in-Some.ensures.value))
      | in-None w ↦ subst (Turn c.args.self.now new) (sym w.result-is) (subst (λ ts. names_view ts ≡ []) c.self.view_is (next_name old new None c.self.invariant w.in-None.ensures.value))
    ]
