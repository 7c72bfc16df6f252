use Rattle.std.proofs.Common.{option_map, sym, ap, ◌∙◌, subst}
use Rattle.std.specs.List.{list_any}
use Rattle.serde_json.specs.Find.{as_object}
use Rattle.sq_json.specs.View.{view, names_of, names_view}
use Rattle.sq_json.proofs.Views.{MembersOf, members_HasNames, names_of_view}
use Rattle.sq_json.proofs.value.Value.names.Goals as goal

pub invariant_of-result : goal.invariant_of-result
invariant_of-result c =
    members_HasNames c.self.inside.element c.in-Some.next c.self.invariant (λ j begins. subst (λ r. MembersOf r j) c.in-Some.is (c.members.ensures j begins))

pub returns-in-Some : goal.returns-in-Some
returns-in-Some c test =
    ap (option_map (λ names. list_any test (names_view names))) (sym c.in-Some.is) ∙ names_of_view test c.self.inside.element c.members.result c.self.invariant c.members.ensures
    ∙ ap (λ ts. option_map (λ ms. list_any test (names_of ms)) (as_object (view ts))) c.self.view_is

pub returns-in-None : goal.returns-in-None
returns-in-None c test =
    ap (option_map (λ names. list_any test (names_view names))) (sym c.in-None.is) ∙ names_of_view test c.self.inside.element c.members.result c.self.invariant c.members.ensures
    ∙ ap (λ ts. option_map (λ ms. list_any test (names_of ms)) (as_object (view ts))) c.self.view_is
