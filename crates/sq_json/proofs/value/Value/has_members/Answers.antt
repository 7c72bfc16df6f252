use Rattle.std.proofs.Common.{Some, option_map, ap, ◌∙◌, subst}
use Rattle.serde_json.specs.Find.{as_object}
use Rattle.sq_json.specs.View.{view, has_any}
use Rattle.sq_json.proofs.Views.{MembersOf, any_members, no_object, is_some-map}
use Rattle.sq_json.proofs.value.Value.has_members.Goals as goal

pub returns-in-Some : goal.returns-in-Some
returns-in-Some c =
    ap Some (c.is_some.ensures ∙ is_some-map (λ m. (m.0.now, m.1)) c.next.result)
    ∙ any_members c.self.inside.element c.in-Some.members c.next.new.self (option_map (λ m. (m.0.now, m.1)) c.next.result) c.self.invariant (λ j begins. subst (λ r. MembersOf r j) c.in-Some.is (c.members.ensures j begins)) c.next.ensures.value
    ∙ ap (λ ts. option_map has_any (as_object (view ts))) c.self.view_is

pub returns-in-None : goal.returns-in-None
returns-in-None c =
    ap (option_map has_any) (no_object c.self.inside.element c.self.invariant (λ j begins. subst (λ r. MembersOf r j) c.in-None.is (c.members.ensures j begins)))
    ∙ ap (λ ts. option_map has_any (as_object (view ts))) c.self.view_is
