use Rattle.std.proofs.Common.{option_map, sym, ap, ◌∙◌, subst}
use Rattle.serde_json.specs.Find.{as_array}
use Rattle.sq_json.specs.View.{view, items_view}
use Rattle.sq_json.proofs.Views.{ItemsOf, items_HasItems, items_view_of}
use Rattle.sq_json.proofs.value.Value.items.Goals as goal

pub invariant_of-result : goal.invariant_of-result
invariant_of-result c =
    items_HasItems c.self.inside.element c.in-Some.next c.self.invariant (λ j begins. subst (λ r. ItemsOf r j) c.in-Some.is (c.items.ensures j begins))

pub returns-in-Some : goal.returns-in-Some
returns-in-Some c =
    ap (option_map items_view) (sym c.in-Some.is) ∙ items_view_of c.self.inside.element c.items.result c.self.invariant c.items.ensures ∙ ap (λ ts. as_array (view ts)) c.self.view_is

pub returns-in-None : goal.returns-in-None
returns-in-None c =
    ap (option_map items_view) (sym c.in-None.is) ∙ items_view_of c.self.inside.element c.items.result c.self.invariant c.items.ensures ∙ ap (λ ts. as_array (view ts)) c.self.view_is
