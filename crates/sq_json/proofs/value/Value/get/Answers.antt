use Rattle.std.proofs.Common.{option_map, sym, ap, ◌∙◌, subst}
use Rattle.json.specs.Find.{BeginsWith, Finds}
use Rattle.json.specs.Find as at_json
use Rattle.serde_json.specs.Find.{get}
use Rattle.sq_json.specs.View.{view}
use Rattle.sq_json.proofs.Views.{get_view, get_HasData}
use Rattle.sq_json.proofs.value.Value.get.Goals as goal

pub invariant_of-result : goal.invariant_of-result
invariant_of-result c =
    let name = c.args.name.now in
    get_HasData name c.self.inside.element c.in-Some.element c.self.invariant
    (λ j begins. subst (λ r. Finds r (at_json.get name j)) c.in-Some.is (c.get.ensures j begins))

pub returns-in-Some : goal.returns-in-Some
returns-in-Some c =
    let name = c.args.name.now in
    ap (option_map view) (sym c.in-Some.is) ∙ get_view name c.self.inside.element c.get.result c.self.invariant c.get.ensures ∙ ap (λ ts. get name (view ts)) c.self.view_is

pub returns-in-None : goal.returns-in-None
returns-in-None c =
    let name = c.args.name.now in
    ap (option_map view) (sym c.in-None.is) ∙ get_view name c.self.inside.element c.get.result c.self.invariant c.get.ensures ∙ ap (λ ts. get name (view ts)) c.self.view_is
