use Rattle.std.proofs.Common.{option_map, sym, ap, ◌∙◌, subst}
use Rattle.json.specs.Find.{BeginsWith, Finds}
use Rattle.json.specs.Find as at_json
use Rattle.serde_json.specs.Find.{at}
use Rattle.sq_json.specs.View.{view}
use Rattle.sq_json.proofs.Views.{at_view, at_HasData}
use Rattle.sq_json.proofs.value.Value.at.Goals as goal

pub invariant_of-result : goal.invariant_of-result
invariant_of-result c =
    let i = c.args.index in
    at_HasData i c.self.inside.element c.in-Some.element c.self.invariant
    (λ j begins. subst (λ r. Finds r (at_json.at i j)) c.in-Some.is (c.at.ensures j begins))

pub returns-in-Some : goal.returns-in-Some
returns-in-Some c =
    let i = c.args.index in
    ap (option_map view) (sym c.in-Some.is) ∙ at_view i c.self.inside.element c.at.result c.self.invariant c.at.ensures ∙ ap (λ ts. at i (view ts)) c.self.view_is

pub returns-in-None : goal.returns-in-None
returns-in-None c =
    let i = c.args.index in
    ap (option_map view) (sym c.in-None.is) ∙ at_view i c.self.inside.element c.at.result c.self.invariant c.at.ensures ∙ ap (λ ts. at i (view ts)) c.self.view_is
