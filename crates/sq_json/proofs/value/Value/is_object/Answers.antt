use Rattle.std.proofs.Common.{is_some, ap, ◌∙◌}
use Rattle.serde_json.specs.Find.{as_object}
use Rattle.sq_json.specs.View.{view}
use Rattle.sq_json.proofs.Views.{members_view_of}
use Rattle.sq_json.proofs.value.Value.is_object.Goals as goal

pub returns : goal.returns
returns c =
    c.is_some.ensures ∙ members_view_of c.self.inside.element c.members.result c.self.invariant c.members.ensures ∙ ap (λ ts. is_some (as_object (view ts))) c.self.view_is
