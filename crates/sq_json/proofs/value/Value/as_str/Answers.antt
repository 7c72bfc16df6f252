use Rattle.std.proofs.Common.{option_map, ap, ◌∙◌}
use Rattle.serde_json.specs.Find.{as_str}
use Rattle.sq_json.specs.View.{view}
use Rattle.sq_json.proofs.Views.{as_str_view}
use Rattle.sq_json.proofs.value.Value.as_str.Goals as goal

pub returns : goal.returns
returns c =
    as_str_view c.self.inside.element (option_map (λ s. s.now) c.as_str.result) c.self.invariant c.as_str.ensures ∙ ap (λ ts. as_str (view ts)) c.self.view_is
