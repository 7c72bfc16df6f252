use Rattle.std.proofs.Common.{List, ℕ, Option, option_map, option_and_then, sym, ap, ◌∙◌}
use Rattle.std.specs.Borrow.{Bor}
use Rattle.serde_json.specs.Find.{as_number}
use Rattle.serde_json.specs.Read.{number_of}
use Rattle.sq_json.specs.View.{view}
use Rattle.sq_json.proofs.Views.{as_number_view}
use Rattle.sq_json.proofs.value.Value.as_number.Goals as goal

abbrev texts : Option (Bor (List ℕ)) → Option (List ℕ)
texts o = option_map (λ s. s.now) o

pub returns-in-Some : goal.returns-in-Some
returns-in-Some c =
    c.number_of.ensures ∙ ap (λ o. option_and_then number_of (texts o)) (sym c.in-Some.is)
    ∙ as_number_view c.self.inside.element (texts c.as_number.result) c.self.invariant c.as_number.ensures ∙ ap (λ ts. as_number (view ts)) c.self.view_is

pub returns-in-None : goal.returns-in-None
returns-in-None c =
    ap (λ o. option_and_then number_of (texts o)) (sym c.in-None.is)
    ∙ as_number_view c.self.inside.element (texts c.as_number.result) c.self.invariant c.as_number.ensures ∙ ap (λ ts. as_number (view ts)) c.self.view_is
