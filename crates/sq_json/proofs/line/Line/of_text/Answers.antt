use Rattle.std.proofs.Common.{◌≡◌, true, Some, IsSome, refl, sym, ap, ◌∙◌, subst, arith}
use Rattle.json.specs.Lex.{tokens}
use Rattle.json.specs.Json.{document}
use Rattle.sq_json.specs.inside.Fits.{fits}
use Rattle.sq_json.proofs.Views.{some_data, view_is}
use Rattle.sq_json.proofs.Readings.{read_fitting, no_document, no_fit}
use Rattle.sq_json.proofs.line.Line.of_text.Goals as goal

pub invariant_of-result : goal.invariant_of-result
invariant_of-result c =
    let text = c.args.text.now in
    let j = some_data (document text) c.in-Ok.ensures.ok.1 in
    let good : fits 127 (tokens text) ≡ true = ap (fits 127) (sym c.in-Ok.ensures.ok.0 ∙ sym c.nodes.ensures.tokens) ∙ sym c.are_read.ensures ∙ c.if-are_read.true in
    let d = read_fitting text j.0 j.1 good in
    (j.0, c.in-Ok.ensures.value j.0 j.1, subst IsSome (sym d.1) refl)

pub returns-then-are_read-clause-ok : goal.returns-then-are_read-clause-ok
returns-then-are_read-clause-ok c =
    let text = c.args.text.now in
    let j = some_data (document text) c.in-Ok.ensures.ok.1 in
    let good : fits 127 (tokens text) ≡ true = ap (fits 127) (sym c.in-Ok.ensures.ok.0 ∙ sym c.nodes.ensures.tokens) ∙ sym c.are_read.ensures ∙ c.if-are_read.true in
    let d = read_fitting text j.0 j.1 good in
    d.2 ∙ ap Some (sym (view_is c.in-Ok.tape j.0 d.0 (c.in-Ok.ensures.value j.0 j.1) d.1))

pub returns-in-Ok-clause-invalid : goal.returns-in-Ok-clause-invalid
returns-in-Ok-clause-invalid c invalid =
    let text = c.args.text.now in
    no_fit text (ap (fits 127) (sym c.in-Ok.ensures.ok.0 ∙ sym c.nodes.ensures.tokens) ∙ sym c.are_read.ensures ∙ c.if-are_read.false)

pub returns-in-Err-Invalid-clause-invalid : goal.returns-in-Err-Invalid-clause-invalid
returns-in-Err-Invalid-clause-invalid c invalid = no_document c.args.text.now (c.parse.ensures.invalid (grind arith))
