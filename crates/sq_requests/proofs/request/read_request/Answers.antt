use Rattle.std.proofs.Common.{◌≡◌, refl, true, false, List, ℕ, Bool, Err, None, subst, ap, ◌∙◌}
use Rattle.std.specs.Str.{is_utf8, IsUtf8}
use Rattle.std.proofs.lemmas.Str.{is_utf8-from_IsUtf8, IsUtf8-from_is_utf8}
use Rattle.json.specs.Token.{Token}
use Rattle.serde_json.specs.Read.{read}
use Rattle.sq_base.specs.declared.refusal.Refusal.TheVariants.{InvalidRequest}
use Rattle.sq_json.specs.View.{view}
use Rattle.sq_requests.specs.Memory.{ReadsAsking}
use Rattle.sq_requests.specs.Requests.{line_request, request_of}
use Rattle.sq_requests.specs.inside.Requests.{request_asks}
use Rattle.sq_requests.proofs.RequestLaws.{reads_line}
use Rattle.sq_requests.proofs.request.read_request.Goals as goal

refused_if : (line : List ℕ) (b : Bool) → is_utf8 line ≡ b → (IsUtf8 line → read line ≡ None) → line_request line ≡ Err InvalidRequest
unfolding line_request
refused_if line true e none = rw (e, none (IsUtf8-from_is_utf8 line e)) refl
refused_if line false e none = rw e refl

pub returns-in-Ok : goal.returns-in-Ok
returns-in-Ok c =
    let utf8 = is_utf8-from_IsUtf8 c.args.line.now c.in-Ok.ensures.ok.0 in
    let reads = subst (λ (ts : List Token). ReadsAsking (request_asks (view ts)) c.request_of.result (request_of (view ts))) c.root.ensures c.request_of.ensures in
    reads_line c.args.line.now (view c.in-Ok.line) c.request_of.result utf8 c.in-Ok.ensures.ok.1 reads

pub returns-in-Err-Invalid : goal.returns-in-Err-Invalid
returns-in-Err-Invalid c = refused_if c.args.line.now (is_utf8 c.args.line.now) refl (c.parse.ensures.invalid (c.in-Err-Invalid.is ∙ ap Err c.in-Err-Invalid.field-0-is))
