use Rattle.std.proofs.Common.{◌≡◌, ◌∙◌, ap}
use Rattle.std.proofs.lemmas.Result.{IfOk-weaker}
use Rattle.serde_json.specs.View.{view}
use Rattle.serde_json.specs.Written.{compact_text, has_float}
use Rattle.sq_audit.specs.Tags.{tags_of}
use Rattle.sq_wire.specs.Audits.{audit_data}
use Rattle.sq_wire.proofs.AuditLaws.{audit_no_float}
use Rattle.sq_wire.proofs.audit.audit_string.Goals as goal

pub returns : goal.returns
returns c =
    let e : view c.in_ok-audit_value.field-0 ≡ audit_data (tags_of c.args.run.now) c.args.places.now = c.in_ok-audit_value.ensures in
    IfOk-weaker c.to_string.result _ _ (λ s h. h (ap has_float e ∙ audit_no_float (tags_of c.args.run.now) c.args.places.now) ∙ ap compact_text e) c.to_string.ensures.text
