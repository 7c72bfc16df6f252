use Rattle.std.proofs.Common.{◌≡◌, ◌∙◌, ap, ap₂, ℕ, Vec}
use Rattle.std.specs.Prelude.{String, string_bytes}
use Rattle.std.specs.String.{string_vec}
use Rattle.std.specs.declared.alloc.Global.{Global}
use Rattle.serde_json.specs.Written.{compact_text}
use Rattle.sq_wire.specs.Audits.{audit_data}
use Rattle.sq_wire.proofs.audit.audit_text.Goals as goal

-- the bytes of a text
bytes_of : (v : Vec ℕ Global) (text : String Global) → v ≡ string_vec text → v.items ≡ string_bytes text
bytes_of v text is = ap (λ (b : Vec ℕ Global). b.items) is

pub returns-clause-listed : goal.returns-clause-listed
returns-clause-listed c o after r one_place =
    (c.in_ok-places.places.items, c.in_ok-places.ensures.places o after r one_place, c.made.ensures ∙ bytes_of c.into_bytes.result c.in_ok-audit_string.field-0 c.into_bytes.ensures.value ∙ c.in_ok-audit_string.ensures ∙ ap₂ (λ run listed. compact_text (audit_data run listed)) c.events.ensures c.deref.ensures.value)

pub returns-clause-text : goal.returns-clause-text
returns-clause-text c = (c.in_ok-places.places.items, c.made.ensures ∙ bytes_of c.into_bytes.result c.in_ok-audit_string.field-0 c.into_bytes.ensures.value ∙ c.in_ok-audit_string.ensures ∙ ap₂ (λ run listed. compact_text (audit_data run listed)) c.events.ensures c.deref.ensures.value)
