use Rattle.std.proofs.Common.{◌≡◌, rules, refl, ◌∙◌, Bool, Option, Some, None, Err, option_map}
use Rattle.serde_json.specs.Data.{Members}
use Rattle.serde_json.specs.Find.{as_object}
use Rattle.sq_json.specs.View.{view}
use Rattle.sq_requests.specs.Attributes.{given_in, is_unsettable, has_other}
use Rattle.sq_requests.proofs.attributes.given_in.Goals as goal

no_object : (found : Option Members) → None ≡ option_map has_other found → found ≡ None
no_object None h = refl
no_object (Some ms) h = absurd (cc)

an_object : (found : Option Members) (b : Bool) → Some b ≡ option_map has_other found → (ms : Members) × (found ≡ Some ms) × (b ≡ has_other ms)
an_object None b h = absurd (cc)
an_object (Some ms) b h = (ms, refl, cc)

pub returns-in_default : goal.returns-in_default
unfolding given_in
returns-in_default c = rw (no_object (as_object (view c.args.attributes.now)) (c.in_default.ensures is_unsettable)) refl

pub returns-in_err-delay : goal.returns-in_err-delay
unfolding given_in
returns-in_err-delay c =
    let refused : c.from_residual.result ≡ Err c.in_err-delay.field-0.0 = search rules in
    let object = an_object (as_object (view c.args.attributes.now)) _ (c.in-Some.ensures is_unsettable) in
    rw (refused, object.1, ← c.in_err-delay.ensures) refl

pub returns-in_err-retention : goal.returns-in_err-retention
unfolding given_in
returns-in_err-retention c =
    let refused : c.from_residual-in_err-retention.result ≡ Err c.in_err-retention.field-0.0 = search rules in
    let object = an_object (as_object (view c.args.attributes.now)) _ (c.in-Some.ensures is_unsettable) in
    rw (refused, object.1, ← c.in_ok-delay.ensures, ← c.in_err-retention.ensures) refl

pub returns-in_err-wait_time : goal.returns-in_err-wait_time
unfolding given_in
returns-in_err-wait_time c =
    let refused : c.from_residual-in_err-wait_time.result ≡ Err c.in_err-wait_time.field-0.0 = search rules in
    let object = an_object (as_object (view c.args.attributes.now)) _ (c.in-Some.ensures is_unsettable) in
    rw (refused, object.1, ← c.in_ok-delay.ensures, ← c.in_ok-retention.ensures, ← c.in_err-wait_time.ensures) refl

pub returns-in_err-timeout : goal.returns-in_err-timeout
unfolding given_in
returns-in_err-timeout c =
    let refused : c.from_residual-in_err-timeout.result ≡ Err c.in_err-timeout.field-0.0 = search rules in
    let object = an_object (as_object (view c.args.attributes.now)) _ (c.in-Some.ensures is_unsettable) in
    rw (refused, object.1, ← c.in_ok-delay.ensures, ← c.in_ok-retention.ensures, ← c.in_ok-wait_time.ensures, ← c.in_err-timeout.ensures) refl

pub returns-in_err-redrive : goal.returns-in_err-redrive
unfolding given_in
returns-in_err-redrive c =
    let refused : c.from_residual-in_err-redrive.result ≡ Err c.in_err-redrive.field-0.0 = search rules in
    let object = an_object (as_object (view c.args.attributes.now)) _ (c.in-Some.ensures is_unsettable) in
    rw (refused, object.1, ← c.in_ok-delay.ensures, ← c.in_ok-retention.ensures, ← c.in_ok-wait_time.ensures, ← c.in_ok-timeout.ensures, ← c.in_err-redrive.ensures) refl

pub returns-in_err-allow : goal.returns-in_err-allow
unfolding given_in
returns-in_err-allow c =
    let refused : c.from_residual-in_err-allow.result ≡ Err c.in_err-allow.field-0.0 = search rules in
    let object = an_object (as_object (view c.args.attributes.now)) _ (c.in-Some.ensures is_unsettable) in
    rw (refused, object.1, ← c.in_ok-delay.ensures, ← c.in_ok-retention.ensures, ← c.in_ok-wait_time.ensures, ← c.in_ok-timeout.ensures, ← c.in_ok-redrive.ensures, ← c.in_err-allow.ensures) refl

pub returns : goal.returns
unfolding given_in
returns c =
    let object = an_object (as_object (view c.args.attributes.now)) _ (c.in-Some.ensures is_unsettable) in
    let other : c.has_other.result ≡ has_other object.0 = c.has_other.ensures ∙ object.2 in
    rw (object.1, ← c.in_ok-delay.ensures, ← c.in_ok-retention.ensures, ← c.in_ok-wait_time.ensures, ← c.in_ok-timeout.ensures, ← c.in_ok-redrive.ensures, ← c.in_ok-allow.ensures, other) refl
