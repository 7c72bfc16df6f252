use Rattle.std.proofs.Common.{rules, ◌≡◌, Bor, Some, None, sym, ◌∙◌, ap}
use Rattle.std.specs.Prelude.{option_map}
use Rattle.sq_log.proofs.EventLaws.{at_point, same_stamp}
use Rattle.sq_log.proofs.events.event_at.Goals as goal

pub returns-in_err-event-clause-only : goal.returns-in_err-event-clause-only
returns-in_err-event-clause-only g c e h =
    let here = c.get.ensures ∙ at_point c.args.events.now.items c.args.stamp c.count_before.result c.requires.rises c.count_before.ensures e h in
    let none : c.get.result ≡ None = search rules in
    absurd (let k = ap (option_map (λ (x : Bor _). x.now)) none in cc)

pub returns-then-eq-clause-only : goal.returns-then-eq-clause-only
returns-then-eq-clause-only g c e h =
    let here = c.get.ensures ∙ at_point c.args.events.now.items c.args.stamp c.count_before.result c.requires.rises c.count_before.ensures e h in
    let there : c.get.result ≡ Some c.in_ok-event.event = search rules in
    ap (option_map (λ (x : Bor _). x.now)) (sym there) ∙ here

pub returns-else-eq-clause-only : goal.returns-else-eq-clause-only
returns-else-eq-clause-only g c e h =
    let here = c.get.ensures ∙ at_point c.args.events.now.items c.args.stamp c.count_before.result c.requires.rises c.count_before.ensures e h in
    let there : c.get.result ≡ Some c.in_ok-event.event = search rules in
    let same : Some c.in_ok-event.event.now ≡ Some e = ap (option_map (λ (x : Bor _). x.now)) (sym there) ∙ here in
    let event : c.in_ok-event.event.now ≡ e = cc in
    let tested = same_stamp _ _ (ap (λ x. x.stamp) event ∙ h.2) in
    absurd (let f = c.if-eq.false in let test = c.eq.ensures in cc)
