use Rattle.std.proofs.Common.{rules, ◌≡◌, sym, length, refl, None, Some, take}
use Rattle.std.specs.Prelude.{position}
use Rattle.std.proofs.lemmas.List.{take_more}
use Rattle.std.proofs.lemmas.Option.{slice_get_read}
use Rattle.sq_steps.specs.Journals.{is_of_actor}
use Rattle.sq_steps.proofs.DistinctLaws.{distinct_more, found_twice}
use Rattle.sq_steps.proofs.journals.are_distinct.Goals as goal

pub loop-at-preserved : goal.loop-at-preserved
loop-at-preserved c =
    let x = c.index-journals-at.result in
    let lost : position (is_of_actor x.actor) (take c.loop-at.at c.args.journals.now) ≡ None = search rules in
    rw (take_more c.args.journals.now c.loop-at.at x c.loop-at-test.true, sym c.index-journals-at.is) (distinct_more x (take c.loop-at.at c.args.journals.now) c.loop-at.invariant lost)

pub returns-in-Some : goal.returns-in-Some
returns-in-Some c =
    let x = c.index-journals-at.result in
    let found : position (is_of_actor x.actor) (take c.loop-at.at c.args.journals.now) ≡ Some c.in-Some._first = search rules in
    (λ e. absurd (cc e), λ each. absurd (found_twice c.args.journals.now c.loop-at.at _ x (slice_get_read c.args.journals.now (length c.args.journals.now) c.loop-at.at x refl c.loop-at-test.true c.index-journals-at.is) found each))
