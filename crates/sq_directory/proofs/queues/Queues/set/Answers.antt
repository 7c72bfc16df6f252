use Rattle.std.proofs.Common.{◌≡◌, ◌∙◌, ap, sym, refl, false}
use Rattle.std.specs.Prelude.{nat_le, option_map}
use Rattle.std.proofs.lemmas.Bool.{lt-leb}
use Rattle.sq_model.specs.Directories.{DirectoryStep, changed_queue, directory_refusal, last_version, may_have, settings_at, with_attributes}
use Rattle.sq_directory.proofs.StoredLaws.{given_all, given_is}
use Rattle.sq_directory.proofs.queues.Queues.set.Goals as goal

pub returns-then-not-may_have-clause-refusal : goal.returns-then-not-may_have-clause-refusal
unfolding directory_refusal
returns-then-not-may_have-clause-refusal c m =
    let found = sym c.get.ensures ∙ ap (option_map (λ queue. queue.now)) c.in-Some.is in
    let fresh : nat_le last_version c.in-Some.queue.now.version ≡ false = lt-leb _ _ c.if-queue-ge18446744073709551615.false in
    let may : may_have c.self.inside.queues.queues c.args.name.now c.args.given.redrive ≡ false = sym c.may_have.ensures ∙ c.if-not-may_have.true in
    rw (← c.self.view_is, found, fresh, may) refl

pub returns-clause-step : goal.returns-clause-step
unfolding DirectoryStep
returns-clause-step c m =
    let found = sym c.get.ensures ∙ ap (option_map (λ queue. queue.now)) c.in-Some.is in
    let queues = c.self.inside.queues.queues in
    let given = c.args.given in
    let redrive = c.given_redrive-redrive.result in
    let is = c.given_redrive-redrive.ensures in
    let changed : c.settings_with-changed.result ≡ settings_at (with_attributes queues given c.in-Some.queue.now) = c.settings_with-changed.ensures ∙ ap settings_at (given_is queues given redrive c.in-Some.queue.now is) in
    let after : c.give.new.self.queues ≡ changed_queue c.args.name.now (with_attributes queues given) queues = c.give.ensures.queues ∙ given_all queues given redrive c.args.name.now queues is in
    rw (← c.self.view_is) (c.in-Some.queue.now, found, c.if-queue-ge18446744073709551615.false, sym c.may_have.ensures ∙ c.if-not-may_have.false, changed, rw after refl)
