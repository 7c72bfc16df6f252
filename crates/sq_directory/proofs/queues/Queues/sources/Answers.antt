use Rattle.std.proofs.Common.{rules, ◌≡◌, ◌<◌, ◌∙◌, Err, ap, length, refl, sym}
use Rattle.std.specs.Prelude.{option_map}
use Rattle.sq_base.specs.declared.refusal.Refusal.TheVariants.{NoMemory}
use Rattle.sq_model.specs.Directories.{DirectoryStep, sources_of}
use Rattle.sq_directory.proofs.queues.Queues.sources.Goals as goal

pub returns-in_err-names-clause-refused : goal.returns-in_err-names-clause-refused
returns-in_err-names-clause-refused c =
    let refused : c.from_residual.result ≡ Err NoMemory = search rules in
    let found = sym c.get.ensures ∙ ap (option_map (λ queue. queue.now)) c.in-Some.is in
    rw (refused, ← c.self.view_is) (refl, (c.in-Some.target.now, found, c.in_err-names.ensures.refused.1))

pub returns-in_err-replies-clause-refused : goal.returns-in_err-replies-clause-refused
returns-in_err-replies-clause-refused c =
    let refused : c.from_residual-in_err-replies.result ≡ Err NoMemory = search rules in
    let found = sym c.get.ensures ∙ ap (option_map (λ queue. queue.now)) c.in-Some.is in
    let some : 0 < length (sources_of c.in-Some.target.now.number c.self.inside.queues.queues) = rw c.in_ok-names.ensures.names at c.in_err-replies.ensures.refused.1 in
    rw (refused, ← c.self.view_is) (refl, (c.in-Some.target.now, found, some))

pub returns-clause-prepared : goal.returns-clause-prepared
unfolding DirectoryStep
returns-clause-prepared c m =
    let found = sym c.get.ensures ∙ ap (option_map (λ queue. queue.now)) c.in-Some.is in
    rw (← c.self.view_is, c.in_ok-replies.ensures.replies) ((c.in-Some.target.now, found, c.in_ok-names.ensures.names), refl)
