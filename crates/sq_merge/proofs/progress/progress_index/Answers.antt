use Rattle.std.proofs.Common.{rules, ◌≡◌, ◌+◌, ◌∷◌, [], length, refl, Some, None, arith}
use Rattle.std.specs.Prelude.{List, position}
use Rattle.std.proofs.lemmas.List.{length-append}
use Rattle.sq_merge.specs.declared.progress.ActorProgress.{ActorProgress}
use Rattle.sq_merge.specs.Progresses.{is_progress_of}
use Rattle.sq_merge.proofs.progress.progress_index.Goals as goal

pub returns-in-Some-clause-index : goal.returns-in-Some-clause-index
returns-in-Some-clause-index c =
    let pos : position (is_progress_of c.args.actor) c.args.all.now.items ≡ Some c.in-Some.at = search rules in
    rw pos refl

pub returns-in-Some-clause-added : goal.returns-in-Some-clause-added
returns-in-Some-clause-added c =
    let pos : position (is_progress_of c.args.actor) c.args.all.now.items ≡ Some c.in-Some.at = search rules in
    rw pos (refl {A = List ActorProgress})

pub returns-clause-index : goal.returns-clause-index
returns-clause-index c =
    let pos : position (is_progress_of c.args.actor) c.args.all.now.items ≡ None = search rules in
    let more : length c.push_within_capacity.new.items.items ≡ length c.args.all.now.items + 1 = rw (c.push_within_capacity.ensures, c.try_reserve.ensures.items) (length-append c.args.all.now.items (_ ∷ [])) in
    rw pos (omega (arith, c.len.ensures, more))

pub returns-clause-added : goal.returns-clause-added
returns-clause-added c =
    let pos : position (is_progress_of c.args.actor) c.args.all.now.items ≡ None = search rules in
    rw (c.push_within_capacity.ensures, c.try_reserve.ensures.items, pos) (refl {A = List ActorProgress})
