use Rattle.std.proofs.Common.{rules, ◌≡◌, Bool, true, false}
use Rattle.std.specs.Prelude.{◌==◌}
use Rattle.sq_steps.specs.declared.records.Kept.{Kept}
use Rattle.sq_steps.specs.inside.Records.{place_of_kept}
use Rattle.sq_steps.proofs.RecordLaws.{any_next, get_within}
use Rattle.sq_steps.proofs.records.find_place.Goals as goal

pub loop-at-preserved : goal.loop-at-preserved
loop-at-preserved c =
    let p : Kept → Bool = λ n. place_of_kept c.args.others.now.items n == c.args.place in
    let misses : p c.index.result.now ≡ false = search rules in
    rw (any_next p c.args.kept.now.items c.loop-at.at c.index.result.now c.index.ensures, c.loop-at.invariant) misses

pub returns-then-place_of-place-clause-found : goal.returns-then-place_of-place-clause-found
returns-then-place_of-place-clause-found c =
    let p : Kept → Bool = λ n. place_of_kept c.args.others.now.items n == c.args.place in
    let passes : p c.index.result.now ≡ true = search rules in
    record {
      within = get_within c.args.kept.now.items c.index.result.now c.loop-at.at c.index.ensures;
      before = c.loop-at.invariant;
      passes = rw (any_next p c.args.kept.now.items c.loop-at.at c.index.result.now c.index.ensures, c.loop-at.invariant) passes;
    }
