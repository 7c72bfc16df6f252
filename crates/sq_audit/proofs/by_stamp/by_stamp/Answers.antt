use Rattle.std.proofs.Common.{rules}
use Rattle.std.proofs.lemmas.List.Sorted.{answers_always}
use Rattle.sq_model.specs.Systems.{stamp_of}
use Rattle.sq_audit.specs.Tags.{tag_of}
use Rattle.sq_audit.proofs.MergeLaws.{merged_is_run, sorted_merges, sorted_rises}
use Rattle.sq_audit.proofs.by_stamp.by_stamp.Goals as goal

pub returns : goal.returns
returns c =
    let up = c.in_ok-sort_by_key.ensures.sorted (λ t. stamp_of (tag_of t)) (answers_always _ _ _ (λ f a r g h. search rules)) in
    let stable = c.sort_by_key.ensures.stable (λ t. stamp_of (tag_of t)) (answers_always _ _ _ (λ f a r g h. search rules)) in
    let directory = c.args.directory.now in
    let ledger = c.args.ledger.now.history in
    let homes = c.args.homes.now in
    let made = c.in_ok-all.ensures in
    let merged = sorted_merges tag_of c.in_ok-all.all.items _ up stable c.requires.numbered.0 directory ledger homes c.requires.numbered.1 c.requires.paired made.directory made.ledger made.homes made.tags in
    record {
      merged = merged;
      parts = sorted_rises tag_of c.in_ok-all.all.items _ up stable c.requires.numbered.0 directory ledger homes c.requires.numbered.1 c.requires.paired made.directory made.ledger made.homes made.tags;
      run = merged_is_run directory ledger homes _ made.directory made.ledger made.homes merged;
      some = search rules;
    }
