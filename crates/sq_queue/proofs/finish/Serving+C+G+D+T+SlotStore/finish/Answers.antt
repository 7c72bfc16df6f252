use Rattle.std.proofs.Common.{rules, arith, map}
use Rattle.std.proofs.lemmas.List.{length-map}
use Rattle.sq_queue.proofs.finish.Serving+C+G+D+T+SlotStore.finish.Goals as goal

pub returns-clause-records : goal.returns-clause-records
returns-clause-records g c =
    let retired = c.into_inner-actors.result.retired.items in
    (map (λ s. s.journal) retired, c.left_parts.ensures.records, rw (length-map retired (λ s. s.journal)) c.left_parts.ensures.fewer)
