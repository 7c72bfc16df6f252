use Rattle.std.proofs.Common.{rules, arith, ◌≡◌, ◌∙◌, ◌++◌, ◌∷◌, [], refl, length}
use Rattle.std.proofs.lemmas.Option.{slice_get_read}
use Rattle.sq_calls.specs.declared.batches.EntryResult.{EntryResult}
use Rattle.sq_actions.proofs.EntryLaws.{entry_more}
use Rattle.sq_actions.proofs.batch.do_entries.Goals as goal

pub loop-at-preserved : goal.loop-at-preserved
loop-at-preserved g c =
    let entries = c.args.batch.now.entries in
    let e = c.index-entries-at.result in
    let one : EntryResult = record { id = e.id; answer = c.do_entry-answer.result } in
    let more : c.push_reserved.new.self.items ≡ c.loop-at.told.items ++ one ∷ [] = search rules in
    record {
      known = rw (← c.queue.ensures) c.do_entry-answer.ensures.known;
      same = c.do_entry-answer.ensures.same_counts ∙ c.loop-at.invariant.same;
      many = search (rules, arith);
      spare = search rules;
      asked = entry_more _ g.S.LockSteps.counts _ _ _ c.args.batch.now c.queue.result c.args.number c.loop-at.at c.loop-at.told.items c.push_reserved.new.self.items e c.do_entry-answer.result c.loop-at.invariant.asked c.loop-at.invariant.same c.queue.ensures
          (slice_get_read entries (length entries) c.loop-at.at e refl (search rules) (search rules)) c.do_entry-answer.ensures.did more;
    }
