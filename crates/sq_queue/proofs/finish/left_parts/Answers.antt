use Rattle.std.proofs.Common.{rules, ◌≡◌, [], ◌++◌, sym, ◌∙◌, map}
use Rattle.sq_queue.specs.Evidence.{first_of_each}
use Rattle.sq_queue.specs.Tallies.{directory_records, ledger_records}
use Rattle.sq_queue.proofs.FinishLaws.{all_counted, firsts_both}
use Rattle.sq_queue.proofs.finish.left_parts.Goals as goal

pub returns-clause-records : goal.returns-clause-records
returns-clause-records g c = c.of.ensures ∙ c.all_of-made.ensures.journals ∙ sym (firsts_both [] (map (λ s. s.journal) c.args.sessions.items) (map (λ s. s.journal) c.args.actors.retired.items))

pub returns-clause-directory_counted : goal.returns-clause-directory_counted
returns-clause-directory_counted g c =
    let actors = c.args.actors in
    let all = c.all_of-made.result in
    let book = c.args.directory in
    let are : c.of.result ≡ first_of_each (map (λ s. s.journal) c.args.sessions.items ++ map (λ s. s.journal) actors.retired.items) = c.of.ensures ∙ c.all_of-made.ensures.journals ∙ sym (firsts_both [] (map (λ s. s.journal) c.args.sessions.items) (map (λ s. s.journal) actors.retired.items)) in
    λ here. sym book.counted ∙ all_counted (λ s. s.journal) (λ a. directory_records a.records) c.args.sessions.items actors.retired.items c.of.result actors.made actors.of_directory.parts all.of_directory.parts all.of_directory.amount book.tallies.total are (search rules) (search rules) c.all_of-made.ensures.directory_few (search rules) (λ e. c.audit.ensures.whole (e ∙ sym c.requires.of_directory)) (here ∙ c.all_of-made.ensures.made)

pub returns-clause-ledger_counted : goal.returns-clause-ledger_counted
returns-clause-ledger_counted g c =
    let actors = c.args.actors in
    let all = c.all_of-made.result in
    let book = c.args.ledger in
    let are : c.of.result ≡ first_of_each (map (λ s. s.journal) c.args.sessions.items ++ map (λ s. s.journal) actors.retired.items) = c.of.ensures ∙ c.all_of-made.ensures.journals ∙ sym (firsts_both [] (map (λ s. s.journal) c.args.sessions.items) (map (λ s. s.journal) actors.retired.items)) in
    λ here. sym book.counted ∙ all_counted (λ s. s.journal) (λ a. ledger_records a.records) c.args.sessions.items actors.retired.items c.of.result actors.made actors.of_ledger.parts all.of_ledger.parts all.of_ledger.amount book.tallies.total are (search rules) (search rules) c.all_of-made.ensures.ledger_few (search rules) (λ e. c.audit-2.ensures.whole (e ∙ sym c.requires.of_ledger)) (here ∙ c.all_of-made.ensures.made)
