use Rattle.std.proofs.Common.{◌≡◌, ◌+◌, ◌≤◌, ◌++◌, length, map, sum_by}
use Rattle.std.specs.Prelude.{vec_len, vec_capacity}
use Rattle.std.specs.Vec.Iter.{into_iter_items, into_iter_len}
use Rattle.sq_steps.specs.Journals.{AreDistinct}
use Rattle.sq_queue.specs.Evidence.{with_firsts}
use Rattle.sq_queue.specs.Tallies.{directory_records, ledger_records}
use Rattle.sq_queue.proofs.finish.gather.Given as goal

abbrev pub invariant-loop-session : goal.invariant-loop-session
invariant-loop-session g l = record {
  all : l.yielded ++ into_iter_items l.session-iterator ≡ l.fn.sessions.items;
  left : into_iter_len l.session-iterator ≡ length (into_iter_items l.session-iterator);
  spare : vec_len l.all.journals + into_iter_len l.session-iterator ≤ vec_capacity l.all.journals;
  capacity : vec_capacity l.all.journals ≡ vec_capacity l.fn.all.journals;
  journals : l.all.journals.items ≡ with_firsts l.fn.all.journals.items (map (λ s. s.journal) l.yielded);
  distinct : AreDistinct l.all.journals.items;
  fewer : vec_len l.all.journals ≤ vec_len l.fn.all.journals + length l.yielded;
  directory_parts : l.all.of_directory.parts ≡ l.fn.all.of_directory.parts + length l.yielded;
  ledger_parts : l.all.of_ledger.parts ≡ l.fn.all.of_ledger.parts + length l.yielded;
  directory : l.all.of_directory.amount ≡ l.fn.all.of_directory.amount + sum_by (λ s. directory_records s.journal.records) l.yielded;
  ledger : l.all.of_ledger.amount ≡ l.fn.all.of_ledger.amount + sum_by (λ s. ledger_records s.journal.records) l.yielded;
  directory_few : l.all.of_directory.parts ≤ g.D.Ledger.parts;
  ledger_few : l.all.of_ledger.parts ≤ g.T.Ledger.parts;
  made : l.all.made ≡ l.fn.all.made;
}
