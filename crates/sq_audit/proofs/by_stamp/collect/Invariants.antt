use Rattle.std.proofs.Common.{◌≡◌, take}
use Rattle.std.specs.Prelude.{All}
use Rattle.sq_history.specs.Histories.{IsKept}
use Rattle.sq_directory.specs.DirectoryHistories.{IsDirectoryKept}
use Rattle.sq_ledger.specs.LedgerHistories.{IsLedgerKept}
use Rattle.sq_audit.specs.Tags.{tags_of}
use Rattle.sq_audit.specs.SystemNow.{events_of, by_part}
use Rattle.sq_audit.proofs.by_stamp.collect.Given as goal

abbrev pub invariant-loop-index : goal.invariant-loop-index
invariant-loop-index l = record {
  tags : tags_of l.all.items ≡ by_part l.directory.events l.ledger.history.events (events_of (take l.index l.homes));
  directory : IsDirectoryKept l.directory;
  ledger : IsLedgerKept l.ledger.history;
  homes : All IsKept (take l.index l.homes);
}
