use Rattle.std.proofs.Common.{◌≡◌, take}
use Rattle.std.specs.Prelude.{All, ◌-◌, ◌^◌, min, length}
use Rattle.sq_history.specs.Histories.{IsKept}
use Rattle.sq_directory.specs.DirectoryHistories.{IsDirectoryKept}
use Rattle.sq_ledger.specs.LedgerHistories.{IsLedgerKept}
use Rattle.sq_audit.specs.SystemNow.{events_of, by_part}
use Rattle.sq_audit.proofs.by_stamp.count.Given as goal

abbrev pub invariant-loop-home : goal.invariant-loop-home
invariant-loop-home l = record {
  count : l.count ≡ min (length (by_part l.directory.events l.ledger.history.events (events_of (take l.home-index l.homes)))) (2 ^ 64 - 1);
  directory : IsDirectoryKept l.directory;
  ledger : IsLedgerKept l.ledger.history;
  homes : All IsKept (take l.home-index l.homes);
}
