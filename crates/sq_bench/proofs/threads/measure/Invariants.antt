use Rattle.sq_bench.proofs.threads.measure.Given as goal

abbrev pub ghosts-measure_at-D-Ledger : goal.ghosts-measure_at-D-Ledger
ghosts-measure_at-D-Ledger g a = record { name = a.blanks.directory.name; parts = a.blanks.directory.parts }

abbrev pub ghosts-measure_at-T-Ledger : goal.ghosts-measure_at-T-Ledger
ghosts-measure_at-T-Ledger g a = record { name = a.blanks.ledger.name; parts = a.blanks.ledger.parts }
