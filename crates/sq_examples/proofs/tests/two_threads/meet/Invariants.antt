use Rattle.sq_examples.proofs.tests.two_threads.meet.Given as goal

abbrev pub ghosts-share-D-Ledger : goal.ghosts-share-D-Ledger
ghosts-share-D-Ledger g a = record { name = a.of_directory.name; parts = a.of_directory.parts }

abbrev pub ghosts-share-T-Ledger : goal.ghosts-share-T-Ledger
ghosts-share-T-Ledger g a = record { name = a.of_ledger.name; parts = a.of_ledger.parts }
