use Rattle.sq_tests_service.proofs.tests.stories.tell.Given as goal

abbrev pub ghosts-told_by-D-Ledger : goal.ghosts-told_by-D-Ledger
ghosts-told_by-D-Ledger g a = record { name = a.of_directory.name; parts = a.of_directory.parts }

abbrev pub ghosts-told_by-T-Ledger : goal.ghosts-told_by-T-Ledger
ghosts-told_by-T-Ledger g a = record { name = a.of_ledger.name; parts = a.of_ledger.parts }
