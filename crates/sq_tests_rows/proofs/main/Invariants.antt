use Rattle.sq_tests_rows.proofs.main.Given as goal

abbrev pub ghosts-answer_all-D-Ledger : goal.ghosts-answer_all-D-Ledger
ghosts-answer_all-D-Ledger g a = record { name = a.blanks.directory.name; parts = a.blanks.directory.parts }

abbrev pub ghosts-answer_all-T-Ledger : goal.ghosts-answer_all-T-Ledger
ghosts-answer_all-T-Ledger g a = record { name = a.blanks.ledger.name; parts = a.blanks.ledger.parts }
