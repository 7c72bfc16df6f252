use Rattle.sq_server.proofs.race.race.Given as goal

abbrev pub ghosts-raced-D-Ledger : goal.ghosts-raced-D-Ledger
ghosts-raced-D-Ledger g a = record { name = a.blanks.directory.name; parts = a.blanks.directory.parts }

abbrev pub ghosts-raced-T-Ledger : goal.ghosts-raced-T-Ledger
ghosts-raced-T-Ledger g a = record { name = a.blanks.ledger.name; parts = a.blanks.ledger.parts }
