use Rattle.sq_server.proofs.serve.serve.Given as goal

abbrev pub ghosts-serve_named-D-Ledger : goal.ghosts-serve_named-D-Ledger
ghosts-serve_named-D-Ledger g a = record { name = a.blanks.directory.name; parts = a.blanks.directory.parts }

abbrev pub ghosts-serve_named-T-Ledger : goal.ghosts-serve_named-T-Ledger
ghosts-serve_named-T-Ledger g a = record { name = a.blanks.ledger.name; parts = a.blanks.ledger.parts }
