use Rattle.seat_calls.proofs.journals.run.Given as goal

-- the row of the journal that was just made
abbrev pub ghosts-run_at : goal.ghosts-run_at
ghosts-run_at g a = record { cells = a.journal.now.row }
