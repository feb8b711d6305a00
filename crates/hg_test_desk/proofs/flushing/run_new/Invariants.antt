use Rattle.hg_test_desk.proofs.flushing.run_new.Given as goal

abbrev pub ghosts-run_over-A-Ledger : goal.ghosts-run_over-A-Ledger
ghosts-run_over-A-Ledger g a = record { name = a.accepted.name; parts = a.accepted.parts }

abbrev pub ghosts-run_over-A-Column : goal.ghosts-run_over-A-Column
ghosts-run_over-A-Column g a = record { opening = 0 }

abbrev pub ghosts-run_over-B-Ledger : goal.ghosts-run_over-B-Ledger
ghosts-run_over-B-Ledger g a = record { name = a.durable.name; parts = a.durable.parts }

abbrev pub ghosts-run_over-B-Column : goal.ghosts-run_over-B-Column
ghosts-run_over-B-Column g a = record { opening = a.store.durable }

abbrev pub ghosts-run_over-A-Room : goal.ghosts-run_over-A-Room
ghosts-run_over-A-Room g a = record { table = a.acks }
