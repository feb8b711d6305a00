use Rattle.std.specs.Prelude.{Some}
use Rattle.hg_store.specs.Shown.{live}
use Rattle.hg_desk.specs.Going.{began}
use Rattle.hg_server.proofs.serving.serve_and_print.Given as goal

abbrev pub ghosts-serve_by-A-Ledger : goal.ghosts-serve_by-A-Ledger
ghosts-serve_by-A-Ledger g a = record { name = a.accepted.name; parts = a.accepted.parts }

abbrev pub ghosts-serve_by-A-Column : goal.ghosts-serve_by-A-Column
ghosts-serve_by-A-Column g a = record { opening = (live g.D.Disk a.store).events }

abbrev pub ghosts-serve_by-A-Opening : goal.ghosts-serve_by-A-Opening
ghosts-serve_by-A-Opening g a = record { start = Some (began g.D.Disk a.store) }

abbrev pub ghosts-serve_by-B-Ledger : goal.ghosts-serve_by-B-Ledger
ghosts-serve_by-B-Ledger g a = record { name = a.durable.name; parts = a.durable.parts }

abbrev pub ghosts-serve_by-B-Column : goal.ghosts-serve_by-B-Column
ghosts-serve_by-B-Column g a = record { opening = a.store.durable }

abbrev pub ghosts-serve_by-A-Room : goal.ghosts-serve_by-A-Room
ghosts-serve_by-A-Room g a = record { table = a.acks }
