use Rattle.ms_server.proofs.crew.run_workers.Given as goal

abbrev pub ghosts-run_posts : goal.ghosts-run_posts
ghosts-run_posts g a = record { table = a.turns.now.table.shared.table_id }
