use Rattle.sab_race.proofs.locked.run_locked.Given as goal

abbrev pub ghosts-run_named : goal.ghosts-run_named
ghosts-run_named g a = record { plan = a.plan; spins = a.spins }
