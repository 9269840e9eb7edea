use Rattle.browser_workers.proofs.run.run_workers.Given as goal

-- the script of the run
abbrev pub ghosts-run_named : goal.ghosts-run_named
ghosts-run_named g a = record { script = a.script.now }
