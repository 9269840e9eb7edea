-- How a process stands for the policy table: its standing in a history, with the number of the site for the site of a lock. Own
-- rules, after the process locks of Chromium's ChildProcessSecurityPolicyImpl.
use Rattle.std.specs.Prelude.{List, ℕ}
use Rattle.history_entry.specs.declared.entry.Entry.{Entry}
use Rattle.history_rules.specs.Processes.{Absent, Dead, Locked, Stage, Warm, site_number, standing}
use Rattle.policy_table.specs.declared.standing.Standing.{Standing}
use Rattle.policy_table.specs.declared.standing.Standing.TheVariants as table

-- a standing by a site, told by the number that the site has in a history
abbrev pub numbered : List Entry → Stage → Standing
numbered h Absent = table.Absent
numbered h Warm = table.Warm
numbered h (Locked site) = table.Locked (site_number h site)
numbered h Dead = table.Dead

-- how process p stands in the table
unfoldable pub table_standing : List Entry → ℕ → Standing
table_standing h p = numbered h (standing h p)
