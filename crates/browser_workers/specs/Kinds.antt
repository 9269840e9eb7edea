-- Which tasks a worker asks for.
use Rattle.std.specs.Prelude.{◌==◌, ◌%◌, if◌then◌else◌, ℕ}
use Rattle.work_queue.specs.declared.task.Kind.{Kind}
use Rattle.work_queue.specs.declared.task.Kind.TheVariants.{Browser, Loader, Renderer}

-- workers 0, 1 and 2 ask for jobs, for acts and for loads, and so does each third one behind them
abbrev pub kind_of : ℕ → Kind
kind_of worker = if worker % 3 == 0 then Browser else if worker % 3 == 1 then Renderer else Loader
