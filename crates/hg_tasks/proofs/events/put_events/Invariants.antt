use Rattle.std.proofs.Common.{◌≡◌, ◌++◌, take, string_bytes}
use Rattle.hg_tasks.specs.Lines.{lines}
use Rattle.hg_tasks.proofs.events.put_events.Given as goal

abbrev pub invariant-loop-named : goal.invariant-loop-named
invariant-loop-named l = string_bytes l.text ≡ string_bytes l.fn.text ++ lines (take l.named-index l.events)
