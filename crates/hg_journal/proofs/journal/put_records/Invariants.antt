use Rattle.std.proofs.Common.{◌≤◌, vec_capacity}
use Rattle.hg_journal.proofs.Filling.{IsFilled}
use Rattle.hg_journal.proofs.journal.put_records.Given as goal

abbrev pub invariant-loop-event : goal.invariant-loop-event
invariant-loop-event l = record { filled : IsFilled l.events l.event-index l.body.items; room : 25600 ≤ vec_capacity l.body }
