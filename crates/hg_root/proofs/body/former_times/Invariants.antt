use Rattle.std.proofs.Common.{◌≡◌, ◌-◌}
use Rattle.hg_root.specs.declared.form.Form.TheVariants.{Former}
use Rattle.hg_root.specs.Reading.{segment_at, times}
use Rattle.hg_root.proofs.Times.{with_front}
use Rattle.hg_root.proofs.body.former_times.Given as goal

abbrev pub invariant-loop : goal.invariant-loop
invariant-loop l = with_front (segment_at Former) l.segments.items (times (segment_at Former) (l.count - l.counter) l.rest) ≡ times (segment_at Former) l.count l.bytes
