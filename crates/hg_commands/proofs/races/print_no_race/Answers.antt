use Rattle.std.proofs.Common.{[], codes}
use Rattle.hg_streams.specs.Texts.{number_text}
use Rattle.hg_streams.specs.Written.{Took}
use Rattle.hg_streams.proofs.Printed.{appends_on, due_at_first, due_flushed, due_line, took_by_flush}
use Rattle.hg_commands.specs.Storing.{end_text}
use Rattle.hg_commands.proofs.races.print_no_race.Goals as goal

pub returns-clause-printed : goal.returns-clause-printed
returns-clause-printed g c =
    let old = c.args.output.now.calls in
    let mid = c.print_number.new.output.calls in
    let line = number_text (codes "no race ") c.args.number in
    let end = end_text g.D.Disk c.args.store.now in
    let first : Took old mid line = c.in_ok-print_number.ensures.printed in (
      appends_on old mid c.flush.new.self.calls line end first
          (due_flushed mid c.write_out.new.output.calls c.flush.new.self.calls c.write_out.new.held.items end c.in_ok-write_out.ensures.none
          (c.in_ok-write_out.ensures.printed mid [] end
          (due_line mid mid c.new-held.result.items c.hold_end_line.new.held.items end [] c.in_ok-hold_end_line.ensures.ok (due_at_first mid c.new-held.result.items c.new-held.ensures.items)))
          (took_by_flush c.write_out.new.output.calls c.flush.new.self.calls c.in_ok-flush.ensures.calls)),
      (c.write_out.new.output.calls, c.in_ok-flush.ensures.calls),
    )
