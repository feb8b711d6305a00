use Rattle.std.proofs.Common.{Err, Ok, sym, subst}
use Rattle.std.proofs.lemmas.Result.{err_from_is_err_and}
use Rattle.hg_store.specs.Shown.{live}
use Rattle.hg_streams.proofs.Printed.{always_err}
use Rattle.hg_reading.specs.Taking.{AlwaysSettled}
use Rattle.hg_commands.specs.FeedRunning.{Feeds, place}
use Rattle.hg_commands.proofs.FeedWhole.{fails, feeds, front, kept, way}
use Rattle.hg_commands.proofs.lines.Feeding.feed_lines.Goals as goal

pub returns-in_err-stop-clause-front : goal.returns-in_err-stop-clause-front
returns-in_err-stop-clause-front g c =
    always_err _ (front g.D.Disk _ AlwaysSettled (λ s calls. place s.store s.fed calls) (λ s. s.moments) (λ a b at_a at_b lines r h. h) c.args.input.now.calls c.read_side_by_side.new.input.calls c.args.self.now c.read_side_by_side.new.sink
    c.args.output.now.calls c.read_side_by_side.new.output.calls c.in_err-stop.field-0.0 c.requires.ready c.requires.start c.in_err-stop.ensures)

pub returns-in_err-stop-clause-cause : goal.returns-in_err-stop-clause-cause
returns-in_err-stop-clause-cause g c =
    let q = err_from_is_err_and c.from_residual.result c.from_residual.ensures.1 in
    rw (q.1, q.2)
    (fails g.D.Disk _ AlwaysSettled (λ s calls. place s.store s.fed calls) (λ s. s.moments) (λ a b at_a at_b lines r h. h) c.args.input.now.calls c.read_side_by_side.new.input.calls c.args.self.now c.read_side_by_side.new.sink
    c.args.output.now.calls c.read_side_by_side.new.output.calls c.in_err-stop.field-0.0 c.in_err-stop.ensures)

pub returns-in_err-stop-clause-kept : goal.returns-in_err-stop-clause-kept
returns-in_err-stop-clause-kept g c =
    kept g.D.Disk _ AlwaysSettled (λ s calls. place s.store s.fed calls) (λ s. s.moments) (λ a b at_a at_b lines r h. h) c.args.input.now.calls c.read_side_by_side.new.input.calls c.args.self.now c.read_side_by_side.new.sink
    c.args.output.now.calls c.read_side_by_side.new.output.calls (Err c.in_err-stop.field-0.0) c.in_err-stop.ensures

pub returns-clause-feeds : goal.returns-clause-feeds
returns-clause-feeds g c =
    subst (λ end. Feeds g.D.Disk c.args.input.now.calls c.read_side_by_side.new.input.calls c.args.self.now.fed.source c.args.self.now.store.detector.sets (live g.D.Disk c.args.self.now.store) (live g.D.Disk c.read_side_by_side.new.sink.store) end)
    (sym c.ended.ensures)
    (feeds g.D.Disk _ AlwaysSettled (λ s calls. place s.store s.fed calls) (λ s. s.moments) (λ a b at_a at_b lines r h. h) c.args.input.now.calls c.read_side_by_side.new.input.calls c.args.self.now c.read_side_by_side.new.sink
    c.args.output.now.calls c.read_side_by_side.new.output.calls c.in_ok-stop.stop c.requires.start c.in_ok-stop.ensures)

pub returns-in_err-stop-clause-way : goal.returns-in_err-stop-clause-way
returns-in_err-stop-clause-way g c =
    way g.D.Disk _ AlwaysSettled (λ s calls. place s.store s.fed calls) (λ s. s.moments) (λ a b at_a at_b lines r h. h) c.args.input.now.calls c.read_side_by_side.new.input.calls c.args.self.now c.read_side_by_side.new.sink
    c.args.output.now.calls c.read_side_by_side.new.output.calls (Err c.in_err-stop.field-0.0) c.requires.ready c.requires.start c.in_err-stop.ensures

pub returns-clause-way : goal.returns-clause-way
returns-clause-way g c =
    way g.D.Disk _ AlwaysSettled (λ s calls. place s.store s.fed calls) (λ s. s.moments) (λ a b at_a at_b lines r h. h) c.args.input.now.calls c.read_side_by_side.new.input.calls c.args.self.now c.read_side_by_side.new.sink
    c.args.output.now.calls c.read_side_by_side.new.output.calls (Ok c.in_ok-stop.stop) c.requires.ready c.requires.start c.in_ok-stop.ensures
