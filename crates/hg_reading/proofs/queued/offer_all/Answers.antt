use Rattle.std.proofs.Common.{ℕ, length, sym, subst}
use Rattle.hg_reading.specs.Queueing.{IsOffered, lines_of}
use Rattle.hg_reading.proofs.Queueing.{behind_length, behind_queued}
use Rattle.hg_reading.proofs.queued.offer_all.Goals as goal

pub offer_each-requires-clause-room : goal.offer_each-requires-clause-room
offer_each-requires-clause-room g c =
    let queued = c.args.queued.now in
    subst (λ rs. g.S.Sink.may_take c.args.sink.now (length rs)) (behind_queued c.args.lines queued)
    (subst (λ (k : ℕ). g.S.Sink.may_take c.args.sink.now k) (sym (behind_length c.args.lines (lines_of queued))) c.requires.room)

pub returns : goal.returns
returns g c =
    subst (λ rs. IsOffered g.S.Sink.takes c.args.sink.now c.args.output.now.calls rs c.offer_each.result c.offer_each.new.sink c.offer_each.new.output.calls)
    (sym (behind_queued c.args.lines c.args.queued.now)) c.offer_each.ensures
