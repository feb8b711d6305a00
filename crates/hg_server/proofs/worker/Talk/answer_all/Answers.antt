use Rattle.std.proofs.Common.{rules, ◌≡◌, ◌++◌, List, [], true, false, subst, sym}
use Rattle.std.proofs.lemmas.List.{take-append-drop}
use Rattle.hg_protocol.specs.declared.frame.Frame.{Frame}
use Rattle.hg_streams.specs.declared.call.ReadCall.{ReadCall}
use Rattle.hg_server.specs.Talking.{IsAt, WasTalk}
use Rattle.hg_server.proofs.Talking.{ended}
use Rattle.hg_server.proofs.worker.Talk.answer_all.Goals as goal

pub returns-then-eq-clause-carried : goal.returns-then-eq-clause-carried
returns-then-eq-clause-carried g c first tail p =
    let start = g.A.Opening.start in
    let me = c.loop-rest.self in
    let told = c.loop-rest.seat.share in
    let turn = c.split_at.result.0.now in
    let behind = c.split_at.result.1.now in
    let joined : turn ++ behind ≡ c.loop-rest.rest.now = rw (c.split_at.ensures.front, c.split_at.ensures.back) (take-append-drop c.turn_len.result c.loop-rest.rest.now) in
    let q : IsAt g.D.Disk start first me told (turn ++ behind) tail = subst (λ (l : List Frame). IsAt g.D.Disk start first me told l tail) (sym joined) (c.loop-rest.invariant.3 first tail p) in
    c.answer-goes_on.ensures.cut first behind tail q

pub returns-then-not-goes_on-clause-carried : goal.returns-then-not-goes_on-clause-carried
returns-then-not-goes_on-clause-carried g c first tail p =
    let start = g.A.Opening.start in
    let me = c.loop-rest.self in
    let told = c.loop-rest.seat.share in
    let turn = c.split_at.result.0.now in
    let behind = c.split_at.result.1.now in
    let joined : turn ++ behind ≡ c.loop-rest.rest.now = rw (c.split_at.ensures.front, c.split_at.ensures.back) (take-append-drop c.turn_len.result c.loop-rest.rest.now) in
    let q : IsAt g.D.Disk start first me told (turn ++ behind) tail = subst (λ (l : List Frame). IsAt g.D.Disk start first me told l tail) (sym joined) (c.loop-rest.invariant.3 first tail p) in
    c.answer-goes_on.ensures.cut first behind tail q

pub returns-then-not-write_many-clause-carried : goal.returns-then-not-write_many-clause-carried
returns-then-not-write_many-clause-carried g c first tail p =
    let start = g.A.Opening.start in
    let me = c.loop-rest.self in
    let told = c.loop-rest.seat.share in
    let turn = c.split_at.result.0.now in
    let behind = c.split_at.result.1.now in
    let joined : turn ++ behind ≡ c.loop-rest.rest.now = rw (c.split_at.ensures.front, c.split_at.ensures.back) (take-append-drop c.turn_len.result c.loop-rest.rest.now) in
    let q : IsAt g.D.Disk start first me told (turn ++ behind) tail = subst (λ (l : List Frame). IsAt g.D.Disk start first me told l tail) (sym joined) (c.loop-rest.invariant.3 first tail p) in
    let went : c.answer-goes_on.result ≡ true = search rules in
    let failed : c.write_many.result ≡ false = search rules in
    let after = c.answer-goes_on.new.self in
    let told_after = c.answer-goes_on.new.seat.share in
    let writes = c.write_many.new.self.wire.writes in
    subst (λ (r : List ReadCall). WasTalk g.D.Disk start first told_after r writes) (sym c.write_many.ensures.same.0)
    (ended g.D.Disk start first after.desk told_after after.wire.reads after.wire.writes writes after.replies.items [] behind tail (c.write_many.ensures.front failed) (c.answer-goes_on.ensures.answered went first behind tail q))
