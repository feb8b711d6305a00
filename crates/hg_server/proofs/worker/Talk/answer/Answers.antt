use Rattle.std.proofs.Common.{rules, ◌≡◌, ◌++◌, ◌∙◌, List, [], ap, subst}
use Rattle.std.proofs.lemmas.List.{append-nil}
use Rattle.hg_protocol.specs.declared.reply.Reply.{Reply}
use Rattle.hg_desk.specs.Conversation.{WasAnswered}
use Rattle.hg_desk.specs.declared.desk.Stage.{Stage}
use Rattle.hg_server.specs.Replying.{replies_text}
use Rattle.hg_server.proofs.Talking.{answered_on, held_on}
use Rattle.hg_server.proofs.worker.Talk.answer.Goals as goal

pub returns-clause-answered : goal.returns-clause-answered
returns-clause-answered g c is first waiting tail p =
    let start = g.A.Opening.start in
    let me = c.args.self.now in
    let items = c.in-Ok.field-0.replies.items in
    let new = c.put_replies.new.held.items in
    let turn = c.args.turn.now in
    let a = subst (λ (d : Stage). WasAnswered g.D.Disk start d c.args.seat.now.share c.hold.new.share turn c.in-Ok.field-0.desk items c.in-Ok.field-0.events) c.replace.ensures.value c.in-Ok.ensures.1 in
    let q = answered_on g.D.Disk start first me.desk c.in-Ok.field-0.desk me.wire.reads me.wire.writes me.replies.items turn waiting tail items c.in-Ok.field-0.events c.args.seat.now.share c.hold.new.share a p in
    let text : me.replies.items ++ replies_text c.as_slice-replies.result.now ≡ me.replies.items ++ replies_text items = ap (λ (l : List Reply). me.replies.items ++ replies_text l) c.as_slice-replies.ensures.value in
    let whole : new ≡ me.replies.items ++ replies_text c.as_slice-replies.result.now = search rules in
    held_on g.D.Disk start first c.in-Ok.field-0.desk c.hold.new.share me.wire.reads me.wire.writes me.replies.items new [] (replies_text items) waiting tail (append-nil new ∙ whole ∙ text) q

pub returns-clause-cut : goal.returns-clause-cut
returns-clause-cut g c first waiting tail p =
    let start = g.A.Opening.start in
    let me = c.args.self.now in
    let items = c.in-Ok.field-0.replies.items in
    let new = c.put_replies.new.held.items in
    let turn = c.args.turn.now in
    let a = subst (λ (d : Stage). WasAnswered g.D.Disk start d c.args.seat.now.share c.hold.new.share turn c.in-Ok.field-0.desk items c.in-Ok.field-0.events) c.replace.ensures.value c.in-Ok.ensures.1 in
    let q = answered_on g.D.Disk start first me.desk c.in-Ok.field-0.desk me.wire.reads me.wire.writes me.replies.items turn waiting tail items c.in-Ok.field-0.events c.args.seat.now.share c.hold.new.share a p in
    let text : me.replies.items ++ replies_text c.as_slice-replies.result.now ≡ me.replies.items ++ replies_text items = ap (λ (l : List Reply). me.replies.items ++ replies_text l) c.as_slice-replies.ensures.value in
    let front = c.put_replies.ensures.front in
    (c.in-Ok.field-0.desk, front.0, waiting, tail, held_on g.D.Disk start first c.in-Ok.field-0.desk c.hold.new.share me.wire.reads me.wire.writes me.replies.items new front.0 (replies_text items) waiting tail (front.1 ∙ text) q)

pub returns-then-not-put_replies-clause-cut : goal.returns-then-not-put_replies-clause-cut
returns-then-not-put_replies-clause-cut g c first waiting tail p =
    let start = g.A.Opening.start in
    let me = c.args.self.now in
    let items = c.in-Ok.field-0.replies.items in
    let new = c.put_replies.new.held.items in
    let turn = c.args.turn.now in
    let a = subst (λ (d : Stage). WasAnswered g.D.Disk start d c.args.seat.now.share c.hold.new.share turn c.in-Ok.field-0.desk items c.in-Ok.field-0.events) c.replace.ensures.value c.in-Ok.ensures.1 in
    let q = answered_on g.D.Disk start first me.desk c.in-Ok.field-0.desk me.wire.reads me.wire.writes me.replies.items turn waiting tail items c.in-Ok.field-0.events c.args.seat.now.share c.hold.new.share a p in
    let text : me.replies.items ++ replies_text c.as_slice-replies.result.now ≡ me.replies.items ++ replies_text items = ap (λ (l : List Reply). me.replies.items ++ replies_text l) c.as_slice-replies.ensures.value in
    let front = c.put_replies.ensures.front in
    (c.in-Ok.field-0.desk, front.0, waiting, tail, held_on g.D.Disk start first c.in-Ok.field-0.desk c.hold.new.share me.wire.reads me.wire.writes me.replies.items new front.0 (replies_text items) waiting tail (front.1 ∙ text) q)
