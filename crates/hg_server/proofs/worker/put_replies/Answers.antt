use Rattle.std.proofs.Common.{◌≡◌, ◌+◌, ◌++◌, [], ◌∷◌, ◌∙◌, ℕ, List, drop, ap, sym, append_assoc, arith}
use Rattle.std.proofs.lemmas.List.{append-nil, drop_all, drop_more}
use Rattle.hg_protocol.specs.declared.reply.Reply.{Reply}
use Rattle.hg_protocol.specs.Spelling.{reply_text}
use Rattle.hg_server.specs.Replying.{replies_text}
use Rattle.hg_server.proofs.worker.put_replies.Goals as goal

pub loop-reply-preserved : goal.loop-reply-preserved
loop-reply-preserved c =
    let replies = c.args.replies.now in
    let i = c.loop-reply.reply-index in
    let reply = c.reply-item.result in
    let before = c.loop-reply.held.items in
    let later = replies_text (drop (i + 1) replies) in
    let next : drop i replies ≡ reply ∷ drop (i + 1) replies = drop_more replies i reply c.loop-reply-test.true ∙ ap (λ (r : Reply). r ∷ drop (i + 1) replies) (sym c.reply-item.is) in
    ap (λ (text : List ℕ). text ++ later) c.in-Ok.ensures.ok ∙ append_assoc before (reply_text reply) later ∙ ap (λ (l : List Reply). before ++ replies_text l) (sym next) ∙ c.loop-reply.invariant

pub returns-in_default-clause-front : goal.returns-in_default-clause-front
returns-in_default-clause-front c =
    let rest = replies_text (drop c.loop-reply.reply-index c.args.replies.now) in (rest, ap (λ (text : List ℕ). text ++ rest) c.in_default.ensures.err ∙ c.loop-reply.invariant)

pub returns : goal.returns
returns c =
    let replies = c.args.replies.now in
    let items = c.loop-reply.held.items in
    let whole : items ≡ c.args.held.now.items ++ replies_text replies = sym (append-nil items) ∙ ap (λ (l : List Reply). items ++ replies_text l) (sym (drop_all c.loop-reply.reply-index replies (omega arith))) ∙ c.loop-reply.invariant in
    record { all = λ is. whole; front = ([], append-nil items ∙ whole) }
