use Rattle.std.proofs.Common.{◌++◌, ◌∙◌, ℕ, List, [], ◌∷◌, ap, sym}
use Rattle.std.proofs.lemmas.List.{append-nil}
use Rattle.std.proofs.lemmas.Result.{on_ok_weaker}
use Rattle.hg_protocol.specs.declared.reply.Reply.TheVariants.{Fault}
use Rattle.hg_protocol.specs.Spelling.{reply_text}
use Rattle.hg_server.specs.Replying.{replies_text}
use Rattle.hg_server.proofs.Talking.{front_behind}
use Rattle.hg_server.proofs.worker.Talk.tell_fault.Goals as goal

pub returns-clause-fault : goal.returns-clause-fault
returns-clause-fault g c goal d =
    let held = c.args.self.now.replies.items in
    front_behind c.put_reply.result c.write_out.result c.args.self.now.wire.writes c.write_out.new.self.wire.writes held c.put_reply.new.out.items (replies_text (Fault 1 ∷ [])) goal
    (on_ok_weaker c.put_reply.result (λ is. is ∙ ap (λ (t : List ℕ). held ++ t) (sym (append-nil (reply_text (Fault 1))))) c.put_reply.ensures.ok)
    c.put_reply.ensures.err c.write_out.ensures.took c.write_out.ensures.torn d
