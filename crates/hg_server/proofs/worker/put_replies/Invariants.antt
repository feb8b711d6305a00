use Rattle.std.proofs.Common.{◌≡◌, ◌++◌, drop}
use Rattle.hg_server.specs.Replying.{replies_text}
use Rattle.hg_server.proofs.worker.put_replies.Given as goal

abbrev pub invariant-loop-reply : goal.invariant-loop-reply
invariant-loop-reply l = l.held.items ++ replies_text (drop l.reply-index l.replies) ≡ l.initial.held.items ++ replies_text l.replies
