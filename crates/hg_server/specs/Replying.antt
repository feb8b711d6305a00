-- What is held back for a client.
use Rattle.std.specs.Prelude.{ℕ, List, [], ◌∷◌, ◌++◌}
use Rattle.hg_protocol.specs.declared.reply.Reply.{Reply}
use Rattle.hg_protocol.specs.Spelling.{reply_text}

-- The bytes sent for replies, one after another.
abbrev pub replies_text : List Reply → List ℕ
replies_text [] = []
replies_text (reply ∷ replies) = reply_text reply ++ replies_text replies
