-- The bodies of a server's replies.
use Rattle.std.specs.Prelude.{◌≡◌, ◌⊎◌, ℕ, ◌<◌, ◌≤◌, ◌^◌, Bool, not, ◌&&◌, ◌==◌, nat_lt, List, [], ◌∷◌, ◌++◌, length, IsTrue}
use Rattle.std.specs.Int.{w64, to_be_bytes}
use Rattle.std.specs.List.{list_all}
use Rattle.hg_protocol.specs.declared.reply.TheConstants.{MOST_REPLY_LINE}
use Rattle.hg_protocol.specs.declared.reply.Reply.{Reply}
use Rattle.hg_protocol.specs.declared.reply.Reply.TheVariants.{Welcome, Accepted, Duplicate, Refused, Ack, Line, Fault, Lines, Nothing}

-- a kind and a number
abbrev pub number_body : ℕ → ℕ → List ℕ
number_body kind n = kind ∷ to_be_bytes w64 n

-- the fields of a refusal
abbrev pub refused_text : ℕ → ℕ → ℕ → List ℕ
refused_text number code expected = to_be_bytes w64 number ++ (code ∷ to_be_bytes w64 expected)

abbrev pub refused_body : ℕ → ℕ → ℕ → List ℕ
refused_body number code expected = 132 ∷ refused_text number code expected

abbrev pub line_body : List ℕ → List ℕ
line_body line = 134 ∷ line

-- The body of a reply: its kind, and its fields. The answers to Reports and Bye are no single replies, and have none.
abbrev pub reply_body : Reply → List ℕ
reply_body (Welcome last) = number_body 129 last
reply_body (Accepted number) = number_body 130 number
reply_body (Duplicate last) = number_body 131 last
reply_body (Refused number code expected) = refused_body number code expected
reply_body (Ack number) = number_body 133 number
reply_body (Line line) = line_body line
reply_body (Fault code) = 135 ∷ code ∷ []
reply_body (Lines lines) = []
reply_body Nothing = []

-- it is ASCII, and no line feed
abbrev pub is_line_byte : ℕ → Bool
is_line_byte byte = nat_lt byte 128 && not (byte == 10)

-- A line of 1 to 8,191 bytes.
pub record IsLine (line : List ℕ) : Type 0 where
  pub some : 1 ≤ length line
  pub few : length line ≤ MOST_REPLY_LINE
  pub bytes : IsTrue (list_all is_line_byte line)

-- each field is within its width, and only a gap has an expected number
abbrev pub RefusedFits : ℕ → ℕ → ℕ → Type 0
RefusedFits number code expected = (number < 2 ^ 64) × (code < 256) × (expected < 2 ^ 64) × ((code ≡ 1) ⊎ (expected ≡ 0))

-- each field is within its width, and it is a single reply
abbrev pub ReplyFits : Reply → Type 0
ReplyFits (Welcome last) = last < 2 ^ 64
ReplyFits (Accepted number) = number < 2 ^ 64
ReplyFits (Duplicate last) = last < 2 ^ 64
ReplyFits (Refused number code expected) = RefusedFits number code expected
ReplyFits (Ack number) = number < 2 ^ 64
ReplyFits (Line line) = IsLine line
ReplyFits (Fault code) = code < 256
ReplyFits (Lines lines) = ⊥
ReplyFits Nothing = ⊥

-- the bytes are this number
abbrev pub NumberIs : List ℕ → ℕ → Type 0
NumberIs bytes number = (number < 2 ^ 64) × (bytes ≡ to_be_bytes w64 number)

-- The bytes are the body of this reply.
abbrev pub ReplyIs : List ℕ → Reply → Type 0
ReplyIs bytes reply = ReplyFits reply × (bytes ≡ reply_body reply)

-- the reply is not a Line
abbrev pub IsShort : Reply → Type 0
IsShort (Welcome last) = Unit {0}
IsShort (Accepted number) = Unit {0}
IsShort (Duplicate last) = Unit {0}
IsShort (Refused number code expected) = Unit {0}
IsShort (Ack number) = Unit {0}
IsShort (Line line) = ⊥
IsShort (Fault code) = Unit {0}
IsShort (Lines lines) = Unit {0}
IsShort Nothing = Unit {0}

-- the bytes are the body of this reply, which is not a Line
abbrev pub ShortIs : List ℕ → Reply → Type 0
ShortIs bytes reply = IsShort reply × ReplyIs bytes reply
