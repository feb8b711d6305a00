-- Definition: part of what `explain` promises. The life of a word, as lines.
use Rattle.std.specs.Prelude.{ℕ, zero, suc, ◌+◌, ◌*◌, Bool, true, false, ◌||◌, ◌&&◌, not, ◌==◌, List, [], ◌∷◌, ◌++◌, length, drop, codes, if◌then◌else◌, Result, Ok, Err, slice_index_or}
use Rattle.std.specs.Fmt.{decimal}
use Rattle.hg_model.specs.declared.event.Event.{Event}
use Rattle.hg_model.specs.declared.event.Event.TheVariants.{Read, Write, Alloc, Free}
use Rattle.hg_model.specs.declared.report.Report.{Report}
use Rattle.hg_model.specs.declared.word.WordState.{WordState}
use Rattle.hg_model.specs.declared.word.WordState.TheVariants as state
use Rattle.hg_model.specs.History.{overlaps}
use Rattle.hg_model.specs.declared.segment.Mark.{Mark}
use Rattle.hg_model.specs.declared.segment.Mark.TheVariants.{Got}
use Rattle.hg_model.specs.declared.segment.Segment.{Segment}
use Rattle.hg_model.specs.Segments.{of_thread, present}
use Rattle.hg_graph.specs.Entering.{entry}
use Rattle.hg_model.specs.Contents.{Content}
use Rattle.hg_model.specs.Change.{after, locks_of}
use Rattle.hg_wire.specs.declared.line.LineFault.{LineFault}
use Rattle.hg_wire.specs.declared.reader.Reading.{Reading}
use Rattle.hg_wire.specs.Reports.{access_name, predecessors_text}
use Rattle.hg_check.specs.Checking.{next_named}
use Rattle.hg_streams.specs.Texts.{line_text}
use Rattle.hg_check.specs.declared.explain.form.Form.{Form}
use Rattle.hg_check.specs.declared.explain.look.Look.{Look}
use Rattle.hg_check.specs.declared.explain.look.Look.TheVariants.{Fresh, Owned, Read as ReadBy, Modified}

-- What is compared of a state: its kind, its owner, and how many threads and candidate locks it has. (While a word is shared, threads only join and candidates only leave, so that their numbers tell whether they changed.)
abbrev pub look_of : WordState → Look
look_of state.New = Fresh
look_of (state.Exclusive s) = Owned s
look_of (state.SharedRead threads locks) = ReadBy (length threads) (length locks)
look_of (state.SharedModified threads locks) = Modified (length threads) (length locks)

-- the state is another one
abbrev pub differs : Look → Look → Bool
differs Fresh Fresh = false
differs (Owned s) (Owned g) = not (s == g)
differs (ReadBy t l) (ReadBy u m) = not ((t == u) && (l == m))
differs (Modified t l) (Modified u m) = not ((t == u) && (l == m))
differs _ _ = true

-- the word is shared and has no candidate lock
abbrev pub is_bare : Look → Bool
is_bare (ReadBy t l) = l == 0
is_bare (Modified t l) = l == 0
is_bare _ = false

-- the access or the block overlaps the word
abbrev pub concerns : ℕ → Event → Bool
concerns w (Read a) = overlaps a.at a.len w
concerns w (Write a) = overlaps a.at a.len w
concerns w (Alloc b) = overlaps b.at b.len w
concerns w (Free b) = overlaps b.at b.len w
concerns w _ = false

-- how many accesses an event is
abbrev pub accesses : Event → ℕ
accesses (Read a) = 1
accesses (Write a) = 1
accesses _ = 0

-- a thread and its segment
abbrev pub place_text : Content → ℕ → List ℕ
place_text c t = codes " thread " ++ decimal t ++ codes " segment " ++ decimal (present c.segments t)

-- an access: its thread, the thread's segment, and the locks that count
abbrev pub access_text : Content → Bool → ℕ → List ℕ
access_text c write t = access_name write ++ place_text c t ++ (codes " locks " ++ predecessors_text (locks_of c.threads t write))

-- who acts
abbrev pub acts_text : Content → Event → List ℕ
acts_text c (Read a) = access_text c false a.t
acts_text c (Write a) = access_text c true a.t
acts_text c (Alloc b) = codes " alloc" ++ place_text c b.t
acts_text c (Free b) = codes " free" ++ place_text c b.t
acts_text c _ = []

-- threads and candidate locks behind a kind
abbrev pub sets_text : List ℕ → List ℕ → List ℕ → List ℕ
sets_text kind threads locks = kind ++ (predecessors_text threads ++ (codes " candidates " ++ predecessors_text locks))

-- a word's state in words
abbrev pub state_text : WordState → List ℕ
state_text state.New = codes " state new"
state_text (state.Exclusive s) = codes " state exclusive segment " ++ decimal s
state_text (state.SharedRead threads locks) = sets_text (codes " state shared-read threads ") threads locks
state_text (state.SharedModified threads locks) = sets_text (codes " state shared-modified threads ") threads locks

-- the mark of segment s
abbrev pub mark_at : List Segment → ℕ → Mark
mark_at segments s = (slice_index_or segments s (of_thread 0 [])).mark

-- the message of a receive
abbrev pub message_text : Mark → List ℕ
message_text (Got k) = codes " by message " ++ decimal k
message_text mark = []

-- The message by which a segment came behind segment s of another thread, if it came so: the mark of the first segment of its thread that s
-- reaches. (Where s is of that thread too, that is s itself.)
abbrev pub by_text : List Segment → ℕ → ℕ → List ℕ
by_text segments s o = if entry segments s o == s then [] else message_text (mark_at segments (entry segments s o))

-- a word that segment s owned is owned by segment o
abbrev pub owner_text : List Segment → ℕ → ℕ → List ℕ
owner_text segments s o =
    if s == o then [] else (codes " ; owner changes along " ++ decimal s ++ codes " -> " ++ decimal o) ++ by_text segments s o

-- what became of the state, where the present segment of the acting thread is g
abbrev pub change_text : List Segment → Look → Look → ℕ → List ℕ
change_text segments Fresh after g = []
change_text segments before Fresh g = codes " ; new again"
change_text segments (Owned s) (Owned o) g = owner_text segments s o
change_text segments (Owned s) after g = codes " ; shared from here on: segment " ++ decimal s ++ codes " does not reach segment " ++ decimal g
change_text segments before after g = []

-- the last candidate lock is gone
abbrev pub bare_text : Look → Look → List ℕ
bare_text before after = if is_bare after && not (is_bare before) then codes " ; no common lock is left" else []

-- the number of the word's report among new ones, which are numbered from k on
abbrev pub race_text : ℕ → ℕ → List Report → List ℕ
race_text k w [] = []
race_text k w (r ∷ reports) = if r.word == 4 * w then codes " ; race " ++ decimal k else race_text (k + 1) w reports

-- the number of the word's report among those that a content keeps behind its first `kept`
abbrev pub new_race_text : ℕ → ℕ → Content → List ℕ
new_race_text kept w d = race_text (kept + 1) w (drop kept d.reports)

-- the thread that acts
abbrev pub actor_of : Event → ℕ
actor_of (Read a) = a.t
actor_of (Write a) = a.t
actor_of (Alloc b) = b.t
actor_of (Free b) = b.t
actor_of _ = 0

-- the line of the text, where lines are told
abbrev pub place_in : Form → ℕ → List ℕ
place_in form line = if form.lines then codes " line " ++ decimal line else []

-- the number of an event, and of its line
abbrev pub front_text : Form → Content → ℕ → List ℕ
front_text form c line = codes "event " ++ decimal c.events ++ place_in form line

-- what became of the state
abbrev pub changes_text : List Segment → Look → WordState → ℕ → List ℕ
changes_text segments before after g = change_text segments before (look_of after) g ++ bare_text before (look_of after)

-- what became of the state of the word w, where thread t acts, by the content after the event
abbrev pub changes_of : Look → ℕ → Content → ℕ → List ℕ
changes_of before w d t = changes_text d.segments before (d.words w) (present d.segments t)

-- The line of an event, by the content after it, how the word looked before it, and how many reports were kept before it.
abbrev pub event_line : ℕ → Form → Look → ℕ → Content → ℕ → Event → List ℕ
event_line w form before kept c line e =
    front_text form c line ++ (acts_text c e ++ (state_text (c.words w) ++ (changes_of before w c (actor_of e) ++ new_race_text kept w c)))

-- so many accesses were not shown
abbrev pub more_text : ℕ → List ℕ
more_text zero = []
more_text (suc k) = line_text (decimal (suc k) ++ codes " more accesses")

-- What an accepted event that concerns the word adds to the text, and how many accesses were not shown since the text's last line. An
-- event is shown if it changes the word's state, or if all are asked for.
abbrev pub told_by : ℕ → Form → Look → ℕ → Content → ℕ → ℕ → Event → List ℕ × ℕ
told_by w form before kept d k line e =
    if form.all || differs before (look_of (d.words w)) then (more_text k ++ line_text (event_line w form before kept d line e), 0) else ([], k + accesses e)

-- What any accepted event adds to the text, and how many accesses were not shown since, from the content before it to the one after it.
abbrev pub told_of : ℕ → Form → Content → Content → ℕ → ℕ → Event → List ℕ × ℕ
told_of w form c d k line e = if concerns w e then told_by w form (look_of (c.words w)) (length c.reports) d k line e else ([], k)

-- one line of the trace, after which the rest is told by `later`
abbrev pub told_line : ℕ → Form → Content → ℕ → ℕ → Result Event LineFault → (Content → ℕ → List ℕ) → List ℕ
told_line w form c k line (Err fault) later = later c k
told_line w form c k line (Ok e) later =
    (told_of w form c (after c (next_named c e)) k line e).0 ++ later (after c (next_named c e)) (told_of w form c (after c (next_named c e)) k line e).1

-- The life of the word w over the next n lines of a trace, all of them accepted, from this content on; k accesses were not shown so far.
abbrev pub life : ℕ → Form → Content → ℕ → ℕ → List Reading → List ℕ
life w form c k n [] = more_text k
life w form c k zero (r ∷ later) = more_text k
life w form c k (suc n) (r ∷ later) = told_line w form c k r.line r.event (λ d j. life w form d j n later)
