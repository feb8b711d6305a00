-- The life of a word is its story.
use Rattle.std.proofs.Common.{◌≡◌, ℕ, zero, suc, ◌+◌, Bool, true, false, cond, ◌||◌, nat_eq, List, [], ◌∷◌, ◌++◌, length, drop, map, codes, Result, Ok, Err, refl, sym, ap, subst, ◌∙◌, ⊎_elim, arith}
use Rattle.std.proofs.lemmas.Bool.{eqb-true, false≢true}
use Rattle.std.proofs.lemmas.List.{append-nil, length-map}
use Rattle.std.specs.List.{list_any}
use Rattle.std.specs.Fmt.{decimal}
use Rattle.hg_streams.specs.Texts.{line_text}
use Rattle.hg_model.specs.declared.event.Event.{Event}
use Rattle.hg_model.specs.declared.event.Event.TheVariants.{Fork, Join, Lock, RdLock, Unlock, Read, Write, Alloc, Free, Send, Recv}
use Rattle.hg_model.specs.declared.event.Named.{Named}
use Rattle.hg_model.specs.declared.segment.Segment.{Segment}
use Rattle.hg_model.specs.declared.verdict.Verdict.{Verdict}
use Rattle.hg_model.specs.declared.verdict.Verdict.TheVariants.{Accept, Duplicate, Refuse}
use Rattle.hg_model.specs.Contents.{Content, events_of, summary, thread_of, threads_of}
use Rattle.hg_model.specs.Change.{empty_content, locks_of}
use Rattle.hg_model.specs.Locks.{counted, held}
use Rattle.hg_model.specs.Segments.{present, segments_of, used}
use Rattle.hg_model.specs.Verdicts.{IsAccepted, standing_of, verdict}
use Rattle.hg_model.proofs.Accepted.{passes}
use Rattle.hg_model.proofs.Central.{summary_step}
use Rattle.hg_sets.specs.Interning.{Table, first_table}
use Rattle.hg_wire.specs.declared.line.LineFault.{LineFault}
use Rattle.hg_wire.specs.declared.reader.Reading.{Reading}
use Rattle.hg_wire.specs.Reports.{access_name, predecessors_text}
use Rattle.hg_wire.specs.Streams.{readings}
use Rattle.hg_reading.specs.declared.ending.Ending.{Ending}
use Rattle.hg_check.specs.Checking.{Answered, ChecksTo, IsRead, LeadsTo, next_named}
use Rattle.hg_check.specs.declared.explain.form.Form.{Form}
use Rattle.hg_check.specs.Life.{accesses, actor_of, acts_text, changes_text, concerns, differs, event_line, life, look_of, more_text, place_in, race_text, state_text, told_line, told_of}
use Rattle.hg_check.specs.LifeLaws.{acts_in, kept_in, line_in, segment_text, state_in, story, story_line, told_in}

-- the locks that count, looked up among the threads
locks_at : (past : List Event) (us : List ℕ) (t : ℕ) (write : Bool) → list_any (λ u. nat_eq u t) us ≡ true → locks_of (map (thread_of past) us) t write ≡ counted write (held past t)
locks_at past [] t write h = absurd (false≢true h)
locks_at past (u ∷ us) t write h =
    elim (nat_eq u t) as (λ b. nat_eq u t ≡ b → (b || list_any (λ u. nat_eq u t) us) ≡ true → cond b (counted write (held past u)) (locks_of (map (thread_of past) us) t write) ≡ counted write (held past t)) [
      | true ↦ λ same _. ap (λ n. counted write (held past n)) (eqb-true u t same)
      | false ↦ λ _ later. locks_at past us t write later
    ] refl h

-- an access by a thread in these segments, under these locks
abbrev access_at : List Segment → Bool → ℕ → List ℕ → List ℕ
access_at segments write t locks = access_name write ++ segment_text t (present segments t) ++ (codes " locks " ++ predecessors_text locks)

access_same : (past : List Event) (write : Bool) (t : ℕ) → list_any (λ u. nat_eq u t) (used past) ≡ true
    → access_at (segments_of past ++ []) write t (locks_of (threads_of past) t write) ≡ access_at (segments_of past) write t (counted write (held past t))
access_same past write t is_used =
    ap (λ segments. access_at segments write t (locks_of (threads_of past) t write)) (append-nil (segments_of past))
    ∙ ap (λ locks. access_at (segments_of past) write t locks) (locks_at past (used past) t write is_used)

-- the line of an event is that of its item, where the event opens no segment
line_by : (w : ℕ) (form : Form) (line : ℕ) (past : List Named) (n : Named) → acts_text (summary (n ∷ past)) n.event ≡ acts_in (events_of past) n.event
    → (summary (n ∷ past)).segments ≡ segments_of (events_of past)
    → event_line w form (look_of (state_in w (events_of past))) (length (kept_in (events_of past))) (summary (n ∷ past)) line n.event ≡ line_in w form (events_of past) line n.event
line_by w form line past n acts segment =
    let evs = events_of past in
    let before = look_of (state_in w evs) in
    let after_it = state_in w (n.event ∷ evs) in
    let race = race_text (length (kept_in evs) + 1) w (drop (length (kept_in evs)) (kept_in (n.event ∷ evs))) in
    let segments = (summary (n ∷ past)).segments in
    ap (λ (m : ℕ). (codes "event " ++ decimal m ++ place_in form line) ++ (acts_text (summary (n ∷ past)) n.event ++ (state_text after_it ++ (changes_text segments before after_it (present segments (actor_of n.event)) ++ race))))
    (ap (λ (m : ℕ). suc m) (sym (length-map past (λ (x : Named). x.event))))
    ∙ (ap (λ (x : List ℕ). (codes "event " ++ decimal (suc (length evs)) ++ place_in form line) ++ (x ++ (state_text after_it ++ (changes_text segments before after_it (present segments (actor_of n.event)) ++ race)))) acts
    ∙ ap (λ (g : List Segment). (codes "event " ++ decimal (suc (length evs)) ++ place_in form line) ++ (acts_in evs n.event ++ (state_text after_it ++ (changes_text g before after_it (present g (actor_of n.event)) ++ race)))) segment)

told_by_line : (w : ℕ) (form : Form) (k line : ℕ) (past : List Named) (n : Named)
    → event_line w form (look_of (state_in w (events_of past))) (length (kept_in (events_of past))) (summary (n ∷ past)) line n.event ≡ line_in w form (events_of past) line n.event
    → told_of w form (summary past) (summary (n ∷ past)) k line n.event ≡ told_in w form (events_of past) k line n.event
told_by_line w form k line past n same =
    ap (λ (x : List ℕ). cond {A = List ℕ × ℕ} (concerns w n.event)
    (cond {A = List ℕ × ℕ} (form.all || differs (look_of (state_in w (events_of past))) (look_of (state_in w (n.event ∷ events_of past)))) (more_text k ++ line_text x, 0) ([], k + accesses n.event)) ([], k)) same

-- what an accepted event adds is told by its item
told_same : (w : ℕ) (form : Form) (k line : ℕ) (past : List Named) (number : ℕ) (e : Event) → verdict (standing_of (summary past)) (record { source = 0; number = number; event = e }) ≡ Accept
    → told_of w form (summary past) (summary ((record { source = 0; number = number; event = e }) ∷ past)) k line e ≡ told_in w form (events_of past) k line e
told_same w form k line past number (Fork p c) ok = refl
told_same w form k line past number (Join p c) ok = refl
told_same w form k line past number (Lock t l) ok = refl
told_same w form k line past number (RdLock t l) ok = refl
told_same w form k line past number (Unlock t l) ok = refl
told_same w form k line past number (Send t m) ok = refl
told_same w form k line past number (Recv t m) ok = refl
told_same w form k line past number (Read a) ok =
    let n : Named = record { source = 0; number = number; event = Read a } in
    told_by_line w form k line past n (line_by w form line past n (access_same (events_of past) false a.t (passes past n ok).actor_used) (append-nil (segments_of (events_of past))))
told_same w form k line past number (Write a) ok =
    let n : Named = record { source = 0; number = number; event = Write a } in
    told_by_line w form k line past n (line_by w form line past n (access_same (events_of past) true a.t (passes past n ok).actor_used) (append-nil (segments_of (events_of past))))
told_same w form k line past number (Alloc b) ok =
    let n : Named = record { source = 0; number = number; event = Alloc b } in
    let same = append-nil (segments_of (events_of past)) in
    told_by_line w form k line past n (line_by w form line past n (ap (λ segments. codes " alloc" ++ segment_text b.t (present segments b.t)) same) same)
told_same w form k line past number (Free b) ok =
    let n : Named = record { source = 0; number = number; event = Free b } in
    let same = append-nil (segments_of (events_of past)) in
    told_by_line w form k line past n (line_by w form line past n (ap (λ segments. codes " free" ++ segment_text b.t (present segments b.t)) same) same)

-- one event more
went : (w : ℕ) (form : Form) (k line n : ℕ) (past : List Named) (e : Event) (later : List Reading) → IsAccepted past → verdict (standing_of (summary past)) (next_named (summary past) e) ≡ Accept
    → ((j : ℕ) → life w form (summary (next_named (summary past) e ∷ past)) j n later ≡ story w form (next_named (summary past) e ∷ past) j n later)
    → told_line w form (summary past) k line (Ok e) (λ d j. life w form d j n later) ≡ story_line w form past k line (Ok e) (λ trace j. story w form trace j n later)
went w form k line n past e later accepted ok on =
    let named = next_named (summary past) e in
    let told = told_of w form (summary past) (summary (named ∷ past)) k line e in
    ap (λ (d : Content). (told_of w form (summary past) d k line e).0 ++ life w form d (told_of w form (summary past) d k line e).1 n later) (sym (summary_step named past (accepted, ok)))
    ∙ (ap (λ x. told.0 ++ x) (on told.1)
    ∙ ap (λ (x : List ℕ × ℕ). x.0 ++ story w form (named ∷ past) x.1 n later) (told_same w form k line past ((summary past).last 0 + 1) e ok))

stops_not : (n : ℕ) (past : List Named) (last : Content) → suc n + length past ≡ last.events → last ≡ summary past → ⊥
stops_not n past last count same = let events : last.events ≡ length past = ap (λ (x : Content). x.events) same in omega (arith, count, events)

answered : (v : Verdict) (w : ℕ) (form : Form) (k n : ℕ) (r : Reading) (e : Event) (later : List Reading) (t : Table) (past : List Named) (last : Content) (end : Ending)
    → ((u : Table) (more : List Named) (j : ℕ) → IsAccepted more → LeadsTo later u (summary more) last end → n + length more ≡ last.events → life w form (summary more) j n later ≡ story w form more j n later)
    → IsAccepted past → verdict (standing_of (summary past)) (next_named (summary past) e) ≡ v → suc n + length past ≡ last.events
    → Answered v t (summary past) e r.line (λ u d. LeadsTo later u d last end) last end
    → told_line w form (summary past) k r.line (Ok e) (λ d j. life w form d j n later) ≡ story_line w form past k r.line (Ok e) (λ trace j. story w form trace j n later)
answered Accept w form k n r e later t past last end on ok v count h =
    ⊎_elim
    (λ next. went w form k r.line n past e later ok v
    (λ j. on h.0 (next_named (summary past) e ∷ past) j (ok, v)
    (subst (λ (d : Content). LeadsTo later h.0 d last end) (sym (summary_step (next_named (summary past) e) past (ok, v))) next.1) (omega (arith, count))))
    (λ full. absurd (stops_not n past last count full.1.0))
    h.1
answered (Duplicate x) w form k n r e later t past last end on ok v count h = absurd h
answered (Refuse x) w form k n r e later t past last end on ok v count h = absurd (stops_not n past last count h.0)

was_read : (event : Result Event LineFault) (w : ℕ) (form : Form) (k n : ℕ) (r : Reading) (later : List Reading) (t : Table) (past : List Named) (last : Content) (end : Ending)
    → ((u : Table) (more : List Named) (j : ℕ) → IsAccepted more → LeadsTo later u (summary more) last end → n + length more ≡ last.events → life w form (summary more) j n later ≡ story w form more j n later)
    → IsAccepted past → suc n + length past ≡ last.events → IsRead event t (summary past) r.line (λ u d. LeadsTo later u d last end) last end
    → told_line w form (summary past) k r.line event (λ d j. life w form d j n later) ≡ story_line w form past k r.line event (λ trace j. story w form trace j n later)
was_read (Err fault) w form k n r later t past last end on ok count h = absurd (stops_not n past last count h.0)
was_read (Ok e) w form k n r later t past last end on ok count h = answered (verdict (standing_of (summary past)) (next_named (summary past) e)) w form k n r e later t past last end on ok refl count h

story_of : (w : ℕ) (form : Form) (readings : List Reading) (t : Table) (past : List Named) (last : Content) (end : Ending) (k n : ℕ) → IsAccepted past → LeadsTo readings t (summary past) last end
    → n + length past ≡ last.events → life w form (summary past) k n readings ≡ story w form past k n readings
story_of w form [] t past last end k n ok h count = refl
story_of w form (r ∷ later) t past last end k zero ok h count = refl
story_of w form (r ∷ later) t past last end k (suc n) ok h count =
    was_read r.event w form k n r later t past last end (λ u more j accepted l same. story_of w form later u more last end j n accepted l same) ok count h

pub life_is_story : (w : ℕ) (form : Form) (bytes : List ℕ) (c : Content) (end : Ending) → ChecksTo bytes c end → life w form empty_content 0 c.events (readings bytes) ≡ story w form [] 0 c.events (readings bytes)
life_is_story w form bytes c end h = story_of w form (readings bytes) (first_table 262144) [] c end 0 c.events tt h (omega arith)
