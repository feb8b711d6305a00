-- How a word's life is told line by line.
use Rattle.std.proofs.Common.{◌≡◌, ℕ, ◌+◌, ◌<◌, ◌≤◌, ◌||◌, Bool, true, false, cond, List, [], ◌∷◌, ◌++◌, length, Result, Ok, Err, Option, Some, None, is_some, refl, sym, ap, ◌∙◌, arith}
use Rattle.std.proofs.lemmas.Bool.{ltb-false}
use Rattle.std.proofs.lemmas.List.{append-nil}
use Rattle.hg_model.specs.declared.event.Event.{Event}
use Rattle.hg_model.specs.declared.event.Access.{Access}
use Rattle.hg_model.specs.History.{overlaps}
use Rattle.hg_model.specs.declared.event.Event.TheVariants.{Fork, Join, Lock, RdLock, Unlock, Read, Write, Alloc, Free, Send, Recv}
use Rattle.hg_model.specs.declared.event.Named.{Named}
use Rattle.hg_model.specs.declared.verdict.Verdict.{Verdict}
use Rattle.hg_model.specs.declared.verdict.Verdict.TheVariants.{Accept, Duplicate, Refuse}
use Rattle.hg_model.specs.Verdicts.{Standing, bad_number, is_bad_source, is_bad_thread, standing_of, verdict}
use Rattle.hg_model.specs.Contents.{Content}
use Rattle.hg_model.specs.Change.{after, locks_of, touched, word_after}
use Rattle.hg_model.specs.Segments.{present}
use Rattle.hg_model.specs.declared.word.WordState.TheVariants.{New}
use Rattle.hg_model.proofs.Accepted.{no_cause}
use Rattle.hg_wire.specs.declared.reader.Reading.{Reading}
use Rattle.hg_reading.specs.declared.ending.Ending.{Ending}
use Rattle.hg_reading.specs.declared.ending.Ending.TheVariants.{Ended, Bad, Refused}
use Rattle.hg_model.specs.declared.verdict.Refusal.{Refusal}
use Rattle.hg_check.specs.Checking.{Answered, IsRead, LeadsTo, next_named}
use Rattle.hg_sets.specs.Interning.{Table}
use Rattle.hg_wire.specs.declared.line.LineFault.{LineFault}
use Rattle.hg_check.specs.declared.explain.look.Look.{Look}
use Rattle.hg_check.specs.declared.explain.form.Form.{Form}
use Rattle.hg_check.specs.Life.{accesses, actor_of, concerns, differs, life, look_of, more_text, told_by, told_line, told_of}
use Rattle.hg_check.specs.Telling.{Tells}

pub life_none : (w : ℕ) (form : Form) (c : Content) (k : ℕ) (rs : List Reading) → life w form c k 0 rs ≡ more_text k
life_none w form c k [] = refl
life_none w form c k (r ∷ rs) = refl

accesses_few : (e : Event) → accesses e ≤ 1
accesses_few (Fork p c) = omega arith
accesses_few (Join p c) = omega arith
accesses_few (Lock t l) = omega arith
accesses_few (RdLock t l) = omega arith
accesses_few (Unlock t l) = omega arith
accesses_few (Read a) = omega arith
accesses_few (Write a) = omega arith
accesses_few (Alloc b) = omega arith
accesses_few (Free b) = omega arith
accesses_few (Send t m) = omega arith
accesses_few (Recv t m) = omega arith

shown_few : (b : Bool) (text : List ℕ) (k m : ℕ) → m ≤ 1 → (cond {A = List ℕ × ℕ} b (text, 0) ([], k + m)).1 ≤ k + 1
shown_few true text k m few = omega arith
shown_few false text k m few = omega (arith, few)

concerned_few : (b : Bool) (told : List ℕ × ℕ) (k : ℕ) → told.1 ≤ k + 1 → (cond {A = List ℕ × ℕ} b told ([], k)).1 ≤ k + 1
concerned_few true told k few = few
concerned_few false told k few = omega arith

told_few : (w : ℕ) (form : Form) (c d : Content) (k line : ℕ) (e : Event) → (told_of w form c d k line e).1 ≤ k + 1
told_few w form c d k line e =
    concerned_few (concerns w e) (told_by w form (look_of (c.words w)) (length c.reports) d k line e) k
    (shown_few (form.all || differs (look_of (c.words w)) (look_of (d.words w))) _ k (accesses e) (accesses_few e))

-- an accepted line adds what the definition says of its event
pub tells_event : (w : ℕ) (form : Form) (c : Content) (k : ℕ) (r : Reading) (d : Content) (j : ℕ) (held kept : List ℕ) (e : Event) → r.event ≡ Ok e → d ≡ after c (next_named c e)
    → kept ≡ held ++ (told_of w form c d k r.line e).0 → j ≡ (told_of w form c d k r.line e).1 → Tells w form c k r d j held kept
tells_event w form c k r d j held kept e is content text more = record {
  added = (told_of w form c d k r.line e).0;
  held_on = text;
  counted = ap (λ (x : Content). x.events) content;
  few = λ few. let last : d.last 0 ≡ c.last 0 + 1 = ap (λ (x : Content). x.last 0) content in omega (arith, few, last, more, told_few w form c d k r.line e);
  text = λ n later.
      ap (λ x. told_line w form c k r.line x (λ x i. life w form x i n later)) is
      ∙ (ap (λ (x : Content). (told_of w form c x k r.line e).0 ++ life w form x (told_of w form c x k r.line e).1 n later) (sym content)
      ∙ ap (λ (i : ℕ). (told_of w form c d k r.line e).0 ++ life w form d i n later) (sym more));
}

-- one that does not concern the word adds nothing
pub tells_nothing : (w : ℕ) (form : Form) (c : Content) (k : ℕ) (r : Reading) (d : Content) (held : List ℕ) (e : Event) → r.event ≡ Ok e → d ≡ after c (next_named c e)
    → concerns w e ≡ false → Tells w form c k r d k held held
tells_nothing w form c k r d held e is content apart =
    let none : told_of w form c d k r.line e ≡ ([], k) = ap (λ b. cond b (told_by w form (look_of (c.words w)) (length c.reports) d k r.line e) ([], k)) apart in
    tells_event w form c k r d k held held e is content (sym (ap (λ (x : List ℕ × ℕ). held ++ x.0) none ∙ append-nil held)) (sym (ap (λ (x : List ℕ × ℕ). x.1) none))

-- and one that does adds what is told by how the word looked
pub tells_concerned : (w : ℕ) (form : Form) (c : Content) (k : ℕ) (r : Reading) (d : Content) (j : ℕ) (held kept : List ℕ) (e : Event) (before : Look) (from : ℕ) → r.event ≡ Ok e → d ≡ after c (next_named c e)
    → concerns w e ≡ true → before ≡ look_of (c.words w) → from ≡ length c.reports
    → kept ≡ held ++ (told_by w form before from d k r.line e).0 → j ≡ (told_by w form before from d k r.line e).1 → Tells w form c k r d j held kept
tells_concerned w form c k r d j held kept e before from is content meets looked counted text more =
    let same : told_by w form before from d k r.line e ≡ told_of w form c d k r.line e =
    ap (λ (x : Look). told_by w form x from d k r.line e) looked ∙ (ap (λ (x : ℕ). told_by w form (look_of (c.words w)) x d k r.line e) counted
    ∙ sym (ap (λ b. cond b (told_by w form (look_of (c.words w)) (length c.reports) d k r.line e) ([], k)) meets)) in
    tells_event w form c k r d j held kept e is content (text ∙ ap (λ (x : List ℕ × ℕ). held ++ x.0) same) (more ∙ ap (λ (x : List ℕ × ℕ). x.1) same)

-- an event that does not concern the word leaves it as it is
unmoved : (c : Content) (e : Event) (w : ℕ) → concerns w e ≡ false → word_after c e w ≡ c.words w
unmoved c (Fork p d) w apart = refl
unmoved c (Join p d) w apart = refl
unmoved c (Lock t l) w apart = refl
unmoved c (RdLock t l) w apart = refl
unmoved c (Unlock t l) w apart = refl
unmoved c (Read a) w apart = ap (λ b. cond b (touched c.segments a.t (present c.segments a.t) false (locks_of c.threads a.t false) (c.words w)) (c.words w)) apart
unmoved c (Write a) w apart = ap (λ b. cond b (touched c.segments a.t (present c.segments a.t) true (locks_of c.threads a.t true) (c.words w)) (c.words w)) apart
unmoved c (Alloc b) w apart = ap (λ x. cond x New (c.words w)) apart
unmoved c (Free b) w apart = ap (λ x. cond x New (c.words w)) apart
unmoved c (Send t m) w apart = refl
unmoved c (Recv t m) w apart = refl

pub looks_same : (w : ℕ) (c d : Content) (e : Event) → d ≡ after c (next_named c e) → concerns w e ≡ false → look_of (c.words w) ≡ look_of (d.words w)
looks_same w c d e content apart = ap look_of (sym (ap (λ (x : Content). x.words w) content ∙ unmoved c e w apart))

-- whether an access concerns a word, by whether it writes
pub access_concerns : (w : ℕ) (write : Bool) (a : Access) → concerns w (cond write (Write a) (Read a)) ≡ overlaps a.at a.len w
access_concerns w true a = refl
access_concerns w false a = refl

pub none_stopped : (x : Option Ending) → is_some x ≡ false → x ≡ None
none_stopped None h = refl
none_stopped (Some end) h = absurd (cc)

-- ---- the acting thread of an accepted event

small : (n : ℕ) → is_bad_thread n ≡ false → n < 1024
small n low = let le = ltb-false 1023 n low in omega (arith, le)

neither : (a b : Bool) → (a || b) ≡ false → b ≡ false
neither true b low = absurd (cc)
neither false b low = low

low_actor : (source : ℕ) (e : Event) → bad_number source e ≡ false → actor_of e < 1024
low_actor source (Fork p c) low = omega arith
low_actor source (Join p c) low = omega arith
low_actor source (Lock t l) low = omega arith
low_actor source (RdLock t l) low = omega arith
low_actor source (Unlock t l) low = omega arith
low_actor source (Read a) low = small a.t (neither (is_bad_source source) (is_bad_thread a.t) low)
low_actor source (Write a) low = small a.t (neither (is_bad_source source) (is_bad_thread a.t) low)
low_actor source (Alloc b) low = small b.t (neither (is_bad_source source) (is_bad_thread b.t) low)
low_actor source (Free b) low = small b.t (neither (is_bad_source source) (is_bad_thread b.t) low)
low_actor source (Send t m) low = omega arith
low_actor source (Recv t m) low = omega arith

pub actor_is_low : (s : Standing) (n : Named) → verdict s n ≡ Accept → actor_of n.event < 1024
actor_is_low s n accepts = low_actor n.source n.event (no_cause s n accepts).0

never : (line : ℕ) → Ended ≡ Bad line → ⊥
never line h = absurd (cc)

read_is_event : (event : Result Event LineFault) (t : Table) (c last : Content) (line : ℕ) (later : Table → Content → Type 0) → IsRead event t c line later last Ended → (e : Event) × (event ≡ Ok e)
read_is_event (Ok e) t c last line later h = (e, refl)
read_is_event (Err fault) t c last line later h = absurd (never line h.1)

-- a line that was accepted is no bad one
pub accepted_is_event : (r : Reading) (t new : Table) (c d : Content)
    → ((later : List Reading) (last : Content) (end : Ending) → LeadsTo later new d last end → LeadsTo (r ∷ later) t c last end) → (e : Event) × (r.event ≡ Ok e)
accepted_is_event r t new c d leads = read_is_event r.event t c d r.line (λ u x. LeadsTo [] u x d Ended) (leads [] d Ended (refl, refl))

refused_never : (line : ℕ) (r : Refusal) → Ended ≡ Refused line r → ⊥
refused_never line r h = absurd (cc)

read_is_accepted : (e : Event) (v : Verdict) (t : Table) (c last : Content) (line : ℕ) (later : Table → Content → Type 0) → Answered v t c e line later last Ended → v ≡ Accept
read_is_accepted e Accept t c last line later h = refl
read_is_accepted e (Duplicate k) t c last line later h = absurd h
read_is_accepted e (Refuse r) t c last line later h = absurd (refused_never line r h.1)

-- an event whose line was accepted was allowed
pub accepted_is_allowed : (line : ℕ) (e : Event) (t new : Table) (c d : Content)
    → ((later : List Reading) (last : Content) (end : Ending) → LeadsTo later new d last end → LeadsTo (record { line = line; event = Ok e } ∷ later) t c last end) → verdict (standing_of c) (next_named c e) ≡ Accept
accepted_is_allowed line e t new c d leads = read_is_accepted e (verdict (standing_of c) (next_named c e)) t c d line (λ u x. LeadsTo [] u x d Ended) (leads [] d Ended (refl, refl))
