-- What was printed.
use Rattle.std.proofs.Common.{◌≡◌, ℕ, ◌+◌, ◌<◌, Result, Ok, Err, OnErr, OnOk, List, [], ◌∷◌, ◌++◌, drop, arith, inl, inr, ⊎_elim, refl, sym, ap, subst, ◌∙◌}
use Rattle.std.proofs.lemmas.List.{append-nil, append_assoc}
use Rattle.hg_streams.specs.declared.call.WriteCall.{WriteCall}
use Rattle.hg_streams.specs.Calls.{NoneFailedSince, failed_writes, taken, torn}
use Rattle.hg_streams.specs.declared.call.ReadCall.{ReadCall}
use Rattle.hg_model.specs.declared.verdict.Refusal.{Refusal}
use Rattle.hg_model.specs.declared.verdict.Refusal.TheVariants as refusal
use Rattle.hg_streams.specs.Faults.{HasCause, HasWriteCause}
use Rattle.hg_streams.specs.Told.{told_refusal}
use Rattle.hg_streams.specs.Holding.{HoldsNext, IsDue}
use Rattle.hg_streams.specs.Written.{Took, TookFront}

none_more : (n : ℕ) → n ≡ 0 + n
none_more n = omega arith

one_more : (a b c : ℕ) → a ≡ b + c → 1 + a ≡ (1 + b) + c
one_more a b c h = omega (arith, h)

not_one : (n : ℕ) → 1 + n ≡ 0 → ⊥
not_one n h = absurd (omega (arith, h))

pub failed_on : (later now : List WriteCall) → failed_writes (later ++ now) ≡ failed_writes later + failed_writes now
failed_on [] now = none_more (failed_writes now)
failed_on (WriteCall.Took x ∷ later) now = failed_on later now
failed_on (WriteCall.Torn x ∷ later) now = one_more (failed_writes (later ++ now)) (failed_writes later) (failed_writes now) (failed_on later now)
failed_on (WriteCall.Flushed ∷ later) now = failed_on later now
failed_on (WriteCall.NotFlushed ∷ later) now = one_more (failed_writes (later ++ now)) (failed_writes later) (failed_writes now) (failed_on later now)

taken_on : (later now : List WriteCall) → taken (later ++ now) ≡ taken now ++ taken later
taken_on [] now = sym (append-nil (taken now))
taken_on (WriteCall.Took x ∷ later) now = ap (λ t. t ++ x) (taken_on later now) ∙ append_assoc (taken now) (taken later) x
taken_on (WriteCall.Torn x ∷ later) now = taken_on later now
taken_on (WriteCall.Flushed ∷ later) now = taken_on later now
taken_on (WriteCall.NotFlushed ∷ later) now = taken_on later now

none_torn : (later : List WriteCall) → failed_writes later ≡ 0 → torn later ≡ []
none_torn [] h = refl
none_torn (WriteCall.Took x ∷ later) h = none_torn later h
none_torn (WriteCall.Torn x ∷ later) h = absurd (not_one (failed_writes later) h)
none_torn (WriteCall.Flushed ∷ later) h = none_torn later h
none_torn (WriteCall.NotFlushed ∷ later) h = absurd (not_one (failed_writes later) h)

none_earlier : (later : List WriteCall) → failed_writes later ≡ 0 → failed_writes (drop 1 later) ≡ 0
none_earlier [] h = refl
none_earlier (WriteCall.Took x ∷ later) h = h
none_earlier (WriteCall.Torn x ∷ later) h = absurd (not_one (failed_writes later) h)
none_earlier (WriteCall.Flushed ∷ later) h = h
none_earlier (WriteCall.NotFlushed ∷ later) h = absurd (not_one (failed_writes later) h)

pub took_write : (now : List WriteCall) (bytes : List ℕ) → Took now (WriteCall.Took bytes ∷ now) bytes
took_write now bytes = record { later = WriteCall.Took bytes ∷ []; since = refl; whole = refl; all = refl }

pub took_by : (old new : List WriteCall) (text goal : List ℕ) → new ≡ WriteCall.Took text ∷ old → text ≡ goal → Took old new goal
took_by old new text goal is same = subst (λ t. Took old t goal) (sym is) (subst (λ t. Took old (WriteCall.Took text ∷ old) t) same (took_write old text))

pub took_flush : (now : List WriteCall) → Took now (WriteCall.Flushed ∷ now) []
took_flush now = record { later = WriteCall.Flushed ∷ []; since = refl; whole = refl; all = refl }

-- a write of what was held failed
pub front_torn : (first now : List WriteCall) (held rest goal : List ℕ) → IsDue first now held rest goal → TookFront first (WriteCall.Torn held ∷ now) goal
front_torn first now held rest goal p = record {
  later = WriteCall.Torn held ∷ p.appended.later;
  since = ap (λ t. WriteCall.Torn held ∷ t) p.appended.since;
  earlier = p.appended.whole;
  rest = rest;
  front = append_assoc (taken p.appended.later) (torn p.appended.later ++ held) rest
      ∙ ap (λ t. t ++ ((torn p.appended.later ++ held) ++ rest)) p.appended.all
      ∙ ap (λ t. p.written ++ ((t ++ held) ++ rest)) (none_torn p.appended.later p.appended.whole)
      ∙ p.whole;
}

-- what was written is a front of what is due
pub front_due : (first now : List WriteCall) (held rest goal : List ℕ) → IsDue first now held rest goal → TookFront first now goal
front_due first now held rest goal p = record {
  later = p.appended.later;
  since = p.appended.since;
  earlier = none_earlier p.appended.later p.appended.whole;
  rest = held ++ rest;
  front = ap (λ t. (t ++ torn p.appended.later) ++ (held ++ rest)) p.appended.all
      ∙ ap (λ t. (p.written ++ t) ++ (held ++ rest)) (none_torn p.appended.later p.appended.whole)
      ∙ ap (λ t. t ++ (held ++ rest)) (append-nil p.written)
      ∙ p.whole;
}

pub appends_none : (old : List WriteCall) → Took old old []
appends_none old = record { later = []; since = refl; whole = refl; all = refl }

pub appends_on : (a b c : List WriteCall) (x y : List ℕ) → Took a b x → Took b c y → Took a c (x ++ y)
appends_on a b c x y h k = record {
  later = k.later ++ h.later;
  since = k.since ∙ (ap (λ t. k.later ++ t) h.since ∙ sym (append_assoc k.later h.later a));
  whole = omega (arith, failed_on k.later h.later, h.whole, k.whole);
  all = taken_on k.later h.later ∙ (ap (λ t. t ++ taken k.later) h.all ∙ ap (λ t. x ++ t) k.all);
}

pub appends_kept : (a b c : List WriteCall) (x : List ℕ) → Took a b x → Took b c [] → Took a c x
appends_kept a b c x h k = subst (λ t. Took a c t) (append-nil x) (appends_on a b c x [] h k)

pub due_first : (old : List WriteCall) → IsDue old old [] [] []
due_first old = record { written = []; appended = appends_none old; whole = refl }

-- what was held is written
pub due_written : (first now new : List WriteCall) (held rest goal : List ℕ) → IsDue first now held rest goal → Took now new held → IsDue first new [] rest goal
due_written first now new held rest goal p h = record {
  written = p.written ++ held;
  appended = appends_on first now new p.written held p.appended h;
  whole = append_assoc p.written held rest ∙ p.whole;
}

-- what comes next is held
pub due_held : (first now : List WriteCall) (held next rest goal : List ℕ) → IsDue first now held (next ++ rest) goal → IsDue first now (held ++ next) rest goal
due_held first now held next rest goal p = record {
  written = p.written;
  appended = p.appended;
  whole = ap (λ t. p.written ++ t) (append_assoc held next rest) ∙ p.whole;
}

-- more is to come
pub due_more : (first now : List WriteCall) (held goal more : List ℕ) → IsDue first now held [] goal → IsDue first now held more (goal ++ more)
due_more first now held goal more p = record {
  written = p.written;
  appended = p.appended;
  whole = sym (append_assoc p.written held more) ∙ ap (λ t. t ++ more) (ap (λ t. p.written ++ t) (sym (append-nil held)) ∙ p.whole);
}

pub due_kept : (first now new : List WriteCall) (held rest goal : List ℕ) → IsDue first now held rest goal → Took now new [] → IsDue first new held rest goal
due_kept first now new held rest goal p h = record {
  written = p.written;
  appended = appends_kept first now new p.written p.appended h;
  whole = p.whole;
}

-- nothing is held, and nothing is to come
pub due_done : (first now : List WriteCall) (goal : List ℕ) → IsDue first now [] [] goal → Took first now goal
due_done first now goal p = subst (λ t. Took first now t) (sym (append-nil p.written) ∙ p.whole) p.appended

-- one line of several is held
pub holds_next : (old new more line less : List ℕ) → new ≡ old ++ line → more ≡ line ++ less → HoldsNext old new more less
holds_next old new more line less is first_of first now rest goal p =
    subst (λ t. IsDue first now t (less ++ rest) goal) (sym is)
    (due_held first now old line (less ++ rest) goal
    (subst (λ t. IsDue first now old t goal) (ap (λ t. t ++ rest) first_of ∙ append_assoc line less rest) p))

-- the last line is held
pub due_line : (first now : List WriteCall) (held new line goal : List ℕ) → new ≡ held ++ line → IsDue first now held [] goal → IsDue first now new [] (goal ++ line)
due_line first now held new line goal is p =
    subst (λ t. IsDue first now t [] (goal ++ line)) (sym is)
    (due_held first now held line [] (goal ++ line)
    (subst (λ t. IsDue first now held t (goal ++ line)) (sym (append-nil line)) (due_more first now held goal line p)))

-- all is written and handed on
pub due_flushed : (first now new : List WriteCall) (held goal : List ℕ) → held ≡ [] → IsDue first now held [] goal → Took now new [] → Took first new goal
due_flushed first now new held goal none p kept =
    appends_kept first now new goal (due_done first now goal (subst (λ t. IsDue first now t [] goal) none p)) kept

-- nothing is held at first
pub due_at_first : (old : List WriteCall) (held : List ℕ) → held ≡ [] → IsDue old old held [] []
due_at_first old held none = subst (λ t. IsDue old old t [] []) (sym none) (due_first old)

pub took_by_flush : (old new : List WriteCall) → new ≡ WriteCall.Flushed ∷ old → Took old new []
took_by_flush old new is = subst (λ t. Took old t []) (sym is) (took_flush old)

pub front_by_torn : (first now new : List WriteCall) (held text rest goal : List ℕ) → new ≡ WriteCall.Torn text ∷ now → text ≡ held → IsDue first now held rest goal → TookFront first new goal
front_by_torn first now new held text rest goal is same p =
    subst (λ t. TookFront first t goal) (sym is) (subst (λ t. TookFront first (WriteCall.Torn t ∷ now) goal) (sym same) (front_torn first now held rest goal p))

-- nothing failed of what was due
pub due_failed : (first now : List WriteCall) (held rest goal : List ℕ) → IsDue first now held rest goal → failed_writes now ≡ failed_writes first
due_failed first now held rest goal p = ap failed_writes p.appended.since ∙ omega (arith, failed_on p.appended.later first, p.appended.whole)

-- a device fault after which one call more has failed
pub cause_by_write : (reads reads_new : List ReadCall) (first now new : List WriteCall) (held rest goal : List ℕ) (r : Refusal) → NoneFailedSince reads reads_new → IsDue first now held rest goal → r ≡ refusal.DeviceFault → failed_writes new ≡ told_refusal r + failed_writes now
    → HasCause reads reads_new first new r
cause_by_write reads reads_new first now new held rest goal r none p is more =
    let same : failed_writes now ≡ failed_writes first = due_failed first now held rest goal p in
    let one : failed_writes new ≡ 1 + failed_writes now = more ∙ ap (λ x. told_refusal x + failed_writes now) is in
    inr (is, (none.1, inr (omega (arith, same, one))))

pub cause_on : (reads reads_new : List ReadCall) (first now new : List WriteCall) (held rest goal : List ℕ) (r : Refusal) → NoneFailedSince reads reads_new → IsDue first now held rest goal → HasWriteCause now new r → HasCause reads reads_new first new r
cause_on reads reads_new first now new held rest goal r none p =
    let same : failed_writes now ≡ failed_writes first = due_failed first now held rest goal p in
    ⊎_elim (λ memory. inl (memory.0, (none.0, memory.1 ∙ same))) (λ device. inr (device.0, (none.1, inr (subst (λ (n : ℕ). n < failed_writes new) same device.1))))

pub cause_by_flush : (reads reads_new : List ReadCall) (first now new : List WriteCall) (held rest goal : List ℕ) (r : Refusal) → NoneFailedSince reads reads_new → IsDue first now held rest goal → r ≡ refusal.DeviceFault → new ≡ WriteCall.NotFlushed ∷ now → HasCause reads reads_new first new r
cause_by_flush reads reads_new first now new held rest goal r none p is more =
    let same : failed_writes now ≡ failed_writes first = due_failed first now held rest goal p in
    let one : failed_writes new ≡ 1 + failed_writes now = ap failed_writes more in
    inr (is, (none.1, inr (omega (arith, same, one))))

-- a front of a front
pub front_more : (first now : List WriteCall) (text more goal : List ℕ) → text ++ more ≡ goal → TookFront first now text → TookFront first now goal
front_more first now text more goal whole f = record {
  later = f.later;
  since = f.since;
  earlier = f.earlier;
  rest = f.rest ++ more;
  front = sym (append_assoc (taken f.later ++ torn f.later) f.rest more) ∙ (ap (λ t. t ++ more) f.front ∙ whole);
}

-- a flush failed
pub front_by_flush : (first now new : List WriteCall) (held rest goal : List ℕ) → new ≡ WriteCall.NotFlushed ∷ now → IsDue first now held rest goal → TookFront first new goal
unfolding front_due
front_by_flush first now new held rest goal is p =
    let f = front_due first now held rest goal p in
    record {
      later = WriteCall.NotFlushed ∷ p.appended.later;
      since = is ∙ ap (λ t. WriteCall.NotFlushed ∷ t) p.appended.since;
      earlier = p.appended.whole;
      rest = held ++ rest;
      front = f.front;
    }

pub front_none : (old : List WriteCall) (goal : List ℕ) → TookFront old old goal
front_none old goal = record { later = []; since = refl; earlier = refl; rest = goal; front = refl }

-- what holds anyway holds of each result
pub always_ok : {T E : Type 0} {P : Type 0} (r : Result T E) → P → OnOk r P
always_ok (Ok x) p = p
always_ok (Err e) p = tt

pub always_err : {T E : Type 0} {P : Type 0} (r : Result T E) → P → OnErr r P
always_err (Ok x) p = tt
always_err (Err e) p = p
