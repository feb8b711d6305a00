-- The calls of a disk, one after another.
use Rattle.std.proofs.Common.{◌≡◌, ◌⊎◌, ⊎_elim, ◌<◌, ◌≤◌, ◌+◌, ◌-◌, ℕ, zero, suc, List, [], ◌∷◌, ◌++◌, length, take, drop, get_or, refl, sym, ◌∙◌, ap, subst, arith, length-append}
use Rattle.std.proofs.lemmas.List.{get_or_append_left, get_or_at, drop_at, drop-append-le, take-append-le, length-drop, take_all}
use Rattle.hg_disk.specs.Event.{Event}
use Rattle.hg_disk.specs.Len.{len_written}
use Rattle.hg_disk.specs.Tape.{keep, kept, calls_in, written_in, Fits, AllFit}
use Rattle.hg_disk.specs.State.{DiskState}
use Rattle.hg_disk.specs.History.{replay, states_before}
use Rattle.hg_disk.specs.Moments.{at_moment}
use Rattle.hg_disk.specs.declared.call.Answer.{Answer}
use Rattle.hg_disk.specs.declared.call.Answer.TheVariants.{Done, Failed, Refused}
use Rattle.hg_disk.specs.Tear.{IsTorn, first}
use Rattle.hg_disk.specs.Replay.{Stands}
use Rattle.hg_disk.specs.declared.replay.Replay.{Replay}
use Rattle.hg_disk.specs.declared.tear.Tear.{Tear}
use Rattle.hg_disk.specs.declared.call.Answered.{Answered}

pub length-calls_in : (events : List Event) → length (calls_in events) ≡ length events
length-calls_in [] = refl
length-calls_in (e ∷ earlier) = length-append (calls_in earlier) (e.told ∷ []) ∙ omega (arith, length-calls_in earlier)

first_more : (e : Event) (earlier : List Event) (k : ℕ) → k ≤ length earlier → first k (e ∷ earlier) ≡ first k earlier
first_more e earlier k le = let more : length (e ∷ earlier) - k ≡ suc (length earlier - k) = omega arith in ap (λ (n : ℕ). drop n (e ∷ earlier)) more

first_all : (events : List Event) → first (length events) events ≡ events
first_all events = let none : length events - length events ≡ 0 = omega arith in ap (λ (n : ℕ). drop n events) none

-- the call after the first i
pub record Next (events : List Event) (i : ℕ) : Type 0 where
  pub call : Event
  pub more : first (suc i) events ≡ call ∷ first i events
  pub told : (d : Answered) → get_or (calls_in events) i d ≡ call.told
  pub fits : Fits call.told.call call.told.answer call.bytes
  pub room : length (written_in (first i events)) + length call.bytes ≤ length (written_in events)
  pub bytes : take (length call.bytes) (drop (length (written_in (first i events))) (written_in events)) ≡ call.bytes

last_call : (e : Event) (earlier : List Event) → Fits e.told.call e.told.answer e.bytes → Next (e ∷ earlier) (length earlier)
last_call e earlier fits = record {
  call = e;
  more = first_all (e ∷ earlier) ∙ ap (λ (l : List Event). e ∷ l) (sym before);
  told = λ d. get_or_at (calls_in earlier) e.told [] d (length earlier) (length-calls_in earlier);
  fits = fits;
  room = omega (arith, ap (λ (l : List Event). length (written_in l)) before, length-append (written_in earlier) e.bytes);
  bytes = ap (λ (l : List Event). take (length e.bytes) (drop (length (written_in l)) (written_in earlier ++ e.bytes))) before
      ∙ ap (λ (l : List ℕ). take (length e.bytes) l) (drop_at (written_in earlier) e.bytes (length (written_in earlier)) refl) ∙ take_all (length e.bytes) e.bytes (omega arith);
}
  where
    before : first (length earlier) (e ∷ earlier) ≡ earlier
    before = first_more e earlier (length earlier) (omega arith) ∙ first_all earlier

slice-append : (from len : ℕ) (xs ys : List ℕ) → from + len ≤ length xs → take len (drop from (xs ++ ys)) ≡ take len (drop from xs)
slice-append from len xs ys within =
    ap (λ (l : List ℕ). take len l) (drop-append-le from xs ys (omega (arith, within))) ∙ take-append-le len (drop from xs) ys (omega (arith, within, length-drop from xs))

earlier_call : (e : Event) (earlier : List Event) (i : ℕ) → i < length earlier → Next earlier i → Next (e ∷ earlier) i
earlier_call e earlier i lt was = record {
  call = was.call;
  more = first_more e earlier (suc i) (omega (arith, lt)) ∙ was.more ∙ ap (λ (l : List Event). was.call ∷ l) (sym before);
  told = λ d. get_or_append_left (calls_in earlier) (e.told ∷ []) d i (omega (arith, lt, length-calls_in earlier)) ∙ was.told d;
  fits = was.fits;
  room = omega (arith, was.room, ap (λ (l : List Event). length (written_in l)) before, length-append (written_in earlier) e.bytes);
  bytes = ap (λ (l : List Event). take (length was.call.bytes) (drop (length (written_in l)) (written_in earlier ++ e.bytes))) before
      ∙ slice-append (length (written_in (first i earlier))) (length was.call.bytes) (written_in earlier) e.bytes was.room ∙ was.bytes;
}
  where
    before : first i (e ∷ earlier) ≡ first i earlier
    before = first_more e earlier i (omega (arith, lt))

split_lt : (i n : ℕ) → i < suc n → (i < n) ⊎ (i ≡ n)
split_lt i n lt = grind arith

pub next : (events : List Event) (i : ℕ) → AllFit events → i < length events → Next events i
next [] i fit lt = absurd (omega (arith, lt))
next (e ∷ earlier) i fit lt =
    ⊎_elim (λ low. earlier_call e earlier i low (next earlier i fit.1 low)) (λ here. subst (Next (e ∷ earlier)) (sym here) (last_call e earlier fit.0)) (split_lt i (length earlier) lt)

length-states_before : (start : List ℕ) (events : List Event) → length (states_before start events) ≡ length events
length-states_before start [] = refl
length-states_before start (e ∷ earlier) = ap suc (length-states_before start earlier)

state_back : (start : List ℕ) (events : List Event) (j : ℕ) (d : DiskState) → j ≤ length events → get_or (replay start events ∷ states_before start events) j d ≡ replay start (drop j events)
state_back start events zero d le = refl
state_back start [] (suc j) d le = absurd (omega (arith, le))
state_back start (e ∷ earlier) (suc j) d le = state_back start earlier j d (omega (arith, le))

-- the state at a moment is that after so many calls
pub state_at_moment : (start : List ℕ) (events : List Event) (k : ℕ) → at_moment k (replay start events) (states_before start events) ≡ replay start (first k events)
state_at_moment start events k =
    ap (λ (n : ℕ). get_or (replay start events ∷ states_before start events) (n - k) (replay start events)) (length-states_before start events)
    ∙ state_back start events (length events - k) (replay start events) (omega arith)

length-keep_le : (answer : Answer) (e : Event) (earlier before : List Event) → length before ≤ length earlier → length (keep answer e earlier before) ≤ length (e ∷ earlier)
length-keep_le Done e earlier before le = omega arith
length-keep_le Failed e earlier before le = omega arith
length-keep_le Refused e earlier before le = omega (arith, le)

length-kept_le : (events : List Event) → length (kept events) ≤ length events
length-kept_le [] = omega arith
length-kept_le (e ∷ earlier) = length-keep_le e.told.answer e earlier (kept earlier) (length-kept_le earlier)

first_keep : (answer : Answer) (e : Event) (earlier before : List Event) (k : ℕ) → length before ≤ length earlier → (k ≤ length before → first k earlier ≡ first k before)
    → k ≤ length (keep answer e earlier before) → first k (e ∷ earlier) ≡ first k (keep answer e earlier before)
first_keep Done e earlier before k few same le = refl
first_keep Failed e earlier before k few same le = refl
first_keep Refused e earlier before k few same le = first_more e earlier k (omega (arith, le, few)) ∙ same le

-- the first calls that are kept are the first of all
pub first_kept : (events : List Event) (k : ℕ) → k ≤ length (kept events) → first k events ≡ first k (kept events)
first_kept [] k le = refl
first_kept (e ∷ earlier) k le = first_keep e.told.answer e earlier (kept earlier) k (length-kept_le earlier) (first_kept earlier k) le

-- What is read from the kept calls: call number i, and as many of the next bytes as it wrote.
pub record Reads (events : List Event) (written : List ℕ) (i from n : ℕ) (told : Answered) : Type 0 where
  pub within : from + len_written told.call told.answer ≤ length written
  pub next_is : first (i + 1) events ≡ record { told = told; bytes = take n (drop from written) } ∷ first i events
  pub fits : Fits told.call told.answer (take n (drop from written))

reads_of : (events : List Event) (i : ℕ) (n : Next events i) → Reads events (written_in events) i (length (written_in (first i events))) (len_written n.call.told.call n.call.told.answer) n.call.told
reads_of events i n = record {
  within = omega (arith, n.room, n.fits.len);
  next_is = ap (λ (k : ℕ). first k events) one ∙ n.more ∙ ap (λ (bytes : List ℕ). record { told = n.call.told; bytes = bytes } ∷ first i events) (sym bytes);
  fits = subst (λ (bytes : List ℕ). Fits n.call.told.call n.call.told.answer bytes) (sym bytes) n.fits;
}
  where
    one : i + 1 ≡ suc i
    one = omega arith

    bytes : take (len_written n.call.told.call n.call.told.answer) (drop (length (written_in (first i events))) (written_in events)) ≡ n.call.bytes
    bytes = ap (λ (k : ℕ). take k (drop (length (written_in (first i events))) (written_in events))) n.fits.len ∙ n.bytes

pub reads : (events : List Event) (calls : List Answered) (written : List ℕ) (i from n : ℕ) (told : Answered) → calls ≡ calls_in events → written ≡ written_in events → AllFit events
    → i < length (calls_in events) → from ≡ length (written_in (first i events)) → told ≡ get_or calls i told → n ≡ len_written told.call told.answer → Reads events written i from n told
reads events calls written i from n told are bytes fit lt at is len =
    let it : Next events i = next events i fit (omega (arith, lt, length-calls_in events)) in
    let same : it.call.told ≡ told = sym (is ∙ ap (λ (l : List Answered). get_or l i told) are ∙ it.told told) in
    let one : Reads events (written_in events) i (length (written_in (first i events))) (len_written told.call told.answer) told =
    subst (λ (t : Answered). Reads events (written_in events) i (length (written_in (first i events))) (len_written t.call t.answer) t) same (reads_of events i it) in
    let two : Reads events (written_in events) i (length (written_in (first i events))) n told = subst (λ (k : ℕ). Reads events (written_in events) i (length (written_in (first i events))) k told) (sym len) one in
    let three : Reads events (written_in events) i from n told = subst (λ (k : ℕ). Reads events (written_in events) i k n told) (sym at) two in
    subst (λ (l : List ℕ). Reads events l i from n told) (sym bytes) three

-- the image where the replay stands after the first k calls
pub torn_at : (start : List ℕ) (events : List Event) (k i : ℕ) (tear : Tear) (r : Replay) → k ≤ length (calls_in (kept events)) → i ≡ k → r.tear ≡ tear → Stands r start (first i (kept events))
    → IsTorn tear start (first k events) r.torn.items
torn_at start events k i tear r le here same stands =
    let shown : first i (kept events) ≡ first k events = ap (λ (n : ℕ). first n (kept events)) here ∙ sym (first_kept events k (omega (arith, le, length-calls_in (kept events)))) in
    subst (λ (t : Tear). IsTorn t start (first k events) r.torn.items) same (subst (λ (l : List Event). IsTorn r.tear start l r.torn.items) shown stands.torn)
