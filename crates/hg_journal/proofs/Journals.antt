-- The events that the bytes of a journal have, and a reader's way through them.
use Rattle.std.proofs.Common.{◌≡◌, ◌≤◌, ℕ, List, [], ◌∷◌, ◌++◌, length, drop, map, refl, sym, ◌∙◌, ap, subst, arith, append_assoc}
use Rattle.std.proofs.lemmas.List.{append-nil, map-append}
use Rattle.std.proofs.lemmas.Grind.{flat_map-append}
use Rattle.std.specs.List.{flat_map, AllByRecursion}
use Rattle.hg_model.specs.declared.event.Named.{Named}
use Rattle.hg_records.specs.Records.{BeginsWith, RecordFits, record_text}
use Rattle.hg_records.proofs.RecordLemmas.{one_list, parted}
use Rattle.hg_gate.specs.Batches.{IsLog}
use Rattle.hg_gate.proofs.Grammar as grammar
use Rattle.hg_journal.specs.Journal.{IsJournalBehind, batch_text}

-- ---- the events of batches

-- the events of the batches in turn
abbrev pub events_of : List (List Named) → List Named
events_of batches = flat_map (λ batch. batch) batches

-- the bytes of the batches in turn
abbrev pub bytes_of : List (List ℕ) → List ℕ
bytes_of bodies = flat_map (λ body. body) bodies

pub all_text : (batches : List (List Named)) → batch_text (events_of batches) ≡ bytes_of (map batch_text batches)
all_text [] = refl
all_text (b ∷ batches) = flat_map-append record_text b (events_of batches) ∙ ap (λ (l : List ℕ). batch_text b ++ l) (all_text batches)

pub fits_join : (xs ys : List Named) → AllByRecursion RecordFits xs → AllByRecursion RecordFits ys → AllByRecursion RecordFits (xs ++ ys)
fits_join [] ys fits again = again
fits_join (x ∷ xs) ys fits again = (fits.0, fits_join xs ys fits.1 again)

pub fits_front : (xs ys : List Named) → AllByRecursion RecordFits (xs ++ ys) → AllByRecursion RecordFits xs
fits_front [] ys fits = tt
fits_front (x ∷ xs) ys fits = (fits.0, fits_front xs ys fits.1)

pub fits_back : (xs ys : List Named) → AllByRecursion RecordFits (xs ++ ys) → AllByRecursion RecordFits ys
fits_back [] ys fits = fits
fits_back (x ∷ xs) ys fits = fits_back xs ys fits.1

-- one more batch
pub text_push : (batches : List (List Named)) (batch : List Named) → map batch_text (batches ++ batch ∷ []) ≡ map batch_text batches ++ batch_text batch ∷ []
text_push batches batch = map-append batch_text batches (batch ∷ [])

pub events_push : (batches : List (List Named)) (batch : List Named) → events_of (batches ++ batch ∷ []) ≡ events_of batches ++ batch
events_push batches batch = flat_map-append (λ (b : List Named). b) batches (batch ∷ []) ∙ ap (λ (l : List Named). events_of batches ++ l) (append-nil batch)

-- ---- journals

-- The bytes of a journal have one list of events.
pub one_reading : (lead bytes : List ℕ) (first second : List Named) → IsJournalBehind lead bytes first → IsJournalBehind lead bytes second → first ≡ second
one_reading lead bytes first second a b =
    let bodies : map batch_text a.batches ≡ map batch_text b.batches = grammar.one_reading lead bytes (map batch_text a.batches) (map batch_text b.batches) a.log b.log in
    one_list first second a.fits b.fits
    (ap batch_text a.whole ∙ all_text a.batches ∙ ap bytes_of bodies ∙ sym (all_text b.batches) ∙ sym (ap batch_text b.whole))

-- A journal with one batch more.
pub pushed : (lead bytes : List ℕ) (past new : List Named) (batches : List (List Named)) → past ≡ events_of batches → AllByRecursion RecordFits past → AllByRecursion RecordFits new
    → IsLog lead bytes (map batch_text batches ++ batch_text new ∷ []) → IsJournalBehind lead bytes (past ++ new)
pushed lead bytes past new batches whole fits again has = record {
  batches = batches ++ new ∷ [];
  log = subst (IsLog lead bytes) (sym (text_push batches new)) has;
  fits = fits_join past new fits again;
  whole = ap (λ (l : List Named). l ++ new) whole ∙ sym (events_push batches new);
}

-- ---- on the way

-- the batch at the place of a body, and that its events fit
record There (body : List ℕ) : Type 0 where
  events : List Named
  fits : AllByRecursion RecordFits events
  text : batch_text events ≡ body

there : (batches : List (List Named)) (front : List (List ℕ)) (body : List ℕ) (later : List (List ℕ)) → AllByRecursion RecordFits (events_of batches)
    → map batch_text batches ≡ front ++ body ∷ later → There body
there [] [] body later fits same = absurd cc
there [] (f ∷ front) body later fits same = absurd cc
there (b ∷ batches) [] body later fits same = record { events = b; fits = fits_front b (events_of batches) fits; text = cc }
there (b ∷ batches) (f ∷ front) body later fits same = there batches front body later (fits_back b (events_of batches) fits) (ap (λ (l : List (List ℕ)). drop 1 l) same)

-- Where a batch has bytes left behind some records, and no record begins there, the bytes are none of a journal.
pub no_journal : (lead bytes : List ℕ) (front : List (List ℕ)) (read : List Named) (rest : List ℕ) (later : List (List ℕ)) → IsLog lead bytes ((front ++ (batch_text read ++ rest) ∷ []) ++ later)
    → AllByRecursion RecordFits read → 1 ≤ length rest → ((named : Named) (tail : List ℕ) → BeginsWith rest named tail → ⊥) → (events : List Named) → IsJournalBehind lead bytes events → ⊥
no_journal lead bytes front read rest later has fits some none events is =
    let body = batch_text read ++ rest in
    let same : map batch_text is.batches ≡ front ++ body ∷ later =
    grammar.one_reading lead bytes (map batch_text is.batches) ((front ++ body ∷ []) ++ later) is.log has ∙ append_assoc front (body ∷ []) later in
    let batch = there is.batches front body later (subst (AllByRecursion RecordFits) is.whole is.fits) same in
    let left = parted read batch.events rest fits batch.fits batch.text in
    none_of left.more left.text left.fits
  where
    none_of : (more : List Named) → batch_text more ≡ rest → AllByRecursion RecordFits more → ⊥
    none_of [] text fits = absurd (omega (arith, ap length text, some))
    none_of (m ∷ more) text fits = none m (batch_text more) (fits.0, sym text)

-- a batch was read to its end
pub record Turned (past : List (List Named)) (present : List (List ℕ)) (seen : List Named) : Type 0 where
  pub batches : List (List Named)
  pub bodies : map batch_text batches ≡ map batch_text past ++ present
  pub whole : seen ≡ events_of batches

no_events : (read : List Named) → batch_text read ≡ [] → read ≡ []
no_events [] same = refl
no_events (x ∷ read) same = absurd cc

pub turned : (past : List (List Named)) (present : List (List ℕ)) (read seen : List Named) → length present ≤ 1 → bytes_of present ≡ batch_text read → seen ≡ events_of past ++ read → Turned past present seen
turned past [] read seen one split whole = record {
  batches = past;
  bodies = sym (append-nil (map batch_text past));
  whole = whole ∙ ap (λ (l : List Named). events_of past ++ l) (no_events read (sym split)) ∙ append-nil (events_of past);
}
turned past (b ∷ []) read seen one split whole = record {
  batches = past ++ read ∷ [];
  bodies = text_push past read ∙ ap (λ (l : List ℕ). map batch_text past ++ l ∷ []) (sym split ∙ append-nil b);
  whole = whole ∙ sym (events_push past read);
}
turned past (b ∷ c ∷ present) read seen one split whole = absurd (omega (arith, one))

-- What was read is the front of what is there.
pub front_of : (lead bytes : List ℕ) (past : List (List Named)) (present later : List (List ℕ)) (read seen events : List Named) (rest : List ℕ) → IsLog lead bytes ((map batch_text past ++ present) ++ later)
    → bytes_of present ≡ batch_text read ++ rest → AllByRecursion RecordFits seen → seen ≡ events_of past ++ read → IsJournalBehind lead bytes events → (left : List Named) × (events ≡ seen ++ left)
front_of lead bytes past present later read seen events rest has split fits whole is =
    let bodies : map batch_text is.batches ≡ (map batch_text past ++ present) ++ later = grammar.one_reading lead bytes (map batch_text is.batches) ((map batch_text past ++ present) ++ later) is.log has in
    let front : bytes_of (map batch_text past ++ present) ≡ batch_text seen ++ rest =
    flat_map-append (λ (b : List ℕ). b) (map batch_text past) present
    ∙ ap (λ (l : List ℕ). bytes_of (map batch_text past) ++ l) split
    ∙ ap (λ (l : List ℕ). l ++ (batch_text read ++ rest)) (sym (all_text past))
    ∙ sym (append_assoc (batch_text (events_of past)) (batch_text read) rest)
    ∙ ap (λ (l : List ℕ). l ++ rest) (sym (flat_map-append record_text (events_of past) read) ∙ ap batch_text (sym whole)) in
    let text : batch_text events ≡ batch_text seen ++ (rest ++ bytes_of later) =
    ap batch_text is.whole ∙ all_text is.batches ∙ ap bytes_of bodies
    ∙ flat_map-append (λ (b : List ℕ). b) (map batch_text past ++ present) later
    ∙ ap (λ (l : List ℕ). l ++ bytes_of later) front
    ∙ append_assoc (batch_text seen) rest (bytes_of later) in
    let left = parted seen events (rest ++ bytes_of later) fits is.fits text in
    (left.more, left.all)
