-- What one more access does to a word's sharing, its state and its reported item.
use Rattle.std.proofs.Common.{◌≡◌, ℕ, ◌<◌, Bool, true, false, cond, ◌&&◌, ◌||◌, List, [], ◌∷◌, ◌++◌, length, map, filter, refl, sym, ap, ◌∙◌}
use Rattle.std.proofs.lemmas.List.{map_push}
use Rattle.std.proofs.lemmas.List.Sums.{fold-append}
use Rattle.std.proofs.lemmas.List.Folds.{list_any-append, list_all-append}
use Rattle.std.specs.List.{list_any, list_all, AllByRecursion}
use Rattle.hg_model.specs.Segments.{thread_at}
use Rattle.hg_model.specs.declared.segment.Segment.{Segment}
use Rattle.hg_model.specs.Paths.{reaches}
use Rattle.hg_model.specs.declared.word.HistoryItem.{HistoryItem}
use Rattle.hg_model.specs.Sets.{with_member, set_of, contains, common}
use Rattle.hg_model.specs.Sharing.{Sharing, Unshared, SharedFrom, sharing, lockset, shared, owned, state_by, state}
use Rattle.hg_model.specs.declared.word.WordState.{WordState}
use Rattle.hg_model.specs.declared.word.WordState.TheVariants.{New, Exclusive}
use Rattle.hg_model.specs.Change.{touched}
use Rattle.hg_model.proofs.Graph.{reaches_stable}
use Rattle.hg_model.specs.Paths.{IsRising}

-- segments that are opened later share no word
pub sharing_stable : (xs ys : List Segment) → IsRising xs → (items : List HistoryItem) → AllByRecursion (λ i. i.segment < length xs) items → sharing (xs ++ ys) items ≡ sharing xs items
sharing_stable xs ys rising [] h = refl
sharing_stable xs ys rising (x ∷ []) h = refl
sharing_stable xs ys rising (x ∷ y ∷ items) h = λ i. cond (reaches_stable xs ys rising x.segment y.segment h.1.0 i) (sharing_stable xs ys rising (y ∷ items) h.1 i) (SharedFrom x y items)

pub state_stable : (xs ys : List Segment) → IsRising xs → (items : List HistoryItem) → AllByRecursion (λ i. i.segment < length xs) items → state (xs ++ ys) items ≡ state xs items
state_stable xs ys rising items h = ap (λ s. state_by s items) (sharing_stable xs ys rising items h)

abbrev pub last_item : HistoryItem → List HistoryItem → HistoryItem
last_item x [] = x
last_item x (y ∷ items) = last_item y items

-- the sharing with one item more
abbrev pub pushed : List Segment → Sharing → HistoryItem → HistoryItem → Sharing
pushed segments Unshared last i = cond (reaches segments last.segment i.segment) Unshared (SharedFrom last i [])
pushed segments (SharedFrom previous first later) last i = SharedFrom previous first (later ++ i ∷ [])

pub sharing_push : (segments : List Segment) (x : HistoryItem) (items : List HistoryItem) (i : HistoryItem) → sharing segments ((x ∷ items) ++ i ∷ []) ≡ pushed segments (sharing segments (x ∷ items)) (last_item x items) i
sharing_push segments x [] i = refl
sharing_push segments x (y ∷ items) i =
    elim (reaches segments x.segment y.segment) as (λ b. cond b (sharing segments ((y ∷ items) ++ i ∷ [])) (SharedFrom x y (items ++ i ∷ [])) ≡ pushed segments (cond b (sharing segments (y ∷ items)) (SharedFrom x y items)) (last_item y items) i) [
      | true ↦ sharing_push segments y items i
      | false ↦ refl
    ]

owned_push : (s : WordState) (items : List HistoryItem) (i : HistoryItem) → owned s (items ++ i ∷ []) ≡ Exclusive i.segment
owned_push s [] i = refl
owned_push s (x ∷ items) i = owned_push (Exclusive x.segment) items i

owned_last : (s : WordState) (x : HistoryItem) (items : List HistoryItem) → owned s (x ∷ items) ≡ Exclusive (last_item x items).segment
owned_last s x [] = refl
owned_last s x (y ∷ items) = owned_last (Exclusive x.segment) y items

or_false : (b : Bool) → (b || false) ≡ b
or_false true = refl
or_false false = refl

and_true : (b : Bool) → (b && true) ≡ b
and_true true = refl
and_true false = refl

filter_all : (xs : List ℕ) → filter (λ l. true) xs ≡ xs
filter_all [] = refl
filter_all (x ∷ xs) = λ i. x ∷ filter_all xs i

filter_both : (p q : ℕ → Bool) (xs : List ℕ) → filter (λ x. p x && q x) xs ≡ filter q (filter p xs)
filter_both p q [] = refl
filter_both p q (x ∷ xs) =
    elim (p x) as (λ b. cond (b && q x) (x ∷ filter (λ y. p y && q y) xs) (filter (λ y. p y && q y) xs) ≡ filter q (cond b (x ∷ filter p xs) (filter p xs))) [
      | true ↦ λ i. cond (q x) (x ∷ filter_both p q xs i) (filter_both p q xs i)
      | false ↦ filter_both p q xs
    ]

filter_same : (p q : ℕ → Bool) → ((x : ℕ) → p x ≡ q x) → (xs : List ℕ) → filter p xs ≡ filter q xs
filter_same p q h [] = refl
filter_same p q h (x ∷ xs) = λ i. cond (h x i) (x ∷ filter_same p q h xs i) (filter_same p q h xs i)

abbrev pub has_it : ℕ → HistoryItem → Bool
has_it l i = contains i.locks l

pub lockset_append : (first : HistoryItem) (xs ys : List HistoryItem) → lockset (first ∷ (xs ++ ys)) ≡ filter (λ l. list_all (has_it l) ys) (lockset (first ∷ xs))
lockset_append first xs ys =
    filter_same _ (λ l. list_all (has_it l) xs && list_all (has_it l) ys) (λ l. list_all-append (has_it l) xs ys) first.locks
    ∙ filter_both (λ l. list_all (has_it l) xs) (λ l. list_all (has_it l) ys) first.locks

lockset_push : (first : HistoryItem) (later : List HistoryItem) (i : HistoryItem) → lockset (first ∷ (later ++ i ∷ [])) ≡ common (lockset (first ∷ later)) i.locks
lockset_push first later i = lockset_append first later (i ∷ []) ∙ filter_same _ (contains i.locks) (λ l. and_true (contains i.locks l)) (lockset (first ∷ later))

touched_shared : (segments : List Segment) (t g : ℕ) (write : Bool) (locks threads candidates : List ℕ) (b : Bool) → touched segments t g write locks (shared b threads candidates) ≡ shared (b || write) (with_member threads t) (common candidates locks)
touched_shared segments t g write locks threads candidates true = refl
touched_shared segments t g write locks threads candidates false = refl

writes_push : (first : HistoryItem) (later : List HistoryItem) (i : HistoryItem) → list_any (λ j. j.write) (first ∷ (later ++ i ∷ [])) ≡ (list_any (λ j. j.write) (first ∷ later) || i.write)
writes_push first later i =
    list_any-append (λ (j : HistoryItem). j.write) (first ∷ later) (i ∷ []) ∙ ap (λ b. list_any (λ j. j.write) (first ∷ later) || b) (or_false i.write)

threads_push : (items : List HistoryItem) (i : HistoryItem) → set_of (map (λ j. j.thread) (items ++ i ∷ [])) ≡ with_member (set_of (map (λ j. j.thread) items)) i.thread
threads_push items i = ap set_of (map_push (λ (j : HistoryItem). j.thread) items i) ∙ fold-append with_member [] (map (λ j. j.thread) items) (i.thread ∷ [])

state_pushed : (segments : List Segment) (s : Sharing) (x : HistoryItem) (items : List HistoryItem) (i : HistoryItem) → thread_at segments (last_item x items).segment ≡ (last_item x items).thread →
    state_by (pushed segments s (last_item x items) i) ((x ∷ items) ++ i ∷ []) ≡ touched segments i.thread i.segment i.write i.locks (state_by s (x ∷ items))
state_pushed segments Unshared x items i h =
    (elim (reaches segments (last_item x items).segment i.segment) as (λ b. state_by (cond b Unshared (SharedFrom (last_item x items) i [])) ((x ∷ items) ++ i ∷ []) ≡ cond b (Exclusive i.segment) (shared i.write (set_of (thread_at segments (last_item x items).segment ∷ i.thread ∷ [])) i.locks)) [
      | true ↦ owned_push New (x ∷ items) i
      | false ↦ λ k. shared (or_false i.write k) (set_of (sym h k ∷ i.thread ∷ [])) (filter_all i.locks k)
    ])
    ∙ ap (touched segments i.thread i.segment i.write i.locks) (sym (owned_last New x items))
state_pushed segments (SharedFrom previous first later) x items i h =
    (λ k. shared (writes_push first later i k) (threads_push (previous ∷ first ∷ later) i k) (lockset_push first later i k))
    ∙ sym (touched_shared segments i.thread i.segment i.write i.locks _ _ (list_any (λ j. j.write) (first ∷ later)))

last_fits : (P : HistoryItem → Type 0) (x : HistoryItem) (items : List HistoryItem) → AllByRecursion P (x ∷ items) → P (last_item x items)
last_fits P x [] h = h.0
last_fits P x (y ∷ items) h = last_fits P y items h.1

-- The state table: what one more access makes of a word's state.
pub state_push : (segments : List Segment) (items : List HistoryItem) (i : HistoryItem) → AllByRecursion (λ j. thread_at segments j.segment ≡ j.thread) items → state segments (items ++ i ∷ []) ≡ touched segments i.thread i.segment i.write i.locks (state segments items)
state_push segments [] i h = refl
state_push segments (x ∷ items) i h =
    ap (λ s. state_by s ((x ∷ items) ++ i ∷ [])) (sharing_push segments x items i)
    ∙ state_pushed segments (sharing segments (x ∷ items)) x items i (last_fits (λ j. thread_at segments j.segment ≡ j.thread) x items h)
