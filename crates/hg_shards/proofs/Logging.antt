-- What a log says of the sets of a table.
use Rattle.std.proofs.Common.{◌≡◌, ℕ, zero, suc, ◌<◌, ◌≤◌, cond, List, [], ◌∷◌, ◌++◌, length, replicate, nat_le, refl, ap, ◌∙◌, arith}
use Rattle.std.proofs.lemmas.Bool.{le-leb, lt-leb}
use Rattle.std.specs.List.{AllByRecursion}
use Rattle.hg_shards.specs.Logging.{NeverFalls, made_by}

-- ---- lists that a number is put behind

pub all_both : {X : Type 0} (P : X → Type 0) (xs ys : List X) → AllByRecursion P xs → AllByRecursion P ys → AllByRecursion P (xs ++ ys)
all_both P [] ys h more = more
all_both P (x ∷ xs) ys h more = (h.0, all_both P xs ys h.1 more)

pub all_repeat : {X : Type 0} (P : X → Type 0) (n : ℕ) (x : X) → P x → AllByRecursion P (replicate n x)
all_repeat P zero x h = tt
all_repeat P (suc n) x h = (h, all_repeat P n x h)

pub all_weaker : {X : Type 0} (P Q : X → Type 0) (xs : List X) → ((x : X) → P x → Q x) → AllByRecursion P xs → AllByRecursion Q xs
all_weaker P Q [] f h = tt
all_weaker P Q (x ∷ xs) f h = (f x h.0, all_weaker P Q xs f h.1)

rises_repeat : (n event : ℕ) → NeverFalls (replicate n event)
rises_repeat zero event = tt
rises_repeat (suc n) event = (all_repeat (λ later. event ≤ later) n event (omega arith), rises_repeat n event)

pub rises_with : (events : List ℕ) (n event : ℕ) → NeverFalls events → AllByRecursion (λ e. e ≤ event) events → NeverFalls (events ++ replicate n event)
rises_with [] n event h le = rises_repeat n event
rises_with (e ∷ events) n event h le = (all_both (λ later. e ≤ later) events (replicate n event) h.0 (all_repeat (λ later. e ≤ later) n event le.0), rises_with events n event h.1 le.1)

-- ---- the sets that were made up to an event

pub made_within : (k : ℕ) (sets more : List (List ℕ)) (events : List ℕ) → length events ≤ length sets → made_by k (sets ++ more) events ≡ made_by k sets events
made_within k [] [] [] le = refl
made_within k [] (m ∷ more) [] le = refl
made_within k [] more (e ∷ events) le = absurd (omega arith)
made_within k (set ∷ sets) more [] le = refl
made_within k (set ∷ sets) more (e ∷ events) le = ap (λ (rest : List (List ℕ)). cond (nat_le e k) (set ∷ rest) rest) (made_within k sets more events (omega arith))

made_late : (k n event : ℕ) (sets : List (List ℕ)) → k < event → made_by k sets (replicate n event) ≡ []
made_late k zero event [] lt = refl
made_late k zero event (set ∷ sets) lt = refl
made_late k (suc n) event [] lt = refl
made_late k (suc n) event (set ∷ sets) lt = ap (λ b. cond b (set ∷ made_by k sets (replicate n event)) (made_by k sets (replicate n event))) (lt-leb event k lt) ∙ made_late k n event sets lt

-- what is noted under a later event was not made by then
pub made_before : (k n event : ℕ) (sets : List (List ℕ)) (events : List ℕ) → k < event → made_by k sets (events ++ replicate n event) ≡ made_by k sets events
made_before k n event [] [] lt = made_late k n event [] lt
made_before k n event [] (e ∷ events) lt = refl
made_before k n event (set ∷ sets) [] lt = made_late k n event (set ∷ sets) lt
made_before k n event (set ∷ sets) (e ∷ events) lt = ap (λ (rest : List (List ℕ)). cond (nat_le e k) (set ∷ rest) rest) (made_before k n event sets events lt)

-- all were made by then
pub made_all : (k : ℕ) (sets : List (List ℕ)) (events : List ℕ) → length events ≡ length sets → AllByRecursion (λ e. e ≤ k) events → made_by k sets events ≡ sets
made_all k [] [] same h = refl
made_all k [] (e ∷ events) same h = absurd (omega arith)
made_all k (set ∷ sets) [] same h = absurd (omega arith)
made_all k (set ∷ sets) (e ∷ events) same h =
    ap (λ b. cond b (set ∷ made_by k sets events) (made_by k sets events)) (le-leb e k h.0) ∙ ap (λ (rest : List (List ℕ)). set ∷ rest) (made_all k sets events (omega arith) h.1)
