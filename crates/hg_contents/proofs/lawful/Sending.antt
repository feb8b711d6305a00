-- The last numbers of the sources add up to the events.
use Rattle.std.proofs.Common.{◌≡◌, ℕ, zero, suc, ◌+◌, ◌≤◌, ◌<◌, Bool, false, cond, ◌||◌, nat_eq, refl, ap, ◌∙◌, ⊎_elim, arith}
use Rattle.std.specs.Prelude.{sum_by}
use Rattle.std.specs.List.{range_with_len}
use Rattle.std.proofs.lemmas.Bool.{cases_eq, eq-eqb, ltb-false, ne_eqb, or_parts}
use Rattle.std.proofs.lemmas.List.Sums.{sum_by-cons}
use Rattle.hg_model.specs.declared.event.Event.{Event}
use Rattle.hg_model.specs.declared.event.Event.TheVariants.{Fork, Join, Lock, RdLock, Unlock, Read, Write, Alloc, Free, Send, Recv}
use Rattle.hg_model.specs.Contents.{Content}
use Rattle.hg_model.specs.Verdicts.{bad_number, is_bad_source, is_bad_thread}
use Rattle.hg_model.specs.Change.{empty_content}
use Rattle.hg_contents.specs.Lawful.{HaveSent, sources}
use Rattle.hg_contents.proofs.lawful.Passing.{IsKept}

small : (n : ℕ) → is_bad_thread n ≡ false → n ≤ 1023
small n low = ltb-false 1023 n low

-- the source, the actor and the child of an event
pub source_small : (source : ℕ) (e : Event) → bad_number source e ≡ false → source ≤ 1023
source_small source (Fork p c) low = small source (or_parts _ _ (or_parts (is_bad_source source || is_bad_thread p) _ low).0).0
source_small source (Join p c) low = small source (or_parts _ _ (or_parts (is_bad_source source || is_bad_thread p) _ low).0).0
source_small source (Lock t l) low = small source (or_parts (is_bad_source source) _ low).0
source_small source (RdLock t l) low = small source (or_parts (is_bad_source source) _ low).0
source_small source (Unlock t l) low = small source (or_parts (is_bad_source source) _ low).0
source_small source (Read a) low = small source (or_parts (is_bad_source source) _ low).0
source_small source (Write a) low = small source (or_parts (is_bad_source source) _ low).0
source_small source (Alloc b) low = small source (or_parts (is_bad_source source) _ low).0
source_small source (Free b) low = small source (or_parts (is_bad_source source) _ low).0
source_small source (Send t k) low = small source (or_parts (is_bad_source source) _ low).0
source_small source (Recv t k) low = small source (or_parts (is_bad_source source) _ low).0

pub actor_small : (source p : ℕ) (later : Bool) → ((is_bad_source source || is_bad_thread p) || later) ≡ false → p ≤ 1023
actor_small source p later low = small p (or_parts (is_bad_source source) (is_bad_thread p) (or_parts (is_bad_source source || is_bad_thread p) later low).0).1

pub child_small : (earlier : Bool) (c : ℕ) → (earlier || is_bad_thread c) ≡ false → c ≤ 1023
child_small earlier c low = small c (or_parts earlier (is_bad_thread c) low).1

-- one more from a source
abbrev more : (ℕ → ℕ) → ℕ → ℕ → ℕ
more last t s = cond (nat_eq t s) (last s + 1) (last s)

sum_same : (last : ℕ → ℕ) (t a n : ℕ) → t < a → sum_by (more last t) (range_with_len a n) ≡ sum_by last (range_with_len a n)
sum_same last t a zero lt = refl
sum_same last t a (suc n) lt =
    let here : more last t a ≡ last a = ap (λ b. cond b (last a + 1) (last a)) (ne_eqb t a (λ e. omega arith)) in
    let rest = sum_same last t (a + 1) n (omega arith) in
    let one = sum_by-cons (more last t) a (range_with_len (a + 1) n) in
    let other = sum_by-cons last a (range_with_len (a + 1) n) in
    omega arith

sum_more : (last : ℕ → ℕ) (t a n : ℕ) → a ≤ t → t < a + n → sum_by (more last t) (range_with_len a n) ≡ sum_by last (range_with_len a n) + 1
sum_more last t a zero le lt = absurd (omega arith)
sum_more last t a (suc n) le lt =
    let one = sum_by-cons (more last t) a (range_with_len (a + 1) n) in
    let other = sum_by-cons last a (range_with_len (a + 1) n) in
    ⊎_elim
    (λ same.
    let here : more last t a ≡ last a + 1 = ap (λ b. cond b (last a + 1) (last a)) (eq-eqb t a same) in
    let rest = sum_same last t (a + 1) n (omega arith) in
    omega arith)
    (λ apart.
    let here : more last t a ≡ last a = ap (λ b. cond b (last a + 1) (last a)) (ne_eqb t a apart) in
    let rest = sum_more last t (a + 1) n (omega arith) (omega arith) in
    omega arith)
    (cases_eq t a)

sum_zero : (a n : ℕ) → sum_by (λ s. 0) (range_with_len a n) ≡ 0
sum_zero a zero = refl
sum_zero a (suc n) = let one = sum_by-cons (λ (s : ℕ). 0) a (range_with_len (a + 1) n) in let rest = sum_zero (a + 1) n in omega arith

abbrev pub HasSent : Content → Type 0
HasSent c = HaveSent c.events c.last

pub sent_first : HasSent empty_content
unfolding sources
sent_first = record { sum = sum_zero 0 1024; others = λ source above. refl }

pub sent_after : IsKept HasSent
unfolding sources
sent_after c n pass sent =
    let low = source_small n.source n.event pass.numbers in
    record {
      sum = sum_more c.last n.source 0 1024 (omega arith) (omega (arith, low)) ∙ ap (λ (k : ℕ). k + 1) sent.sum;
      others = λ source above. ap (λ b. cond b (c.last source + 1) (c.last source)) (ne_eqb n.source source (λ e. omega (arith, low))) ∙ sent.others source above;
    }
