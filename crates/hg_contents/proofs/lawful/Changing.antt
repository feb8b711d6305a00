-- Threads of which one changes or is added.
use Rattle.std.proofs.Common.{◌≡◌, ℕ, Bool, true, false, cond, ◌&&◌, ◌||◌, nat_eq, nat_lt, List, [], ◌∷◌, map, refl, sym, ap, ◌∙◌}
use Rattle.std.proofs.lemmas.Bool.{eq-eqb, eqb-true, or_parts}
use Rattle.std.specs.List.{AllByRecursion, list_any}
use Rattle.hg_model.specs.declared.thread.ThreadState.{ThreadState}
use Rattle.hg_model.specs.Sets.{with_member}
use Rattle.hg_model.specs.Verdicts.{has_thread}
use Rattle.hg_model.specs.Change.{change, with_thread}

-- what holds of the changed threads and of the others
pub each_changed : (P Q : ThreadState → Type 0) (t : ℕ) (f : ThreadState → ThreadState) → ((x : ThreadState) → P x → t ≡ x.number → Q (f x)) → ((x : ThreadState) → P x → Q x)
    → (threads : List ThreadState) → AllByRecursion P threads → AllByRecursion Q (change t f threads)
each_changed P Q t f new old [] all = tt
each_changed P Q t f new old (x ∷ threads) all = (pick (nat_eq t x.number) refl, each_changed P Q t f new old threads all.1)
  where
    pick : (b : Bool) → nat_eq t x.number ≡ b → Q (cond b (f x) x)
    pick true e = new x all.0 (eqb-true t x.number e)
    pick false e = old x all.0

pub each_added : (P : ThreadState → Type 0) (y : ThreadState) (threads : List ThreadState) → P y → AllByRecursion P threads → AllByRecursion P (with_thread y threads)
each_added P y [] one all = (one, tt)
each_added P y (x ∷ threads) one all = first (each_added P y threads one all.1) (nat_lt y.number x.number) (nat_eq y.number x.number)
  where
    first : AllByRecursion P (with_thread y threads) → (less same : Bool) → AllByRecursion P (cond less (y ∷ x ∷ threads) (cond same (x ∷ threads) (x ∷ with_thread y threads)))
    first rest true same = (one, all)
    first rest false true = all
    first rest false false = (all.0, rest)

-- a test that no thread of this number passes
pub each_fails : (t : ℕ) (test : ThreadState → Bool) (threads : List ThreadState) → has_thread threads t test ≡ false → AllByRecursion (λ x. t ≡ x.number → test x ≡ false) threads
each_fails t test [] none = tt
each_fails t test (x ∷ threads) none =
    let parts = or_parts (nat_eq x.number t && test x) (has_thread threads t test) none in
    (λ same. ap (λ b. b && test x) (sym (eq-eqb x.number t (sym same))) ∙ parts.0, each_fails t test threads parts.1)

-- a test that no item passes
pub none_passes : {X : Type 0} (test : X → Bool) (items : List X) → list_any test items ≡ false → AllByRecursion (λ x. test x ≡ false) items
none_passes test [] none = tt
none_passes test (x ∷ items) none = let parts = or_parts (test x) (list_any test items) none in (parts.0, none_passes test items parts.1)

-- the numbers
abbrev pub numbers : List ThreadState → List ℕ
numbers threads = map (λ t. t.number) threads

pub numbers_changed : (t : ℕ) (f : ThreadState → ThreadState) → ((x : ThreadState) → (f x).number ≡ x.number) → (threads : List ThreadState) → numbers (change t f threads) ≡ numbers threads
numbers_changed t f same [] = refl
numbers_changed t f same (x ∷ threads) = λ i. here (nat_eq t x.number) i ∷ numbers_changed t f same threads i
  where
    here : (b : Bool) → (cond b (f x) x).number ≡ x.number
    here true = same x
    here false = refl

pub numbers_added : (y : ThreadState) (threads : List ThreadState) → numbers (with_thread y threads) ≡ with_member (numbers threads) y.number
numbers_added y [] = refl
numbers_added y (x ∷ threads) = first (numbers_added y threads) (nat_lt y.number x.number) (nat_eq y.number x.number)
  where
    first : numbers (with_thread y threads) ≡ with_member (numbers threads) y.number → (less same : Bool)
        → numbers (cond less (y ∷ x ∷ threads) (cond same (x ∷ threads) (x ∷ with_thread y threads))) ≡ cond less (y.number ∷ x.number ∷ numbers threads) (cond same (x.number ∷ numbers threads) (x.number ∷ with_member (numbers threads) y.number))
    first rest true same = refl
    first rest false true = refl
    first rest false false = ap (λ ns. x.number ∷ ns) rest

-- a thread that passes a test is one of the numbers
pub passing_is_numbered : (t : ℕ) (test : ThreadState → Bool) (threads : List ThreadState) → has_thread threads t test ≡ true → list_any (λ n. nat_eq n t) (numbers threads) ≡ true
passing_is_numbered t test [] h = h
passing_is_numbered t test (x ∷ threads) h = pick (passing_is_numbered t test threads) (nat_eq x.number t) (test x) h
  where
    pick : (has_thread threads t test ≡ true → list_any (λ n. nat_eq n t) (numbers threads) ≡ true) → (b d : Bool) → ((b && d) || has_thread threads t test) ≡ true → (b || list_any (λ n. nat_eq n t) (numbers threads)) ≡ true
    pick rest true d e = refl
    pick rest false d e = rest e

pub numbered_any : (t : ℕ) (threads : List ThreadState) → list_any (λ x. nat_eq x.number t) threads ≡ list_any (λ n. nat_eq n t) (numbers threads)
numbered_any t [] = refl
numbered_any t (x ∷ threads) = ap (λ b. nat_eq x.number t || b) (numbered_any t threads)
