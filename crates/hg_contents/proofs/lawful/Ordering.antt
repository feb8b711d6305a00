-- Reports stand in order, by event and then by word.
use Rattle.std.proofs.Common.{◌≡◌, ◌⊎◌, inl, inr, ℕ, zero, suc, ◌+◌, ◌-◌, ◌*◌, ◌/◌, ◌≤◌, ◌<◌, Bool, true, false, cond, List, [], ◌∷◌, ◌++◌, map, filter, take, slice_get, Some, refl, sym, ap, ◌∙◌, subst, arith}
use Rattle.std.specs.List.{AllByRecursion, range_with_len}
use Rattle.hg_model.specs.declared.event.Event.{Event}
use Rattle.hg_model.specs.declared.event.Event.TheVariants.{Fork, Join, Lock, RdLock, Unlock, Read, Write, Alloc, Free, Send, Recv}
use Rattle.hg_model.specs.declared.report.Report.{Report}
use Rattle.hg_model.specs.Contents.{Content}
use Rattle.hg_model.specs.Reporting.{words_of}
use Rattle.hg_model.specs.Change.{becomes_racy, empty_content, new_reports}
use Rattle.hg_contents.specs.Lawful.{AreInOrder, IsBefore}
use Rattle.hg_contents.proofs.lawful.Lists.{each_both, each_is, each_mapped, each_taken, each_weaker}
use Rattle.hg_contents.proofs.lawful.Passing.{IsKept}
use Rattle.hg_contents.proofs.lawful.Reporting.{AreMade, IsMade, made_after, made_first}

-- each item stands before all later ones
abbrev pub IsSorted : {X : Type 0} → (X → X → Type 0) → List X → Type 0
IsSorted R [] = Unit {0}
IsSorted R (x ∷ xs) = AllByRecursion (R x) xs × IsSorted R xs

module _ {X : Type 0} (R : X → X → Type 0) where
  sorted_both : (xs ys : List X) → IsSorted R xs → IsSorted R ys → AllByRecursion (λ x. AllByRecursion (R x) ys) xs → IsSorted R (xs ++ ys)
  sorted_both [] ys one other across = other
  sorted_both (x ∷ xs) ys one other across = (each_both (R x) xs ys one.0 across.0, sorted_both xs ys one.1 other across.1)

  sorted_take : (n : ℕ) (xs : List X) → IsSorted R xs → IsSorted R (take n xs)
  sorted_take zero xs sorted = tt
  sorted_take (suc n) [] sorted = tt
  sorted_take (suc n) (x ∷ xs) sorted = (each_taken (R x) n xs sorted.0, sorted_take n xs sorted.1)

pub each_filter : {X : Type 0} (P : X → Type 0) (p : X → Bool) (xs : List X) → AllByRecursion P xs → AllByRecursion P (filter p xs)
each_filter P p [] all = tt
each_filter P p (x ∷ xs) all = pick (each_filter P p xs all.1) (p x)
  where
    pick : AllByRecursion P (filter p xs) → (b : Bool) → AllByRecursion P (cond b (x ∷ filter p xs) (filter p xs))
    pick rest true = (all.0, rest)
    pick rest false = rest

pub sorted_filter : {X : Type 0} (R : X → X → Type 0) (p : X → Bool) (xs : List X) → IsSorted R xs → IsSorted R (filter p xs)
sorted_filter R p [] sorted = tt
sorted_filter R p (x ∷ xs) sorted = pick (each_filter (R x) p xs sorted.0) (sorted_filter R p xs sorted.1) (p x)
  where
    pick : AllByRecursion (R x) (filter p xs) → IsSorted R (filter p xs) → (b : Bool) → IsSorted R (cond b (x ∷ filter p xs) (filter p xs))
    pick above rest true = (above, rest)
    pick above rest false = rest

pub range_above : (m a n : ℕ) → m < a → AllByRecursion (λ w. m < w) (range_with_len a n)
range_above m a zero lt = tt
range_above m a (suc n) lt = (lt, range_above m (a + 1) n (omega (arith, lt)))

pub range_sorted : (a n : ℕ) → IsSorted ◌<◌ (range_with_len a n)
range_sorted a zero = tt
range_sorted a (suc n) = (range_above a (a + 1) n (omega arith), range_sorted (a + 1) n)

mapped_sorted : (f : ℕ → Report) → ((v w : ℕ) → v < w → IsBefore (f v) (f w)) → (ws : List ℕ) → IsSorted ◌<◌ ws → IsSorted IsBefore (map f ws)
mapped_sorted f before [] sorted = tt
mapped_sorted f before (w ∷ ws) sorted = (each_mapped (IsBefore (f w)) f ws (each_weaker (λ v. w < v) (λ v. IsBefore (f w) (f v)) (before w) ws sorted.0), mapped_sorted f before ws sorted.1)

-- two words of one access
by_word : (event v w : ℕ) → v < w → (event < event) ⊎ ((event ≡ event) × (4 * v < 4 * w))
by_word event v w lt = inr (refl, omega (arith, lt))

words_sorted : (p : ℕ → Bool) (at len : ℕ) → IsSorted ◌<◌ (filter p (words_of at len))
words_sorted p at len = sorted_filter ◌<◌ p (words_of at len) (range_sorted (at / 4) ((at + len + 3) / 4 - at / 4))

reports_sorted : (c : Content) (e : Event) → IsSorted IsBefore (new_reports c e)
reports_sorted c (Fork p d) = tt
reports_sorted c (Join p d) = tt
reports_sorted c (Send t k) = tt
reports_sorted c (Recv t k) = tt
reports_sorted c (Lock t l) = tt
reports_sorted c (RdLock t l) = tt
reports_sorted c (Unlock t l) = tt
reports_sorted c (Read a) = mapped_sorted _ (λ v w lt. by_word (c.events + 1) v w lt) _ (words_sorted (becomes_racy c (Read a)) a.at a.len)
reports_sorted c (Write a) = mapped_sorted _ (λ v w lt. by_word (c.events + 1) v w lt) _ (words_sorted (becomes_racy c (Write a)) a.at a.len)
reports_sorted c (Alloc b) = tt
reports_sorted c (Free b) = tt

-- the new reports are of the event
reports_new : (c : Content) (e : Event) → AllByRecursion (λ r. r.event ≡ c.events + 1) (new_reports c e)
reports_new c (Fork p d) = tt
reports_new c (Join p d) = tt
reports_new c (Send t k) = tt
reports_new c (Recv t k) = tt
reports_new c (Lock t l) = tt
reports_new c (RdLock t l) = tt
reports_new c (Unlock t l) = tt
reports_new c (Read a) = each_mapped (λ (r : Report). r.event ≡ c.events + 1) _ _ (each_is (λ w. c.events + 1 ≡ c.events + 1) (λ w. refl) (filter (becomes_racy c (Read a)) (words_of a.at a.len)))
reports_new c (Write a) = each_mapped (λ (r : Report). r.event ≡ c.events + 1) _ _ (each_is (λ w. c.events + 1 ≡ c.events + 1) (λ w. refl) (filter (becomes_racy c (Write a)) (words_of a.at a.len)))
reports_new c (Alloc b) = tt
reports_new c (Free b) = tt

pub record AreOrdered (c : Content) : Type 0 where
  pub made : AreMade c
  pub sorted : IsSorted IsBefore c.reports

pub ordered_first : AreOrdered empty_content
ordered_first = record { made = made_first; sorted = tt }

earlier : (events : ℕ) (r s : Report) → r.event ≤ events → s.event ≡ events + 1 → IsBefore r s
earlier events r s old new = inl (omega (arith, old, new))

pub ordered_after : IsKept AreOrdered
ordered_after c n pass are =
    let new = new_reports c n.event in
    record {
      made = made_after c n pass are.made;
      sorted = sorted_take IsBefore 65536 _ (sorted_both IsBefore c.reports new are.sorted (reports_sorted c n.event)
          (each_weaker (IsMade c.events) (λ r. AllByRecursion (IsBefore r) new) (λ r is. each_weaker (λ s. s.event ≡ c.events + 1) (IsBefore r) (λ s at. earlier c.events r s is.event.1 at) new (reports_new c n.event)) c.reports are.made));
    }

-- each stands before the next
first_two : (x : Report) (xs : List Report) (b : Report) → AllByRecursion (IsBefore x) xs → slice_get xs 0 ≡ Some b → IsBefore x b
first_two x [] b all is = absurd cc
first_two x (y ∷ ys) b all is = subst (IsBefore x) (some_is y b is) all.0
  where
    some_is : (y b : Report) → Some y ≡ Some b → y ≡ b
    some_is y b e = cc

pub in_order : (reports : List Report) → IsSorted IsBefore reports → AreInOrder reports
in_order [] sorted k a b at next = absurd cc
in_order (x ∷ xs) sorted zero a b at next = subst (λ (r : Report). IsBefore r b) (some_is x a at) (first_two x xs b sorted.0 next)
  where
    some_is : (y b : Report) → Some y ≡ Some b → y ≡ b
    some_is y b e = cc
in_order (x ∷ xs) sorted (suc k) a b at next =
    let up : suc k + 1 ≡ suc (k + 1) = omega arith in
    in_order xs sorted.1 k a b at (ap (slice_get (x ∷ xs)) (sym up) ∙ next)
