-- What a change of links makes of a ring.
use Rattle.std.proofs.Common.{◌≡◌, ◌≢◌, ◌+◌, ◌<◌, ◌==◌, ◌∙◌, ℕ, suc, zero, Bool, true, false, List, [], ◌∷◌, ◌++◌, length, get_or, set, if◌then◌else◌, refl, sym, ap, subst, arith}
use Rattle.std.specs.List.{AllByRecursion}
use Rattle.std.proofs.lemmas.List.{get_or-set_other, get_or-set_same}
use Rattle.hg_cache.specs.declared.node.Node.{Node}
use Rattle.hg_cache.specs.Rings.{AreApart, AreLinked, IsApart, IsRing, blank, followed, is_used_at, key_at, linked, newer_at, older_at, unlinked, with_key, with_newer, with_older, without_key}
use Rattle.hg_cache.proofs.Numbers.{if_false, if_true, itself, same_number}

-- a list that was set has its length, and past its end nothing is set
set_length : (ns : List Node) (p : ℕ) (n : Node) → length (set ns p n) ≡ length ns
set_length [] p n = refl
set_length (x ∷ ns) zero n = refl
set_length (x ∷ ns) (suc p) n = ap suc (set_length ns p n)

-- A change that keeps some part of a node keeps it at each place.
kept : {A : Type 0} (part : Node → A) (ns : List Node) (p q : ℕ) (n : Node) → part n ≡ part (get_or ns p blank) → part (get_or (set ns p n) q blank) ≡ part (get_or ns q blank)
kept part [] p q n same = refl
kept part (x ∷ ns) zero zero n same = same
kept part (x ∷ ns) zero (suc q) n same = refl
kept part (x ∷ ns) (suc p) zero n same = refl
kept part (x ∷ ns) (suc p) (suc q) n same = kept part ns p q n same

-- the part that changes
changed : {A : Type 0} (part : Node → A) (ns : List Node) (p : ℕ) (n : Node) → p < length ns → part (get_or (set ns p n) p blank) ≡ part n
changed part ns p n lt = ap part (get_or-set_same ns p n blank lt)

other : {A : Type 0} (part : Node → A) (ns : List Node) (p q : ℕ) (n : Node) → q ≢ p → part (get_or (set ns p n) q blank) ≡ part (get_or ns q blank)
other part ns p q n apart = ap part (get_or-set_other ns p q n blank apart)

-- by the test
at : {A : Type 0} (part : Node → A) (ns : List Node) (p q : ℕ) (n : Node) → p < length ns → part (get_or (set ns p n) q blank) ≡ (if q == p then part n else part (get_or ns q blank))
at part ns p q n lt = by (q == p) refl
  where
    by : (b : Bool) → (q == p) ≡ b → part (get_or (set ns p n) q blank) ≡ (if q == p then part n else part (get_or ns q blank))
    by true test = ap (λ (k : ℕ). part (get_or (set ns p n) k blank)) (same_number q p test) ∙ changed part ns p n lt ∙ sym (if_true (q == p) (part n) (part (get_or ns q blank)) test)
    by false test =
        other part ns p q n (λ same. absurd (cc (sym test ∙ ap (λ (k : ℕ). k == p) same ∙ itself p))) ∙ sym (if_false (q == p) (part n) (part (get_or ns q blank)) test)

-- keys stay where links change
pub key_unlinked : (ns : List Node) (p q : ℕ) → key_at (unlinked ns p) q ≡ key_at ns q
key_unlinked ns p q = kept (λ n. n.key) (with_older ns (newer_at ns p) (older_at ns p)) (older_at ns p) q _ refl ∙ kept (λ n. n.key) ns (newer_at ns p) q _ refl

pub used_unlinked : (ns : List Node) (p q : ℕ) → is_used_at (unlinked ns p) q ≡ is_used_at ns q
used_unlinked ns p q = kept (λ n. n.is_used) (with_older ns (newer_at ns p) (older_at ns p)) (older_at ns p) q _ refl ∙ kept (λ n. n.is_used) ns (newer_at ns p) q _ refl

pub length_unlinked : (ns : List Node) (p : ℕ) → length (unlinked ns p) ≡ length ns
length_unlinked ns p = set_length (with_older ns (newer_at ns p) (older_at ns p)) (older_at ns p) _ ∙ set_length ns (newer_at ns p) _

module _ (ns : List Node) (end p : ℕ) where
  -- the nodes after each of the four changes
  abbrev one : List Node
  one = with_newer ns p end

  abbrev two : List Node
  two = with_older one p (older_at ns end)

  abbrev three : List Node
  three = with_newer two (older_at ns end) p

  kept_linked : {A : Type 0} (part : Node → A) → ((n : Node) (k : ℕ) → part (record n { newer = k }) ≡ part n) → ((n : Node) (k : ℕ) → part (record n { older = k }) ≡ part n) → (q : ℕ) → part (get_or (linked ns end p) q blank) ≡ part (get_or ns q blank)
  kept_linked part newer older q =
      kept part three end q _ (older (get_or three end blank) p) ∙ kept part two (older_at ns end) q _ (newer (get_or two (older_at ns end) blank) p)
      ∙ kept part one p q _ (older (get_or one p blank) (older_at ns end)) ∙ kept part ns p q _ (newer (get_or ns p blank) end)

  pub key_linked : (q : ℕ) → key_at (linked ns end p) q ≡ key_at ns q
  key_linked q = kept_linked (λ n. n.key) (λ n k. refl) (λ n k. refl) q

  pub used_linked : (q : ℕ) → is_used_at (linked ns end p) q ≡ is_used_at ns q
  used_linked q = kept_linked (λ n. n.is_used) (λ n k. refl) (λ n k. refl) q

  pub length_linked : length (linked ns end p) ≡ length ns
  length_linked = set_length three end _ ∙ set_length two (older_at ns end) _ ∙ set_length one p _ ∙ set_length ns p _

-- a key's change
pub key_with : (ns : List Node) (p k q : ℕ) → p < length ns → key_at (with_key ns p k) q ≡ (if q == p then k else key_at ns q)
key_with ns p k q lt = at (λ n. n.key) ns p q _ lt

pub used_with : (ns : List Node) (p k q : ℕ) → p < length ns → is_used_at (with_key ns p k) q ≡ (if q == p then true else is_used_at ns q)
used_with ns p k q lt = at (λ n. n.is_used) ns p q _ lt

pub key_without : (ns : List Node) (p q : ℕ) → key_at (without_key ns p) q ≡ key_at ns q
key_without ns p q = kept (λ n. n.key) ns p q _ refl

pub used_without : (ns : List Node) (p q : ℕ) → p < length ns → is_used_at (without_key ns p) q ≡ (if q == p then false else is_used_at ns q)
used_without ns p q lt = at (λ n. n.is_used) ns p q _ lt

-- Where the older one of the first and of each between, and the newer one of each between and of the last, stay, so does the chain.
same_links : (ns new : List Node) (from to : ℕ) (ps : List ℕ) → older_at new from ≡ older_at ns from → AllByRecursion (λ q. (older_at new q ≡ older_at ns q) × (newer_at new q ≡ newer_at ns q)) ps → newer_at new to ≡ newer_at ns to
    → AreLinked ns from ps to → AreLinked new from ps to
same_links ns new from to [] first all last links = (first ∙ links.0, last ∙ links.1)
same_links ns new from to (p ∷ ps) first all last links = (first ∙ links.0, all.0.1 ∙ links.1, same_links ns new p to ps all.0.0 all.1 last links.2)

all_same : (ns new : List Node) → ((q : ℕ) → older_at new q ≡ older_at ns q) → ((q : ℕ) → newer_at new q ≡ newer_at ns q) → (ps : List ℕ) → AllByRecursion (λ q. (older_at new q ≡ older_at ns q) × (newer_at new q ≡ newer_at ns q)) ps
all_same ns new older newer [] = tt
all_same ns new older newer (p ∷ ps) = ((older p, newer p), all_same ns new older newer ps)

pub ring_with : (ns : List Node) (end p k : ℕ) (ps : List ℕ) → IsRing ns end ps → IsRing (with_key ns p k) end ps
ring_with ns end p k ps ring =
    let older : (q : ℕ) → older_at (with_key ns p k) q ≡ older_at ns q = λ q. kept (λ n. n.older) ns p q _ refl in
    let newer : (q : ℕ) → newer_at (with_key ns p k) q ≡ newer_at ns q = λ q. kept (λ n. n.newer) ns p q _ refl in
    record {
      long = set_length ns p _ ∙ ring.long;
      within = ring.within;
      apart = ring.apart;
      links = same_links ns (with_key ns p k) end end ps (older end) (all_same ns (with_key ns p k) older newer ps) (newer end) ring.links;
    }

pub ring_without : (ns : List Node) (end p : ℕ) (ps : List ℕ) → IsRing ns end ps → IsRing (without_key ns p) end ps
ring_without ns end p ps ring =
    let older : (q : ℕ) → older_at (without_key ns p) q ≡ older_at ns q = λ q. kept (λ n. n.older) ns p q _ refl in
    let newer : (q : ℕ) → newer_at (without_key ns p) q ≡ newer_at ns q = λ q. kept (λ n. n.newer) ns p q _ refl in
    record {
      long = set_length ns p _ ∙ ring.long;
      within = ring.within;
      apart = ring.apart;
      links = same_links ns (without_key ns p) end end ps (older end) (all_same ns (without_key ns p) older newer ps) (newer end) ring.links;
    }

-- parts of a list
all_front : (P : ℕ → Type 0) (xs ys : List ℕ) → AllByRecursion P (xs ++ ys) → AllByRecursion P xs
all_front P [] ys all = tt
all_front P (x ∷ xs) ys all = (all.0, all_front P xs ys all.1)

all_back : (P : ℕ → Type 0) (xs ys : List ℕ) → AllByRecursion P (xs ++ ys) → AllByRecursion P ys
all_back P [] ys all = all
all_back P (x ∷ xs) ys all = all_back P xs ys all.1

all_without : (P : ℕ → Type 0) (p : ℕ) (xs ys : List ℕ) → AllByRecursion P (xs ++ p ∷ ys) → AllByRecursion P (xs ++ ys)
all_without P p [] ys all = all.1
all_without P p (x ∷ xs) ys all = (all.0, all_without P p xs ys all.1)

apart_without : (p : ℕ) (xs ys : List ℕ) → AreApart (xs ++ p ∷ ys) → AreApart (xs ++ ys)
apart_without p [] ys apart = apart.1
apart_without p (x ∷ xs) ys apart = (all_without _ p xs ys apart.0, apart_without p xs ys apart.1)

apart_from_one : (p : ℕ) (xs ys : List ℕ) → AreApart (xs ++ p ∷ ys) → IsApart p (xs ++ ys)
apart_from_one p [] ys apart = apart.0
apart_from_one p (x ∷ xs) ys apart = ((λ same. (all_back _ xs (p ∷ ys) apart.0).0 (sym same)), apart_from_one p xs ys apart.1)

-- what is true of all below a place that closes the ring is not true of it
below_apart : (end : ℕ) (ps : List ℕ) → AllByRecursion (λ p. p < end) ps → IsApart end ps
below_apart end [] all = tt
below_apart end (p ∷ ps) all = let lt = all.0 in ((λ same. omega (arith, lt, same)), below_apart end ps all.1)

module _ (ns : List Node) (p : ℕ) where
  -- The one before a place is the first of the chain, or one before it there.
  before_is : (P : ℕ → Type 0) (from to : ℕ) (xs ys : List ℕ) → AreLinked ns from (xs ++ p ∷ ys) to → P from → AllByRecursion P xs → P (newer_at ns p)
  before_is P from to [] ys links first all = subst P (sym links.1) first
  before_is P from to (x ∷ xs) ys links first all = before_is P x to xs ys links.2 all.0 all.1

  -- The one behind it is the last of the chain, or the next one there.
  behind_is : (P : ℕ → Type 0) (from to : ℕ) (xs ys : List ℕ) → AreLinked ns from (xs ++ p ∷ ys) to → P to → AllByRecursion P ys → P (older_at ns p)
  behind_is P from to [] [] links last all = subst P (sym links.2.0) last
  behind_is P from to [] (y ∷ ys) links last all = subst P (sym links.2.0) all.0
  behind_is P from to (x ∷ xs) ys links last all = behind_is P x to xs ys links.2 last all

  older_stays : (q : ℕ) → q ≢ newer_at ns p → older_at (unlinked ns p) q ≡ older_at ns q
  older_stays q apart = kept (λ n. n.older) (with_older ns (newer_at ns p) (older_at ns p)) (older_at ns p) q _ refl ∙ other (λ n. n.older) ns (newer_at ns p) q _ apart

  newer_stays : (q : ℕ) → q ≢ older_at ns p → newer_at (unlinked ns p) q ≡ newer_at ns q
  newer_stays q apart = other (λ n. n.newer) (with_older ns (newer_at ns p) (older_at ns p)) (older_at ns p) q _ apart ∙ kept (λ n. n.newer) ns (newer_at ns p) q _ refl

  older_is : newer_at ns p < length ns → older_at (unlinked ns p) (newer_at ns p) ≡ older_at ns p
  older_is lt = kept (λ n. n.older) (with_older ns (newer_at ns p) (older_at ns p)) (older_at ns p) (newer_at ns p) _ refl ∙ changed (λ n. n.older) ns (newer_at ns p) _ lt

  newer_is : older_at ns p < length ns → newer_at (unlinked ns p) (older_at ns p) ≡ newer_at ns p
  newer_is lt = changed (λ n. n.newer) (with_older ns (newer_at ns p) (older_at ns p)) (older_at ns p) _ (subst (λ (k : ℕ). older_at ns p < k) (sym (set_length ns (newer_at ns p) _)) lt)

  stay : (q : ℕ) (ys : List ℕ) → IsApart (newer_at ns p) ys → IsApart (older_at ns p) ys → AllByRecursion (λ q. (older_at (unlinked ns p) q ≡ older_at ns q) × (newer_at (unlinked ns p) q ≡ newer_at ns q)) ys
  stay q [] newer older = tt
  stay q (y ∷ ys) newer older = ((older_stays y newer.0, newer_stays y older.0), stay q ys newer.1 older.1)

  chain : (from to : ℕ) (xs ys : List ℕ) → newer_at ns p < length ns → older_at ns p < length ns → AreApart (xs ++ p ∷ ys) → IsApart from (xs ++ p ∷ ys) → IsApart to (xs ++ p ∷ ys)
      → AreLinked ns from (xs ++ p ∷ ys) to → AreLinked (unlinked ns p) from (xs ++ ys) to
  chain from to [] [] newer older apart first last links =
      (ap (older_at (unlinked ns p)) (sym links.1) ∙ older_is newer ∙ links.2.0, ap (newer_at (unlinked ns p)) (sym links.2.0) ∙ newer_is older ∙ links.1)
  chain from to [] (y ∷ ys) newer older apart first last links =
      let is_from : newer_at ns p ≡ from = links.1 in
      let is_y : older_at ns p ≡ y = links.2.0 in (
        ap (older_at (unlinked ns p)) (sym is_from) ∙ older_is newer ∙ is_y,
        ap (newer_at (unlinked ns p)) (sym is_y) ∙ newer_is older ∙ is_from,
        same_links ns (unlinked ns p) y to ys
            (older_stays y (λ same. first.1.0 (same ∙ is_from)))
            (stay y ys (subst (λ (k : ℕ). IsApart k ys) (sym is_from) first.1.1) (subst (λ (k : ℕ). IsApart k ys) (sym is_y) apart.1.0))
            (newer_stays to (λ same. last.1.0 (sym (same ∙ is_y))))
            links.2.2,
      )
  chain from to (x ∷ xs) ys newer older apart first last links =
      let not_from : newer_at ns p ≢ from = before_is (λ k. k ≢ from) x to xs ys links.2 first.0 (all_front _ xs (p ∷ ys) first.1) in
      let not_x : older_at ns p ≢ x = behind_is (λ k. k ≢ x) x to xs ys links.2 (λ same. last.0 (sym same)) (all_back _ xs (p ∷ ys) apart.0).1 in (
        older_stays from (λ same. not_from (sym same)) ∙ links.0,
        newer_stays x (λ same. not_x (sym same)) ∙ links.1,
        chain x to xs ys newer older apart.1 apart.0 last.1 links.2,
      )

-- places within the nodes
pub first_within : (ns : List Node) (end : ℕ) (ps : List ℕ) → IsRing ns end ps → older_at ns end < length ns
first_within ns end [] ring = let long = ring.long in subst (λ (k : ℕ). k < length ns) (sym ring.links.0) (omega (arith, long))
first_within ns end (p ∷ ps) ring = let long = ring.long in let lt = ring.within.0 in subst (λ (k : ℕ). k < length ns) (sym ring.links.0) (omega (arith, long, lt))

last_is : (ns : List Node) (P : ℕ → Type 0) (from to : ℕ) (ps : List ℕ) → AreLinked ns from ps to → P from → AllByRecursion P ps → P (newer_at ns to)
last_is ns P from to [] links first all = subst P (sym links.1) first
last_is ns P from to (p ∷ ps) links first all = last_is ns P p to ps links.2 all.0 all.1

-- each is below the number of nodes
within_nodes : (ns : List Node) (end : ℕ) (ps : List ℕ) → length ns ≡ end + 1 → AllByRecursion (λ p. p < end) ps → AllByRecursion (λ p. p < length ns) ps
within_nodes ns end [] long all = tt
within_nodes ns end (p ∷ ps) long all = let lt = all.0 in (omega (arith, long, lt), within_nodes ns end ps long all.1)

pub last_within : (ns : List Node) (end : ℕ) (ps : List ℕ) → IsRing ns end ps → newer_at ns end < length ns
last_within ns end ps ring = let long = ring.long in last_is ns (λ k. k < length ns) end end ps ring.links (omega (arith, long)) (within_nodes ns end ps ring.long ring.within)

pub place_within : (ns : List Node) (end p : ℕ) (xs ys : List ℕ) → IsRing ns end (xs ++ p ∷ ys) → (p < length ns) × (newer_at ns p < length ns) × (older_at ns p < length ns) × (p < end)
place_within ns end p xs ys ring =
    let long = ring.long in
    let within = within_nodes ns end (xs ++ p ∷ ys) ring.long ring.within in
    let at = all_back _ xs (p ∷ ys) within in
    let below : end < length ns = omega (arith, long) in (
      at.0,
      before_is ns p (λ k. k < length ns) end end xs ys ring.links below (all_front _ xs (p ∷ ys) within),
      behind_is ns p (λ k. k < length ns) end end xs ys ring.links below at.1,
      (all_back _ xs (p ∷ ys) ring.within).0,
    )

followed_links : (ns : List Node) (from to : ℕ) (ps : List ℕ) → AreLinked ns from ps to → followed ns from (length ps) ≡ ps
followed_links ns from to [] links = refl
followed_links ns from to (p ∷ ps) links = ap (λ (k : ℕ). k ∷ followed ns k (length ps)) links.0 ∙ ap (λ (l : List ℕ). p ∷ l) (followed_links ns p to ps links.2)

pub ring_followed : (ns : List Node) (end : ℕ) (ps : List ℕ) → IsRing ns end ps → followed ns end (length ps) ≡ ps
ring_followed ns end ps ring = followed_links ns end end ps ring.links

pub length_followed : (ns : List Node) (from n : ℕ) → length (followed ns from n) ≡ n
length_followed ns from zero = refl
length_followed ns from (suc n) = ap suc (length_followed ns (older_at ns from) n)

pub apart_unlinked : (ns : List Node) (end p : ℕ) (xs ys : List ℕ) → IsRing ns end (xs ++ p ∷ ys) → IsApart p (xs ++ ys)
apart_unlinked ns end p xs ys ring = apart_from_one p xs ys ring.apart

pub ring_unlinked : (ns : List Node) (end p : ℕ) (xs ys : List ℕ) → IsRing ns end (xs ++ p ∷ ys) → IsRing (unlinked ns p) end (xs ++ ys)
ring_unlinked ns end p xs ys ring =
    let at = place_within ns end p xs ys ring in
    let closes = below_apart end (xs ++ p ∷ ys) ring.within in
    record {
      long = length_unlinked ns p ∙ ring.long;
      within = all_without _ p xs ys ring.within;
      apart = apart_without p xs ys ring.apart;
      links = chain ns p end end xs ys at.1 at.2 ring.apart closes closes ring.links;
    }

module _ (ns : List Node) (end p : ℕ) (lt : p < end) (long : length ns ≡ end + 1) where
  first : ℕ
  first = older_at ns end

  one_long : length (one ns end p) ≡ end + 1
  one_long = set_length ns p _ ∙ long

  two_long : length (two ns end p) ≡ end + 1
  two_long = set_length (one ns end p) p _ ∙ one_long

  three_long : length (three ns end p) ≡ end + 1
  three_long = set_length (two ns end p) (older_at ns end) _ ∙ two_long

  older_end : older_at (linked ns end p) end ≡ p
  older_end = changed (λ n. n.older) (three ns end p) end _ (let l = three_long in omega (arith, l))

  older_p : older_at (linked ns end p) p ≡ older_at ns end
  older_p =
      other (λ n. n.older) (three ns end p) end p _ (λ same. omega (arith, lt, same))
      ∙ kept (λ n. n.older) (two ns end p) (older_at ns end) p _ refl
      ∙ changed (λ n. n.older) (one ns end p) p _ (let l = one_long in omega (arith, lt, l))

  older_others : (q : ℕ) → q ≢ end → q ≢ p → older_at (linked ns end p) q ≡ older_at ns q
  older_others q not_end not_p =
      other (λ n. n.older) (three ns end p) end q _ not_end
      ∙ kept (λ n. n.older) (two ns end p) (older_at ns end) q _ refl
      ∙ other (λ n. n.older) (one ns end p) p q _ not_p
      ∙ kept (λ n. n.older) ns p q _ refl

  newer_first : older_at ns end < end + 1 → newer_at (linked ns end p) (older_at ns end) ≡ p
  newer_first within =
      kept (λ n. n.newer) (three ns end p) end (older_at ns end) _ refl
      ∙ changed (λ n. n.newer) (two ns end p) (older_at ns end) _ (subst (λ (k : ℕ). older_at ns end < k) (sym two_long) within)

  newer_others : (q : ℕ) → q ≢ older_at ns end → q ≢ p → newer_at (linked ns end p) q ≡ newer_at ns q
  newer_others q not_first not_p =
      kept (λ n. n.newer) (three ns end p) end q _ refl
      ∙ other (λ n. n.newer) (two ns end p) (older_at ns end) q _ not_first
      ∙ kept (λ n. n.newer) (one ns end p) p q _ refl
      ∙ other (λ n. n.newer) ns p q _ not_p

  newer_p : p ≢ older_at ns end → newer_at (linked ns end p) p ≡ end
  newer_p not_first =
      kept (λ n. n.newer) (three ns end p) end p _ refl
      ∙ other (λ n. n.newer) (two ns end p) (older_at ns end) p _ not_first
      ∙ kept (λ n. n.newer) (one ns end p) p p _ refl
      ∙ changed (λ n. n.newer) ns p _ (omega (arith, lt, long))

  rest_stays : (f : ℕ) (qs : List ℕ) → older_at ns end ≡ f → AllByRecursion (λ q. q < end) qs → IsApart p qs → IsApart f qs
      → AllByRecursion (λ q. (older_at (linked ns end p) q ≡ older_at ns q) × (newer_at (linked ns end p) q ≡ newer_at ns q)) qs
  rest_stays f [] is within apart others = tt
  rest_stays f (q ∷ qs) is within apart others =
      let below = within.0 in
      ((older_others q (λ same. omega (arith, below, same)) apart.0, newer_others q (λ same. others.0 (same ∙ is)) apart.0), rest_stays f qs is within.1 apart.1 others.1)

pub ring_linked : (ns : List Node) (end p : ℕ) (ps : List ℕ) → IsRing ns end ps → p < end → IsApart p ps → IsRing (linked ns end p) end (p ∷ ps)
ring_linked ns end p ps ring lt apart =
    record {
      long = length_linked ns end p ∙ ring.long;
      within = (lt, ring.within);
      apart = (apart, ring.apart);
      links = by ps ring.within ring.apart apart ring.links;
    }
  where
    long : length ns ≡ end + 1
    long = ring.long

    by : (qs : List ℕ) → AllByRecursion (λ q. q < end) qs → AreApart qs → IsApart p qs → AreLinked ns end qs end → AreLinked (linked ns end p) end (p ∷ qs) end
    by [] within distinct others links =
        let is_end : older_at ns end ≡ end = links.0 in (
          older_end ns end p lt long,
          newer_p ns end p lt long (λ same. omega (arith, lt, same ∙ is_end)),
          (older_p ns end p lt long ∙ is_end, ap (newer_at (linked ns end p)) (sym is_end) ∙ newer_first ns end p lt long (subst (λ (k : ℕ). k < end + 1) (sym is_end) (omega arith))),
        )
    by (y ∷ ys) within distinct others links =
        let is_y : older_at ns end ≡ y = links.0 in
        let below = within.0 in (
          older_end ns end p lt long,
          newer_p ns end p lt long (λ same. others.0 (sym (same ∙ is_y))),
          (
            older_p ns end p lt long ∙ is_y,
            ap (newer_at (linked ns end p)) (sym is_y) ∙ newer_first ns end p lt long (subst (λ (k : ℕ). k < end + 1) (sym is_y) (omega (arith, below))),
            same_links ns (linked ns end p) y end ys
                (older_others ns end p lt long y (λ same. omega (arith, below, same)) others.0)
                (rest_stays ns end p lt long y ys is_y within.1 others.1 distinct.0)
                (newer_others ns end p lt long end (λ same. omega (arith, below, same ∙ is_y)) (λ same. omega (arith, lt, same)))
                links.2,
          ),
        )

-- what stands before and behind
pub first_older : (ns : List Node) (end p : ℕ) (ps : List ℕ) → IsRing ns end (p ∷ ps) → older_at ns end ≡ p
first_older ns end p ps ring = ring.links.0

pub last_newer : (ns : List Node) (end p : ℕ) (ps : List ℕ) → IsRing ns end (ps ++ p ∷ []) → newer_at ns end ≡ p
last_newer ns end p ps ring = by end ps ring.links
  where
    by : (from : ℕ) (qs : List ℕ) → AreLinked ns from (qs ++ p ∷ []) end → newer_at ns end ≡ p
    by from [] links = links.2.1
    by from (q ∷ qs) links = by q qs links.2

pub next_older : (ns : List Node) (end p q : ℕ) (xs ys : List ℕ) → IsRing ns end (xs ++ p ∷ q ∷ ys) → older_at ns p ≡ q
next_older ns end p q xs ys ring = by end xs ring.links
  where
    by : (from : ℕ) (zs : List ℕ) → AreLinked ns from (zs ++ p ∷ q ∷ ys) end → older_at ns p ≡ q
    by from [] links = links.2.0
    by from (z ∷ zs) links = by z zs links.2

pub none_older : (ns : List Node) (end p : ℕ) (xs : List ℕ) → IsRing ns end (xs ++ p ∷ []) → older_at ns p ≡ end
none_older ns end p xs ring = by end xs ring.links
  where
    by : (from : ℕ) (zs : List ℕ) → AreLinked ns from (zs ++ p ∷ []) end → older_at ns p ≡ end
    by from [] links = links.2.0
    by from (z ∷ zs) links = by z zs links.2
