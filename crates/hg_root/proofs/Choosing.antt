-- Which of two root files has the newest root.
use Rattle.std.proofs.Common.{IsTrue, ◌≡◌, ◌⊎◌, inl, inr, ⊎_elim, ℕ, ◌+◌, ◌<◌, ◌≤◌, ◌^◌, Bool, true, false, not, is_some, cond, List, [], Option, Some, None, Result, Ok, Err, IfOk, OnErr, length, get_or, refl, sym, ◌∙◌, ap, subst, arith}
use Rattle.std.proofs.lemmas.Bool.{cases_lt}
use Rattle.hg_disk.specs.State.{DiskState, settled}
use Rattle.hg_disk.specs.declared.disk.Disk as disk
use Rattle.hg_gate.specs.Batches.{IsClosed}
use Rattle.hg_gate.specs.Gated.{IsOpenWith, Rests}
use Rattle.hg_gate.specs.declared.gated.Gated.{Gated}
use Rattle.hg_gate.proofs.Opening.{not_closed, one_body}
use Rattle.hg_gate.specs.declared.fault.GateFault.{GateFault}
use Rattle.hg_gate.specs.declared.fault.GateFault.TheVariants as gate
use Rattle.hg_root.specs.declared.fault.RootFault.TheVariants.{Damaged}
use Rattle.hg_root.specs.Fault.{of_gate}
use Rattle.hg_root.specs.Finding.{AreRootsOf, IsDue, WasRead, number_in, root_in}
use Rattle.hg_root.specs.Lawful.{IsRoot}
use Rattle.hg_root.specs.Opening.{IsSomeRoot}
use Rattle.hg_root.specs.Newest.{IsBelow, IsFormer, IsNewest, IsRootFile}
use Rattle.hg_root.specs.Pairs.{IsKnown, ReadsWereTrue, Stands, failures, first_bytes, first_of, newer, older, second_bytes, second_of}
use Rattle.hg_root.specs.Parts.{Parts}
use Rattle.hg_root.specs.Roots.{parts_of}
use Rattle.hg_root.specs.declared.root.Root.{Root}
use Rattle.hg_root.specs.declared.pair.Newest.{Newest}
use Rattle.hg_root.specs.declared.pair.RootPair.{RootPair}
use Rattle.hg_root.proofs.Bodies.{one_reading}
use Rattle.hg_root.proofs.Pairs.{is_former}

-- ---- results

pub if_ok : {T E : Type 0} {P Q : T → Type 0} (result : Result T E) → ((x : T) → P x → Q x) → IfOk result P → IfOk result Q
if_ok (Ok x) f is = f x is
if_ok (Err e) f is = is

pub on_err : {T E : Type 0} {A B : Type 0} (result : Result T E) → (A → B) → OnErr result A → OnErr result B
on_err (Ok x) f is = is
on_err (Err e) f is = f is

pub in_err : {T E : Type 0} {A : Type 0} (result : Result T E) → A → OnErr result A
in_err (Ok x) is = tt
in_err (Err e) is = is

pub not_so : (b : Bool) → (b ≡ true → ⊥) → b ≡ false
not_so true none = absurd (none refl)
not_so false none = refl

-- ---- what a file has

closed_open : (bytes body : List ℕ) → IsClosed bytes → IsOpenWith body bytes → ⊥
closed_open bytes body closed opened = not_closed bytes (ap (λ (l : List ℕ). get_or l 0 0) opened.spelling) closed

-- a file has one root, or none
pub one_root : (bytes : List ℕ) (x y : Option Parts) → length bytes < 2 ^ 64 → IsRootFile bytes x → IsRootFile bytes y → x ≡ y
one_root bytes None None small a b = refl
one_root bytes None (Some q) small a b = absurd (closed_open bytes b.0 a b.1)
one_root bytes (Some p) None small a b = absurd (closed_open bytes a.0 b a.1)
one_root bytes (Some p) (Some q) small a b =
    let body : a.0 ≡ b.0 = one_body bytes a.0 b.0 small a.1 b.1 in
    ap (λ (r : Parts). Some r) (one_reading b.0 p q (subst (λ (l : List ℕ). IsRoot l p) body a.2) b.2)

-- a file that is not closed, and open with no root's body, has no root
pub no_such_root : (bytes : List ℕ) → (IsClosed bytes → ⊥) → ((body : List ℕ) → IsOpenWith body bytes → IsSomeRoot body → ⊥) → (x : Option Parts) → IsRootFile bytes x → ⊥
no_such_root bytes shut none None has = shut has
no_such_root bytes shut none (Some p) has = none has.0 has.1 (p, has.2)

pub of_damaged : (fault : GateFault) → of_gate fault ≡ Damaged → fault ≡ gate.Damaged
of_damaged gate.Damaged is = refl
of_damaged gate.Broken is = absurd cc
of_damaged gate.DeviceFault is = absurd cc
of_damaged gate.OutOfMemory is = absurd cc

-- an open file with another body has no root
pub no_root : (bytes body : List ℕ) → length bytes < 2 ^ 64 → IsOpenWith body bytes → ((p : Parts) → IsRoot body p → ⊥) → (x : Option Parts) → IsRootFile bytes x → ⊥
no_root bytes body small opened none None has = closed_open bytes body has opened
no_root bytes body small opened none (Some p) has = none p (subst (λ (l : List ℕ). IsRoot l p) (one_body bytes has.0 body small has.1 opened) has.2)

-- ---- the newest of two

mutual_below : (x y : Option Parts) → IsBelow x y → IsBelow y x → x ≡ y
mutual_below None None a b = refl
mutual_below None (Some q) a b = absurd b
mutual_below (Some p) None a b = absurd a
mutual_below (Some p) (Some q) a b = absurd (omega (arith, a, b))

crossed : (r s l m : Option Parts) → l ≡ s → r ≡ m → IsBelow l r → IsBelow m s → r ≡ s
crossed r s l m first second a b = mutual_below r s (subst (λ (x : Option Parts). IsBelow x s) (sym second) b) (subst (λ (x : Option Parts). IsBelow x r) first a)

pub one_newest : (root former other earlier : Option Parts) (one two : List ℕ) → length one < 2 ^ 64 → length two < 2 ^ 64 → IsNewest root former one two → IsNewest other earlier one two → root ≡ other
one_newest root former other earlier one two small short a b = both a.either b.either where
  both : (IsRootFile one a.lesser × IsRootFile two root) ⊎ (IsRootFile one root × IsRootFile two a.lesser) → (IsRootFile one b.lesser × IsRootFile two other) ⊎ (IsRootFile one other × IsRootFile two b.lesser) → root ≡ other
  both (inl x) (inl y) = one_root two root other short x.1 y.1
  both (inr x) (inr y) = one_root one root other small x.0 y.0
  both (inl x) (inr y) = crossed root other a.lesser b.lesser (one_root one a.lesser other small x.0 y.0) (one_root two root b.lesser short x.1 y.1) a.below b.below
  both (inr x) (inl y) = crossed root other a.lesser b.lesser (one_root two a.lesser other short x.1 y.1) (one_root one root b.lesser small x.0 y.0) a.below b.below

-- the files may be told in either order
pub swapped : (root former : Option Parts) (one other : List ℕ) → IsNewest root former one other → IsNewest root former other one
swapped root former one other is = record { lesser = is.lesser; among = is.among; below = is.below; either = ⊎_elim (λ x. inr (x.1, x.0)) (λ x. inl (x.1, x.0)) is.either }

pub newest_of : (found : Newest) (one other : List ℕ) → AreRootsOf found one other → IsNewest (root_in found.root) (root_in found.former) one other
newest_of found one other are = record { lesser = root_in found.former; among = is_former (root_in found.former); below = are.below; either = are.either }

same_lesser : (root lesser x y : Option Parts) (one other : List ℕ) → length one < 2 ^ 64 → length other < 2 ^ 64 → root ≡ x
    → (IsRootFile one lesser × IsRootFile other root) ⊎ (IsRootFile one root × IsRootFile other lesser) → (IsRootFile one y × IsRootFile other x) ⊎ (IsRootFile one x × IsRootFile other y) → lesser ≡ y
same_lesser root lesser x y one other small short same (inl a) (inl b) = one_root one lesser y small a.0 b.0
same_lesser root lesser x y one other small short same (inr a) (inr b) = one_root other lesser y short a.1 b.1
same_lesser root lesser x y one other small short same (inl a) (inr b) = one_root one lesser x small a.0 b.0 ∙ sym same ∙ one_root other root y short a.1 b.1
same_lesser root lesser x y one other small short same (inr a) (inl b) = one_root other lesser x short a.1 b.1 ∙ sym same ∙ one_root one root y small a.0 b.0

-- no other roots are those of the files
pub only_roots : (found : Newest) (root former : Option Parts) (one other : List ℕ) → length one < 2 ^ 64 → length other < 2 ^ 64 → IsNewest root former one other → AreRootsOf found one other
    → (root ≡ root_in found.root) × IsFormer (root_in found.former) former
only_roots found root former one other small short is are =
    let x = root_in found.root in
    let y = root_in found.former in
    let same : root ≡ x = one_newest root former x y one other small short is (newest_of found one other are) in
    (same, subst (λ (l : Option Parts). IsFormer l former) (same_lesser root is.lesser x y one other small short same is.either are.either) is.among)

-- of two roots with distinct numbers one is below the other
pub below_by : (x y : Option Parts) (bytes : List ℕ) → IsRootFile bytes x → (number_in x ≡ number_in y → number_in x ≡ 0) → number_in x ≤ number_in y → IsBelow x y
below_by None y bytes has apart le = tt
below_by (Some p) None bytes has apart le = let some = has.2.lawful.head.number.0 in absurd (omega (arith, some, le))
below_by (Some p) (Some q) bytes has apart le =
    let some = has.2.lawful.head.number.0 in
    elim (cases_lt p.number q.number) [
      | inl lt ↦ lt
      | inr ge ↦ let none : p.number ≡ 0 = apart (omega (arith, le, ge)) in absurd (omega (arith, some, none))
    ]

-- where turns are due, the newer file has the lesser root; else the older one has
pub due_below : (x y : Option Parts) (m n : ℕ) (are : Bool) (bytes : List ℕ) → m ≡ number_in x → n ≡ number_in y → IsDue m n are → are ≡ true → (m ≡ n → m ≡ 0) → IsRootFile bytes y → IsBelow y x
due_below x y m n are bytes one two due is apart has =
    let le : n ≤ m = subst (IsDue m n) is due in
    below_by y x bytes has (λ same. let zero : m ≡ 0 = apart (omega (arith, one, two, same)) in omega (arith, one, two, same, zero)) (omega (arith, one, two, le))

pub other_below : (x y : Option Parts) (m n : ℕ) (are : Bool) (bytes : List ℕ) → m ≡ number_in x → n ≡ number_in y → IsDue m n are → are ≡ false → (m ≡ n → m ≡ 0) → IsRootFile bytes x → IsBelow x y
other_below x y m n are bytes one two due is apart has =
    let le : m ≤ n = subst (IsDue m n) is due in
    below_by x y bytes has (λ same. let zero : m ≡ 0 = apart (omega (arith, one, two, same)) in omega (arith, one, zero)) (omega (arith, one, two, le))

pub known_so : (found : Option Root) (is_none : Bool) → is_some found ≡ not is_none → IsKnown is_none (root_in found)
known_so None true is = refl
known_so None false is = absurd cc
known_so (Some root) true is = absurd cc
known_so (Some root) false is = (parts_of root, refl)

level_below : (x y : Option Parts) → 1 ≤ number_in x → number_in x ≡ number_in y → IsBelow x y → ⊥
level_below None y some level below = omega (arith, some)
level_below (Some p) None some level below = below
level_below (Some p) (Some q) some level below = omega (arith, level, below)

-- of two roots with one number none is the newest
pub none_newest : (x y : Option Parts) (one other : List ℕ) → length one < 2 ^ 64 → length other < 2 ^ 64 → IsRootFile one x → IsRootFile other y → 1 ≤ number_in x → number_in x ≡ number_in y
    → (root former : Option Parts) → IsNewest root former one other → ⊥
none_newest x y one other small short has has_other some level root former is = of_either is.either where
  of_either : (IsRootFile one is.lesser × IsRootFile other root) ⊎ (IsRootFile one root × IsRootFile other is.lesser) → ⊥
  of_either (inl h) =
      level_below x y some level (subst (λ (r : Option Parts). IsBelow x r) (one_root other root y short h.1 has_other) (subst (λ (l : Option Parts). IsBelow l root) (one_root one is.lesser x small h.0 has) is.below))
  of_either (inr h) =
      level_below y x (omega (arith, some, level)) (sym level)
      (subst (λ (r : Option Parts). IsBelow y r) (one_root one root x small h.0 has) (subst (λ (l : Option Parts). IsBelow l root) (one_root other is.lesser y short h.1 has_other) is.below))

pub no_newest : (one other : List ℕ) → ((x : Option Parts) → IsRootFile one x → ⊥) → (root former : Option Parts) → IsNewest root former one other → ⊥
no_newest one other none root former is = ⊎_elim (λ h. none is.lesser h.0) (λ h. none root h.0) is.either

module _ {D : Type 0} (g : disk.Ghosts D) where
  pub stands_so : (p : RootPair D) (x y : Option Parts) (one other : List ℕ) → Rests g p.older one → Rests g p.newer other → IsRootFile one x → IsRootFile other y → IsBelow x y
      → IsKnown p.is_closed x → IsKnown p.is_other_closed y → Stands g p y x
  stands_so p x y one other rests rests_other has has_other below known other_known = record {
    older_file = one;
    newer_file = other;
    older_rests = rests;
    newer_rests = rests_other;
    below = below;
    older_has = has;
    newer_has = has_other;
    known = known;
    newer_known = other_known;
  }

  -- A pair whose files were only read stands as before.
  pub stands_still : (p : RootPair D) (one other : Gated D) → ((file : List ℕ) → Rests g p.older file → Rests g one file) → ((file : List ℕ) → Rests g p.newer file → Rests g other file)
      → (root former : Option Parts) → Stands g p root former → Stands g (record p { older = one; newer = other }) root former
  stands_still p one other rests other_rests root former stands = record {
    older_file = stands.older_file;
    newer_file = stands.newer_file;
    older_rests = rests stands.older_file stands.older_rests;
    newer_rests = other_rests stands.newer_file stands.newer_rests;
    below = stands.below;
    older_has = stands.older_has;
    newer_has = stands.newer_has;
    known = stands.known;
    newer_known = stands.newer_known;
  }

  abbrev bytes : D → List ℕ
  bytes d = (g.state d).contents

  -- ---- the first file and the second one, where the older one is either

  roots_in_turn : (b : Bool) (a c : D) (found : Newest) → AreRootsOf found (bytes a) (bytes c) → AreRootsOf found (bytes (cond b c a)) (bytes (cond b a c))
  roots_in_turn true a c found are = record { below = are.below; either = ⊎_elim (λ x. inr (x.1, x.0)) (λ x. inl (x.1, x.0)) are.either }
  roots_in_turn false a c found are = are

  out_of_turn : (b : Bool) (a c : D) (root former : Option Parts) → IsNewest root former (bytes (cond b c a)) (bytes (cond b a c)) → IsNewest root former (bytes a) (bytes c)
  out_of_turn true a c root former is = swapped root former (bytes c) (bytes a) is
  out_of_turn false a c root former is = is

  pub to_first : (p : RootPair D) (found : Newest) → AreRootsOf found (bytes (older p)) (bytes (newer p)) → AreRootsOf found (first_bytes g p) (second_bytes g p)
  to_first p found are = roots_in_turn p.is_turned (older p) (newer p) found are

  pub of_first : (p : RootPair D) (root former : Option Parts) → IsNewest root former (first_bytes g p) (second_bytes g p) → IsNewest root former (bytes (older p)) (bytes (newer p))
  of_first p root former is = out_of_turn p.is_turned (older p) (newer p) root former is

  -- the reads of the older file and of the newer one, where those of the first and of the second were true
  pub both_true : (b : Bool) (a c : D) → IsTrue (g.reads_were_true (cond b c a)) × IsTrue (g.reads_were_true (cond b a c)) → IsTrue (g.reads_were_true a) × IsTrue (g.reads_were_true c)
  both_true true a c were = (were.1, were.0)
  both_true false a c were = were

  pub both_true_in : (b : Bool) (d e : D) (new : RootPair D) → first_of new ≡ cond b e d → second_of new ≡ cond b d e → ReadsWereTrue g new → IsTrue (g.reads_were_true d) × IsTrue (g.reads_were_true e)
  both_true_in b d e new first second were =
      both_true b d e (subst (λ (x : D). IsTrue (g.reads_were_true x)) first were.0, subst (λ (x : D). IsTrue (g.reads_were_true x)) second were.1)

  -- the reads of a pair over honest disks were true
  pub true_of : (IsTrue g.is_honest → (d : D) → IsTrue (g.reads_were_true d)) → IsTrue g.is_honest → (p : RootPair D) → ReadsWereTrue g p
  true_of law honest p = (law honest (first_of p), law honest (second_of p))

  pub not_read : (d : D) → WasRead g d d
  not_read d = record { state = refl; any_moment = record { later = []; has_gone = refl; first = λ image is. is; each = tt; kept = λ were. were }; calls = omega arith }

  read_first : (b : Bool) (a c d e : D) → WasRead g a d → WasRead g c e → WasRead g (cond b c a) (cond b e d)
  read_first true a c d e one other = other
  read_first false a c d e one other = one

  -- both files are read
  pub first_read : (p : RootPair D) (d e : D) → WasRead g (older p) d → WasRead g (newer p) e → WasRead g (first_of p) (cond p.is_turned e d)
  first_read p d e one other = read_first p.is_turned (older p) (newer p) d e one other

  pub second_read : (p : RootPair D) (d e : D) → WasRead g (older p) d → WasRead g (newer p) e → WasRead g (second_of p) (cond p.is_turned d e)
  second_read p d e one other = read_first p.is_turned (newer p) (older p) e d other one

  sum_in_turn : (b : Bool) (a c : D) → g.failures (cond b c a) + g.failures (cond b a c) ≡ g.failures a + g.failures c
  sum_in_turn true a c = omega arith
  sum_in_turn false a c = refl

  pub sum_of : (p : RootPair D) → failures g p ≡ g.failures (older p) + g.failures (newer p)
  sum_of p = sum_in_turn p.is_turned (older p) (newer p)

  state_first : (b : Bool) (a c : D) (one other : List ℕ) → g.state (cond b c a) ≡ settled one → g.state (cond b a c) ≡ settled other → (g.state a ≡ settled (cond b other one)) × (g.state c ≡ settled (cond b one other))
  state_first true a c one other h k = (k, h)
  state_first false a c one other h k = (h, k)

  -- the bytes of the older file and of the newer one, where both are durable
  pub durable_in : (p : RootPair D) (one other : List ℕ) → g.state (first_of p) ≡ settled one → g.state (second_of p) ≡ settled other
      → (g.state (older p) ≡ settled (cond p.is_turned other one)) × (g.state (newer p) ≡ settled (cond p.is_turned one other))
  durable_in p one other h k = state_first p.is_turned (older p) (newer p) one other h k

  pub file_is : (d : D) (file : List ℕ) (x : Option Parts) → g.state d ≡ settled file → IsRootFile (g.state d).contents x → IsRootFile file x
  file_is d file x rests has = subst (λ (s : DiskState). IsRootFile s.contents x) rests has
