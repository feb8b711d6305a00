-- What a crash leaves of two root files in the steps of a root.
use Rattle.std.proofs.Common.{IsTrue, ◌≡◌, ◌≢◌, inl, inr, ⊎_elim, ℕ, Bool, false, List, [], ◌∷◌, ◌++◌, Option, Some, None, OnOk, Ok, Err, Result, refl, sym, ◌∙◌, ap, subst, append_assoc, append-nil, arith}
use Rattle.std.proofs.lemmas.Bool.{cases_eq}
use Rattle.hg_disk.specs.State.{DiskState, IsImage, settled}
use Rattle.hg_disk.specs.Moments.{LeavesOnly, MayLeave, history}
use Rattle.hg_disk.specs.declared.disk.Disk as disk
use Rattle.hg_gate.specs.Batches.{IsClosed, closed_gate, open_gate}
use Rattle.hg_gate.specs.Gated.{IsBehindGate, IsClosedOrOpenWith, Rests, framed}
use Rattle.hg_root.specs.Lawful.{IsRoot}
use Rattle.hg_root.specs.Newest.{IsBelow, IsFormer, IsNewest, IsRootFile}
use Rattle.hg_root.specs.Pairs.{EachPair, IsEither, IsKnown, IsPrepared, Stands, newer, older}
use Rattle.hg_disk.proofs.Moments.{may_leave, still}
use Rattle.hg_root.specs.Parts.{Parts}
use Rattle.hg_root.specs.declared.pair.RootPair.{RootPair}

pub gate_is_closed : IsClosed (closed_gate ∷ [])
gate_is_closed = record { gate = closed_gate; rest = []; spelling = refl; closed = λ e. absurd (omega (arith, e)) }

-- a file that is behind an open gate stays open with its body, or is closed
pub closed_or_open : (body rest image : List ℕ) → IsBehindGate (framed body ++ rest) image → IsClosedOrOpenWith body image
closed_or_open body rest image found = elim (cases_eq found.gate open_gate) [
  | inl opened ↦ inr (record {
    rest = rest ++ found.rest;
    spelling = found.spelling ∙ ap (λ (b : ℕ). b ∷ ((framed body ++ rest) ++ found.rest)) opened ∙ ap (λ (l : List ℕ). open_gate ∷ l) (append_assoc (framed body) rest found.rest);
  })
  | inr shut ↦ inl (record { gate = found.gate; rest = (framed body ++ rest) ++ found.rest; spelling = found.spelling; closed = shut })
]

pub is_former : (root : Option Parts) → IsFormer root root
is_former None = tt
is_former (Some parts) = refl

pub on_ok : {T E : Type 0} {A B : Type 0} (result : Result T E) → (A → B) → OnOk result A → OnOk result B
on_ok (Ok value) f is = f is
on_ok (Err error) f is = is

module _ {D : Type 0} (g : disk.Ghosts D) where
  -- a file at rest has one image
  rests_is : (d : D) (file bytes : List ℕ) → g.state d ≡ settled file → IsImage (g.state d) bytes → bytes ≡ file
  rests_is d file bytes rests is = (subst (λ (s : DiskState). IsImage s bytes) rests is).clean refl

  -- a call of the older file alone
  pub one_file : (old new : RootPair D) (P : List ℕ → Type 0) (Q : List ℕ → List ℕ → Type 0) (file : List ℕ) → newer new ≡ newer old → g.state (newer old) ≡ settled file → LeavesOnly g (older old) (older new) P
      → ((one : List ℕ) → P one → Q one file) → EachPair g old new Q
  one_file old new P Q file same rests only then = record {
    older_goes = (only.later, only.has_gone, only.kept);
    newer_goes = ([], ap (history g) same, subst (λ (d : D). IsTrue (g.reads_were_true d) → IsTrue (g.reads_were_true (newer old))) (sym same) (λ were. were));
    each = λ one other may_one may_other.
        let is = rests_is (newer old) file other rests (still g (newer old) other (subst (λ (d : D). MayLeave g (newer old) d other) same may_other)) in
        subst (Q one) (sym is) (then one (may_leave g (older old) (older new) P one only may_one));
  }

  -- no call
  pub no_call : (p : RootPair D) (root former : Option Parts) → Stands g p root former → EachPair g p p (IsNewest root former)
  no_call p root former stands = record {
    older_goes = ([], refl, λ were. were);
    newer_goes = ([], refl, λ were. were);
    each = λ one other may_one may_other.
        let is_one = rests_is (older p) stands.older_file one stands.older_rests.durable (still g (older p) one may_one) in
        let is_other = rests_is (newer p) stands.newer_file other stands.newer_rests.durable (still g (newer p) other may_other) in
        subst (λ (bytes : List ℕ). IsNewest root former bytes other) (sym is_one) (subst (IsNewest root former stands.older_file) (sym is_other)
        (record { lesser = former; among = is_former former; below = stands.below; either = inl (stands.older_has, stands.newer_has) }));
  }

  with_closed : (root former : Option Parts) (one other : List ℕ) → IsClosed one → IsRootFile other root → IsNewest root former one other
  with_closed root former one other closed has = record { lesser = None; among = tt; below = tt; either = inl (closed, has) }

  -- the gate of the older file is closed
  pub closing : (old new : RootPair D) (root former : Option Parts) → newer new ≡ newer old → old.is_closed ≡ false → Stands g old root former
      → ((gate : ℕ) (rest : List ℕ) → Rests g old.older (gate ∷ rest) → LeavesOnly g (older old) (older new) (IsBehindGate rest)) → EachPair g old new (IsNewest root former)
  closing old new root former same is_open stands moments =
      let known : (q : Parts) × (former ≡ Some q) = subst (λ (b : Bool). IsKnown b former) is_open stands.known in
      let has : IsRootFile stands.older_file (Some known.0) = subst (IsRootFile stands.older_file) known.1 stands.older_has in
      let body = has.0 in
      let rests : Rests g old.older (open_gate ∷ (framed body ++ has.1.rest)) = subst (Rests g old.older) has.1.spelling stands.older_rests in
      one_file old new (IsBehindGate (framed body ++ has.1.rest)) (IsNewest root former) stands.newer_file same stands.newer_rests.durable (moments open_gate (framed body ++ has.1.rest) rests) (λ one behind.
      ⊎_elim (λ closed. with_closed root former one stands.newer_file closed stands.newer_has)
      (λ opened. record { lesser = Some known.0; among = known.1; below = subst (λ (q : Option Parts). IsBelow q root) known.1 stands.below; either = inl ((body, opened, has.2), stands.newer_has) })
      (closed_or_open body has.1.rest one behind))

  -- the body is written
  pub writing : (old new : RootPair D) (root : Option Parts) (rest : List ℕ) → newer new ≡ newer old → IsPrepared g old root rest
      → ((gate : ℕ) (rest : List ℕ) → Rests g old.older (gate ∷ rest) → gate ≢ open_gate → LeavesOnly g (older old) (older new) IsClosed) → EachPair g old new (IsNewest root None)
  writing old new root rest same prepared moments =
      one_file old new IsClosed (IsNewest root None) prepared.newer_file same prepared.newer_rests.durable (moments prepared.gate rest prepared.older_rests prepared.shut)
      (λ one closed. with_closed root None one prepared.newer_file closed prepared.newer_has)

  -- the gate is opened
  pub opening : (old new : RootPair D) (root : Option Parts) (next : Parts) (body : List ℕ) → newer new ≡ newer old → IsPrepared g old root (framed body) → IsRoot body next → IsBelow root (Some next)
      → ((gate : ℕ) (body rest : List ℕ) → Rests g old.older (gate ∷ (framed body ++ rest)) → LeavesOnly g (older old) (older new) (IsClosedOrOpenWith body)) → EachPair g old new (IsEither root (Some next))
  opening old new root next body same prepared is below moments =
      let rests : Rests g old.older (prepared.gate ∷ (framed body ++ [])) = subst (λ (l : List ℕ). Rests g old.older (prepared.gate ∷ l)) (sym (append-nil (framed body))) prepared.older_rests in
      one_file old new (IsClosedOrOpenWith body) (IsEither root (Some next)) prepared.newer_file same prepared.newer_rests.durable (moments prepared.gate body [] rests) (λ one found.
      ⊎_elim (λ closed. inl (with_closed root None one prepared.newer_file closed prepared.newer_has))
      (λ opened. inr (record { lesser = root; among = is_former root; below = below; either = inr ((body, opened, is), prepared.newer_has) })) found)
