-- The root files in each phase.
use Rattle.std.proofs.Common.{◌≡◌, ◌⊎◌, inl, inr, ⊎_elim, ℕ, Bool, true, false, if◌then◌else◌, List, [], ◌∷◌, Option, Some, None, refl, sym, subst}
use Rattle.hg_disk.specs.State.{DiskState, IsImage, settled}
use Rattle.hg_disk.specs.declared.disk.Disk as disk
use Rattle.hg_disk.proofs.Moments.{still}
use Rattle.hg_gate.specs.Gated.{framed}
use Rattle.hg_root.specs.Newest.{IsFormer, IsNewest, IsRootFile}
use Rattle.hg_root.specs.Pairs.{EachPair, IsEither, IsPrepared, first_of, newer, older, second_of}
use Rattle.hg_root.specs.Parts.{Parts}
use Rattle.hg_root.specs.declared.pair.RootPair.{RootPair}
use Rattle.hg_root.proofs.Pairs.{no_call}
use Rattle.hg_checkpoint.specs.declared.phase.Phase.{Phase}
use Rattle.hg_checkpoint.specs.declared.phase.Phase.TheVariants.{Flushing, Idle, Prepared, Sealed, Written}
use Rattle.hg_checkpoint.specs.Standing.{EachOf, EachRoots, RootsStand}

some_former : (lesser former : Option Parts) → IsFormer lesser None → IsFormer lesser former
some_former None former is = tt
some_former (Some parts) former is = absurd (cc is)

-- a former root or none, where there is none
pub any_former : (root former : Option Parts) (one other : List ℕ) → IsNewest root None one other → IsNewest root former one other
any_former root former one other is = record { lesser = is.lesser; among = some_former is.lesser former is.among; below = is.below; either = is.either }

module _ {D : Type 0} (g : disk.Ghosts D) where
  pub each_weaker : (old new : RootPair D) (P Q : List ℕ → List ℕ → Type 0) → ((one other : List ℕ) → P one other → Q one other) → EachPair g old new P → EachPair g old new Q
  each_weaker old new P Q implies has = record {
    older_goes = has.older_goes;
    newer_goes = has.newer_goes;
    each = λ one other may_one may_other. implies one other (has.each one other may_one may_other);
  }

  pub each_former : (old new : RootPair D) (root former : Option Parts) → EachPair g old new (IsNewest root None) → EachPair g old new (IsNewest root former)
  each_former old new root former has = each_weaker old new (IsNewest root None) (IsNewest root former) (λ one other is. any_former root former one other is) has

  at_rest : (d : D) (file bytes : List ℕ) → g.state d ≡ settled file → IsImage (g.state d) bytes → bytes ≡ file
  at_rest d file bytes rests is = (subst (λ (s : DiskState). IsImage s bytes) rests is).clean refl

  prepared_still : (p : RootPair D) (root former : Option Parts) (rest : List ℕ) → IsPrepared g p root rest → EachPair g p p (IsNewest root former)
  prepared_still p root former rest prepared = record {
    older_goes = ([], refl, λ were. were);
    newer_goes = ([], refl, λ were. were);
    each = λ one other may_one may_other.
        let is_one = at_rest (older p) (prepared.gate ∷ rest) one prepared.older_rests.durable (still g (older p) one may_one) in
        let is_other = at_rest (newer p) prepared.newer_file other prepared.newer_rests.durable (still g (newer p) other may_other) in
        let closed : IsRootFile (prepared.gate ∷ rest) None = record { gate = prepared.gate; rest = rest; spelling = refl; closed = prepared.shut } in
        subst (λ (bytes : List ℕ). IsNewest root former bytes other) (sym is_one) (subst (IsNewest root former (prepared.gate ∷ rest)) (sym is_other)
        (record { lesser = None; among = tt; below = tt; either = inl (closed, prepared.newer_has) }));
  }

  -- where no call comes, the files have the root that they had
  pub no_root_call : (phase : Phase) (p : RootPair D) (root former : Option Parts) (body : List ℕ) → RootsStand g phase p root former body → EachPair g p p (IsNewest root former)
  no_root_call Idle p root former body stands = no_call g p root former stands
  no_root_call Flushing p root former body stands = no_call g p root former stands
  no_root_call Sealed p root former body stands = no_call g p root former stands
  no_root_call Prepared p root former body stands = prepared_still p root former stands.0 stands.1
  no_root_call Written p root former body stands = prepared_still p root former (framed body) stands

  -- ---- the first file and the second one

  swapped : (root former : Option Parts) (one other : List ℕ) → IsNewest root former one other → IsNewest root former other one
  swapped root former one other is = record {
    lesser = is.lesser;
    among = is.among;
    below = is.below;
    either = ⊎_elim (λ has. inr (has.1, has.0)) (λ has. inl (has.1, has.0)) is.either;
  }

  in_turn : (t u : Bool) → u ≡ t → (older older_new newer newer_new : D) (P : List ℕ → List ℕ → Type 0) → ((one other : List ℕ) → P one other → P other one) → EachOf g older older_new newer newer_new P
      → EachOf g (if t then newer else older) (if u then newer_new else older_new) (if t then older else newer) (if u then older_new else newer_new) P
  in_turn true true same o p n m P sym_p has = record { first_goes = has.second_goes; second_goes = has.first_goes; each = λ one other a b. sym_p other one (has.each other one b a) }
  in_turn false false same o p n m P sym_p has = has
  in_turn true false same o p n m P sym_p has = absurd (cc same)
  in_turn false true same o p n m P sym_p has = absurd (cc same)

  to_first : (old new : RootPair D) (P : List ℕ → List ℕ → Type 0) → ((one other : List ℕ) → P one other → P other one) → new.is_turned ≡ old.is_turned → EachPair g old new P → EachRoots g old new P
  to_first old new P sym_p same has =
      in_turn old.is_turned new.is_turned same (older old) (older new) (newer old) (newer new) P sym_p (record { first_goes = has.older_goes; second_goes = has.newer_goes; each = has.each })

  pub moment : (old new : RootPair D) (root former : Option Parts) → new.is_turned ≡ old.is_turned → EachPair g old new (IsNewest root former) → EachRoots g old new (IsNewest root former)
  moment old new root former same has = to_first old new (IsNewest root former) (swapped root former) same has

  pub still_now : (phase : Phase) (p : RootPair D) (root former : Option Parts) (body : List ℕ) → RootsStand g phase p root former body → EachRoots g p p (IsNewest root former)
  still_now phase p root former body stands = moment p p root former refl (no_root_call phase p root former body stands)

  -- ---- a root is opened

  abbrev OneOf : Option Parts → Option Parts → Parts → List ℕ → List ℕ → Type 0
  OneOf root former next one other = IsNewest root former one other ⊎ IsNewest (Some next) root one other

  either_swapped : (root former : Option Parts) (next : Parts) (one other : List ℕ) → OneOf root former next one other → OneOf root former next other one
  either_swapped root former next one other (inl is) = inl (swapped root former one other is)
  either_swapped root former next one other (inr is) = inr (swapped (Some next) root one other is)

  with_former : (root former : Option Parts) (next : Parts) (one other : List ℕ) → IsEither root (Some next) one other → OneOf root former next one other
  with_former root former next one other (inl is) = inl (any_former root former one other is)
  with_former root former next one other (inr is) = inr is

  pub either_moment : (old new : RootPair D) (root former : Option Parts) (next : Parts) → new.is_turned ≡ old.is_turned → EachPair g old new (IsEither root (Some next)) → EachRoots g old new (OneOf root former next)
  either_moment old new root former next same has =
      to_first old new (OneOf root former next) (either_swapped root former next) same (each_weaker old new (IsEither root (Some next)) (OneOf root former next) (with_former root former next) has)

  pub turned_moment : (old mid new : RootPair D) (P : List ℕ → List ℕ → Type 0) → first_of new ≡ first_of mid → second_of new ≡ second_of mid → EachRoots g old mid P → EachRoots g old new P
  turned_moment old mid new P first second has =
      subst (λ (d : D). EachOf g (first_of old) d (second_of old) (second_of new) P) (sym first) (subst (λ (d : D). EachOf g (first_of old) (first_of mid) (second_of old) d P) (sym second) has)

  pub still_either : (phase : Phase) (p : RootPair D) (root former : Option Parts) (next : Parts) (body : List ℕ) → RootsStand g phase p root former body → EachRoots g p p (OneOf root former next)
  still_either phase p root former next body stands =
      let has = still_now phase p root former body stands in
      record { first_goes = has.first_goes; second_goes = has.second_goes; each = λ one other a b. inl (has.each one other a b) }
