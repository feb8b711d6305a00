-- Old numbers keep their sets, so what is remembered stays true.
use Rattle.std.proofs.Common.{◌≡◌, ℕ, ◌<◌, ◌≤◌, Bool, true, List, [], ◌∷◌, ◌++◌, length, set, filter, Option, Some, None, IfOk, IfSome, Result, Ok, Err, ◌⊎◌, inl, inr, replicate, refl, sym, ap, ◌∙◌, subst, arith, length-append, length-set}
use Rattle.std.specs.List.{list_all}
use Rattle.std.proofs.lemmas.Bool.{and_parts}
use Rattle.std.proofs.lemmas.List.{get_or_append_left, get_or_push, length-replicate, nil_from_length}
use Rattle.std.proofs.lemmas.List.Elements.{All-weaker, All-set, All-replicate}
use Rattle.hg_model.specs.Sets.{common, contains, with_member}
use Rattle.hg_sets.specs.declared.fault.SetFault.{SetFault}
use Rattle.hg_sets.specs.declared.fault.SetFault.TheVariants.{Full, OutOfMemory}
use Rattle.hg_sets.specs.declared.memo.KnownJoin.{KnownJoin}
use Rattle.hg_sets.specs.declared.memo.KnownMeet.{KnownMeet}
use Rattle.hg_sets.specs.declared.memo.TheConstants.{JOINS, MEETS, LONGEST}
use Rattle.hg_sets.specs.Interning.{Table, AreSets, StandsAt, Interns, KeepsNumbers, set_at, with_set}
use Rattle.hg_sets.proofs.Rising.{common-nil}
use Rattle.hg_sets.specs.Remembered.{IsTrueJoin, IsTrueMeet, AreTrueJoins, AreTrueMeets, others_of}

-- a table that is as it was, or has one set more, keeps every number
kept_same : (old new : Table) → new ≡ old → KeepsNumbers old new
kept_same old new e = record {
  limit = ap (λ (t : Table). t.limit) e;
  sets = λ id lt. subst (λ (t : Table). StandsAt t.sets (set_at old.sets id) id) (sym e) (lt, refl);
}

kept_more : (old new : Table) (xs : List ℕ) → new ≡ with_set old xs → KeepsNumbers old new
kept_more old new xs e = record {
  limit = ap (λ (t : Table). t.limit) e;
  sets = λ id lt. subst (λ (t : Table). StandsAt t.sets (set_at old.sets id) id) (sym e) (omega (arith, length-append old.sets (xs ∷ [])), get_or_append_left old.sets (xs ∷ []) [] id lt);
}

pub keeps : (old new : Table) (xs : List ℕ) (r : Result ℕ SetFault) → Interns old xs r new → KeepsNumbers old new
keeps old new xs r (inl there) = kept_same old new there.3
keeps old new xs (Ok id) (inr added) = kept_more old new xs added.1.2
keeps old new xs (Err Full) (inr added) = kept_same old new added.1.1
keeps old new xs (Err OutOfMemory) (inr added) = kept_same old new added.1.1

join_kept : (old new : Table) (known : KnownJoin) → KeepsNumbers old new → IsTrueJoin old.sets known → IsTrueJoin new.sets known
join_kept old new known k h =
    let set_kept = k.sets known.set h.below in
    let answer_kept = k.sets known.answer h.answer.0 in
    record {
      below = set_kept.0;
      answer = (answer_kept.0, answer_kept.1 ∙ h.answer.1 ∙ ap (λ set. with_member set known.member) (sym set_kept.1));
    }

meet_kept : (old new : Table) (known : KnownMeet) → KeepsNumbers old new → IsTrueMeet old.sets known → IsTrueMeet new.sets known
meet_kept old new known k h =
    let set_kept = k.sets known.set h.below in
    let answer_kept = k.sets known.answer h.answer.0 in
    record {
      short = h.short;
      below = set_kept.0;
      answer = (answer_kept.0, answer_kept.1 ∙ h.answer.1 ∙ ap (λ set. common set (others_of known)) (sym set_kept.1));
    }

if_some_weaker : {A : Type 0} (P Q : A → Type 0) → ((x : A) → P x → Q x) → (o : Option A) → IfSome o P → IfSome o Q
if_some_weaker P Q f None h = h
if_some_weaker P Q f (Some x) h = f x h

pub joins_kept : (old new : Table) (joins : List (Option KnownJoin)) → KeepsNumbers old new → AreTrueJoins old.sets joins → AreTrueJoins new.sets joins
joins_kept old new joins k h = record {
  places = h.places;
  each = All-weaker (λ o. IfSome o (IsTrueJoin old.sets)) (λ o. IfSome o (IsTrueJoin new.sets))
      (λ o. if_some_weaker (IsTrueJoin old.sets) (IsTrueJoin new.sets) (λ known. join_kept old new known k) o) joins h.each;
}

pub meets_kept : (old new : Table) (meets : List (Option KnownMeet)) → KeepsNumbers old new → AreTrueMeets old.sets meets → AreTrueMeets new.sets meets
meets_kept old new meets k h = record {
  places = h.places;
  each = All-weaker (λ o. IfSome o (IsTrueMeet old.sets)) (λ o. IfSome o (IsTrueMeet new.sets))
      (λ o. if_some_weaker (IsTrueMeet old.sets) (IsTrueMeet new.sets) (λ known. meet_kept old new known k) o) meets h.each;
}

-- one more is remembered
pub joins_more : (sets : List (List ℕ)) (joins : List (Option KnownJoin)) (place : ℕ) (known : KnownJoin) → AreTrueJoins sets joins → IsTrueJoin sets known → AreTrueJoins sets (set joins place (Some known))
joins_more sets joins place known h more = record {
  places = length-set joins place (Some known) ∙ h.places;
  each = All-set (λ o. IfSome o (IsTrueJoin sets)) joins place (Some known) more h.each;
}

pub meets_more : (sets : List (List ℕ)) (meets : List (Option KnownMeet)) (place : ℕ) (known : KnownMeet) → AreTrueMeets sets meets → IsTrueMeet sets known → AreTrueMeets sets (set meets place (Some known))
meets_more sets meets place known h more = record {
  places = length-set meets place (Some known) ∙ h.places;
  each = All-set (λ o. IfSome o (IsTrueMeet sets)) meets place (Some known) more h.each;
}

-- at first nothing is remembered
pub joins_none : (sets : List (List ℕ)) → AreTrueJoins sets (replicate JOINS None)
joins_none sets = record { places = length-replicate {A = Option KnownJoin} JOINS None; each = All-replicate (λ o. IfSome o (IsTrueJoin sets)) JOINS None tt }

pub meets_none : (sets : List (List ℕ)) → AreTrueMeets sets (replicate MEETS None)
meets_none sets = record { places = length-replicate {A = Option KnownMeet} MEETS None; each = All-replicate (λ o. IfSome o (IsTrueMeet sets)) MEETS None tt }

-- a subset has all its members in common with the others
pub common-subset : (xs ys : List ℕ) → list_all (contains ys) xs ≡ true → common xs ys ≡ xs
common-subset xs ys h = kept (contains ys) xs h
  where
    kept : (p : ℕ → Bool) (xs : List ℕ) → list_all p xs ≡ true → filter p xs ≡ xs
    kept p [] h = refl
    kept p (x ∷ xs) h =
        let parts = and_parts (p x) (list_all p xs) h in
        rw parts.0 (ap (λ rest. x ∷ rest) (kept p xs parts.1))

-- what a new answer says of the table as it is afterwards
pub answered : (old new : Table) (xs : List ℕ) (id : ℕ) → Interns old xs (Ok id) new → StandsAt new.sets xs id
answered old new xs id (inl there) =
    let same : id ≡ there.0 = cc in
    subst (λ (t : Table). StandsAt t.sets xs id) (sym there.3) (subst (StandsAt old.sets xs) (sym same) there.1)
answered old new xs id (inr added) =
    subst (λ (t : Table). StandsAt t.sets xs id) (sym added.1.2) (subst (StandsAt (old.sets ++ xs ∷ []) xs) (sym added.1.1) (omega (arith, length-append old.sets (xs ∷ [])), get_or_push old.sets xs [] (length old.sets) refl))

pub answered_ok : (old new : Table) (xs : List ℕ) (r : Result ℕ SetFault) → Interns old xs r new → IfOk r (StandsAt new.sets xs)
answered_ok old new xs (Ok id) h = answered old new xs id h
answered_ok old new xs (Err fault) h = tt

-- a new answer is one to remember
pub new_join : (old new : Table) (a member id : ℕ) → a < length old.sets → Interns old (with_member (set_at old.sets a) member) (Ok id) new →
    IsTrueJoin new.sets (record { set = a; member = member; answer = id })
new_join old new a member id lt exact =
    let kept = (keeps old new (with_member (set_at old.sets a) member) (Ok id) exact).sets a lt in
    record { below = kept.0; answer = subst (λ set. StandsAt new.sets (with_member set member) id) (sym kept.1) (answered old new (with_member (set_at old.sets a) member) id exact) }

pub new_meet : (old new : Table) (a id : ℕ) (others : List ℕ) (known : KnownMeet) → a < length old.sets → Interns old (common (set_at old.sets a) others) (Ok id) new →
    known.set ≡ a → others_of known ≡ others → known.count ≤ LONGEST → known.answer ≡ id → IsTrueMeet new.sets known
new_meet old new a id others known lt exact set_is others_are short answer_is =
    let kept = (keeps old new (common (set_at old.sets a) others) (Ok id) exact).sets a lt in
    let set_same : set_at old.sets a ≡ set_at new.sets known.set = sym kept.1 ∙ ap (set_at new.sets) (sym set_is) in
    let same : common (set_at old.sets a) others ≡ common (set_at new.sets known.set) (others_of known) = λ j. common (set_same j) (sym others_are j) in
    record {
      short = short;
      below = subst (λ n. n < length new.sets) (sym set_is) kept.0;
      answer = subst (StandsAt new.sets (common (set_at new.sets known.set) (others_of known))) (sym answer_is)
          (subst (λ set. StandsAt new.sets set id) same (answered old new (common (set_at old.sets a) others) id exact));
    }

-- what the empty set has in common with others, or a set with no others
pub common_empty : (t : Table) (a : ℕ) (others : List ℕ) → AreSets t → (a ≡ 0) ⊎ (length others ≡ 0) → StandsAt t.sets (common (set_at t.sets a) others) 0
common_empty t a others h (inl zero_is) = (h.some, h.first_empty ∙ sym (ap (λ set. common set others) (ap (set_at t.sets) zero_is ∙ h.first_empty)))
common_empty t a others h (inr none) = (h.some, h.first_empty ∙ sym (ap (common (set_at t.sets a)) (nil_from_length others none) ∙ common-nil (set_at t.sets a)))

-- a set that stands in the table is found
pub found : (t : Table) (xs : List ℕ) (id : ℕ) → StandsAt t.sets xs id → Interns t xs (Ok id) t
found t xs id h = inl (id, h, refl, refl)
