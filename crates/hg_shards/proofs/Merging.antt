-- Rising reports are what is merged of their parts.
use Rattle.std.proofs.Common.{◌≡◌, ℕ, suc, ◌<◌, Bool, true, false, cond, ◌||◌, nat_eq, List, [], ◌∷◌, ◌++◌, filter, refl, sym, ap, ◌∙◌, arith, eqb-true, append_assoc}
use Rattle.std.proofs.lemmas.Bool.{false≢true, ne_eqb, or_parts}
use Rattle.std.specs.List.{AllByRecursion, flat_map, list_any}
use Rattle.hg_model.specs.declared.report.Report.{Report}
use Rattle.hg_model.proofs.Rising.{From}
use Rattle.hg_shards.specs.Merging.{IsBefore, Rises, sorted}
use Rattle.hg_shards.proofs.Order.{NotAfter, not_after, least_is_first, each_both, each_weaker}

pub each_filter : {X : Type 0} (P : X → Type 0) (p : X → Bool) (xs : List X) → AllByRecursion P xs → AllByRecursion P (filter p xs)
each_filter P p [] h = tt
each_filter P p (x ∷ xs) h = elim (p x) as (λ b. AllByRecursion P (cond b (x ∷ filter p xs) (filter p xs))) [ true ↦ (h.0, each_filter P p xs h.1) | false ↦ each_filter P p xs h.1 ]

each_flat : {K X : Type 0} (P : X → Type 0) (f : K → List X) → ((k : K) → AllByRecursion P (f k)) → (ks : List K) → AllByRecursion P (flat_map f ks)
each_flat P f h [] = tt
each_flat P f h (k ∷ ks) = each_both P (f k) (flat_map f ks) (h k) (each_flat P f h ks)

-- the number is among these
abbrev pub among : ℕ → List ℕ → Bool
among j ks = list_any (nat_eq j) ks

not_above : (j n : ℕ) (ks : List ℕ) → j < n → From n ks → among j ks ≡ false
not_above j n [] lt h = refl
not_above j n (k ∷ ks) lt h = ap (λ b. b || among j ks) (ne_eqb j k (λ e. let l = h.0 in omega arith)) ∙ not_above j (suc k) ks (let l = h.0 in omega arith) h.1

-- each report is of a part, and each part has something behind its reports
module _ (part : Report → ℕ) (behind : ℕ → List Report) where
  abbrev pub share : List Report → ℕ → List Report
  share reports k = filter (λ r. nat_eq (part r) k) reports ++ behind k

  elsewhere : (r : Report) (reports : List Report) (ks : List ℕ) → among (part r) ks ≡ false → flat_map (share (r ∷ reports)) ks ≡ flat_map (share reports) ks
  elsewhere r reports [] h = refl
  elsewhere r reports (k ∷ ks) h =
      let parts = or_parts (nat_eq (part r) k) (among (part r) ks) h in
      (λ i. (cond (parts.0 i) (r ∷ filter (λ s. nat_eq (part s) k) reports) (filter (λ s. nat_eq (part s) k) reports) ++ behind k) ++ elsewhere r reports ks parts.1 i)

  -- what stands in front of a report and behind it
  record Split (r : Report) (reports : List Report) (ks : List ℕ) : Type 0 where
    front : List Report
    rest : List Report
    with_it : flat_map (share (r ∷ reports)) ks ≡ front ++ r ∷ rest
    without : flat_map (share reports) ks ≡ front ++ rest
    low : AllByRecursion (IsBefore r) front
    high : AllByRecursion (IsBefore r) rest

  split : (r : Report) (reports : List Report) → AllByRecursion (IsBefore r) reports → ((k : ℕ) → AllByRecursion (IsBefore r) (behind k)) →
      (n : ℕ) (ks : List ℕ) → From n ks → among (part r) ks ≡ true → Split r reports ks
  split r reports first last n [] rise has = absurd (false≢true has)
  split r reports first last n (k ∷ ks) rise has =
      elim (nat_eq (part r) k) as (λ b. nat_eq (part r) k ≡ b → (b || among (part r) ks) ≡ true → Split r reports (k ∷ ks)) [
        | true ↦ λ is _.
            record {
              front = [];
              rest = share reports k ++ flat_map (share reports) ks;
              with_it =
                  (λ i. (cond (is i) (r ∷ filter (λ s. nat_eq (part s) k) reports) (filter (λ s. nat_eq (part s) k) reports) ++ behind k) ++ flat_map (share (r ∷ reports)) ks)
                  ∙ ap (λ more. r ∷ (share reports k ++ more)) (elsewhere r reports ks (not_above (part r) (suc k) ks (let e = eqb-true (part r) k is in omega arith) rise.1));
              without = refl;
              low = tt;
              high = each_both (IsBefore r) (share reports k) (flat_map (share reports) ks) (in_share k) (each_flat (IsBefore r) (share reports) in_share ks);
            }
        | false ↦ λ other later. behind_one other (split r reports first last (suc k) ks rise.1 later)
      ] refl has
    where
      in_share : (j : ℕ) → AllByRecursion (IsBefore r) (share reports j)
      in_share j = each_both (IsBefore r) (filter (λ s. nat_eq (part s) j) reports) (behind j) (each_filter (IsBefore r) (λ s. nat_eq (part s) j) reports first) (last j)

      behind_one : nat_eq (part r) k ≡ false → Split r reports ks → Split r reports (k ∷ ks)
      behind_one other s =
          record {
            front = share reports k ++ s.front;
            rest = s.rest;
            with_it =
                (λ i. (cond (other i) (r ∷ filter (λ s. nat_eq (part s) k) reports) (filter (λ s. nat_eq (part s) k) reports) ++ behind k) ++ s.with_it i)
                ∙ sym (append_assoc (share reports k) s.front (r ∷ s.rest));
            without = ap (λ more. share reports k ++ more) s.without ∙ sym (append_assoc (share reports k) s.front s.rest);
            low = each_both (IsBefore r) (share reports k) s.front (in_share k) s.low;
            high = s.high;
          }

  -- Rising reports come first, in their order.
  pub front_is_first : (n : ℕ) (ks : List ℕ) → From n ks → ((r : Report) → among (part r) ks ≡ true) →
      (reports : List Report) → Rises reports → AllByRecursion (λ r. (k : ℕ) → AllByRecursion (IsBefore r) (behind k)) reports →
      sorted (flat_map (share reports) ks) ≡ reports ++ sorted (flat_map behind ks)
  front_is_first n ks rise all [] up across = refl
  front_is_first n ks rise all (r ∷ reports) up across =
      let s = split r reports up.0 across.0 n ks rise (all r) in
      ap sorted s.with_it
      ∙ least_is_first r s.front s.rest s.low (each_weaker (IsBefore r) (NotAfter r) (not_after r) s.rest s.high)
      ∙ ap (λ rest. r ∷ rest) (ap sorted (sym s.without) ∙ front_is_first n ks rise all reports up.1 across.1)
