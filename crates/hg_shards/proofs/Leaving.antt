-- What is left of lists in a merge.
use Rattle.std.proofs.Common.{◌≡◌, ℕ, zero, suc, ◌+◌, ◌<◌, List, [], ◌∷◌, length, map, get_or, set, drop, replicate, Option, Some, Vec, refl, sym, ap, ◌∙◌, subst, arith, add-one}
use Rattle.std.proofs.lemmas.List.{length-map, length-set, map-set, length-replicate}
use Rattle.std.proofs.lemmas.Grind.{get_or_default_zero}
use Rattle.std.specs.List.{AllByRecursion}
use Rattle.hg_model.specs.declared.report.Report.{Report}
use Rattle.hg_shards.specs.declared.merge.Place.{Place}
use Rattle.hg_shards.specs.Merging.{Rises, merged, head_of, left, IsUnderWay, TakesNext, IsNextByHeads}
use Rattle.hg_shards.proofs.Taking.{rises_at}

dropped : (n : ℕ) (reports : List Report) (r : Report) (rest : List Report) → drop n reports ≡ r ∷ rest → (n < length reports) × ((e : Report) → get_or reports n e ≡ r) × (drop (suc n) reports ≡ rest)
dropped zero [] r rest h = absurd (cc h)
dropped zero (s ∷ reports) r rest h = (omega arith, λ e. cc h, cc h)
dropped (suc n) [] r rest h = absurd (cc h)
dropped (suc n) (s ∷ reports) r rest h = let d = dropped n reports r rest h in ((let lt = d.0 in omega arith), d.1, d.2)

each_set : {X : Type 0} (P : X → Type 0) (xs : List X) (k : ℕ) (x : X) → AllByRecursion P xs → P x → AllByRecursion P (set xs k x)
each_set P [] k x h p = h
each_set P (y ∷ xs) zero x h p = (p, h.1)
each_set P (y ∷ xs) (suc k) x h p = (h.0, each_set P xs k x h.1 p)

module _ {Z : Type 0} where
  length_left : (given : List ℕ) (lists : List (Vec Report Z)) → length given ≡ length lists → length (left given lists) ≡ length lists
  length_left [] [] h = refl
  length_left [] (l ∷ lists) h = absurd (omega arith)
  length_left (n ∷ given) [] h = absurd (omega arith)
  length_left (n ∷ given) (l ∷ lists) h = ap suc (length_left given lists (omega arith))

  get_left : (given : List ℕ) (lists : List (Vec Report Z)) (k : ℕ) (d : Vec Report Z) → length given ≡ length lists → k < length lists → get_or (left given lists) k [] ≡ drop (get_or given k 0) (get_or lists k d).items
  get_left [] [] k d h lt = absurd (omega arith)
  get_left [] (l ∷ lists) k d h lt = absurd (omega arith)
  get_left (n ∷ given) [] k d h lt = absurd (omega arith)
  get_left (n ∷ given) (l ∷ lists) zero d h lt = refl
  get_left (n ∷ given) (l ∷ lists) (suc k) d h lt = get_left given lists k d (omega arith) (omega arith)

  set_left : (given : List ℕ) (lists : List (Vec Report Z)) (k m : ℕ) (d : Vec Report Z) → length given ≡ length lists → k < length lists → set (left given lists) k (drop m (get_or lists k d).items) ≡ left (set given k m) lists
  set_left [] [] k m d h lt = absurd (omega arith)
  set_left [] (l ∷ lists) k m d h lt = absurd (omega arith)
  set_left (n ∷ given) [] k m d h lt = absurd (omega arith)
  set_left (n ∷ given) (l ∷ lists) zero m d h lt = refl
  set_left (n ∷ given) (l ∷ lists) (suc k) m d h lt = ap (λ more. drop n l.items ∷ more) (set_left given lists k m d (omega arith) (omega arith))

  left_all : (lists : List (Vec Report Z)) → left (replicate (length lists) 0) lists ≡ map (λ list. list.items) lists
  left_all [] = refl
  left_all (l ∷ lists) = ap (λ more. l.items ∷ more) (left_all lists)

  map_twice : (lists : List (Vec Report Z)) → map head_of (map (λ list. list.items) lists) ≡ map (λ list. head_of list.items) lists
  map_twice [] = refl
  map_twice (l ∷ lists) = ap (λ more. head_of l.items ∷ more) (map_twice lists)

  pub all_left : (lists : List (Vec Report Z)) (given : List ℕ) → given ≡ replicate (length lists) 0 → left given lists ≡ map (λ list. list.items) lists
  all_left lists given h = ap (λ (ns : List ℕ). left ns lists) h ∙ left_all lists

  pub begins : (lists : List (Vec Report Z)) (given : List ℕ) (heads : List (Option Place)) → AllByRecursion Rises (map (λ list. list.items) lists) → given ≡ replicate (length lists) 0 → heads ≡ map (λ list. head_of list.items) lists → IsUnderWay lists given heads
  begins lists given heads up zeros are =
      record {
        counts = ap length zeros ∙ length-replicate (length lists) 0;
        heads_are = are ∙ sym (map_twice lists) ∙ ap (map head_of) (sym (all_left lists given zeros));
        rise = subst (AllByRecursion Rises) (sym (all_left lists given zeros)) up;
      }

  -- Of list k one report is given, the one at place n.
  pub record Step (lists : List (Vec Report Z)) (given : List ℕ) (heads : List (Option Place)) (k : ℕ) : Type 0 where
    pub within : k < length lists
    pub counted : k < length given
    pub headed : k < length heads
    pub place : (n : ℕ) (d : Vec Report Z) → n ≡ get_or given k n → n < length (get_or lists k d).items
    pub under_way : (n : ℕ) (d : Vec Report Z) → n ≡ get_or given k n → IsUnderWay lists (set given k (n + 1)) (set heads k (head_of (drop (n + 1) (get_or lists k d).items)))
    pub comes : (n : ℕ) (d : Vec Report Z) (e : Report) → n ≡ get_or given k n → merged (left given lists) ≡ get_or (get_or lists k d).items n e ∷ merged (left (set given k (n + 1)) lists)

  pub step : (lists : List (Vec Report Z)) (given : List ℕ) (heads : List (Option Place)) (k : ℕ) → IsUnderWay lists given heads → IsNextByHeads heads (Some k) → Step lists given heads k
  step lists given heads k h next =
      record {
        within = within;
        counted = counted;
        headed = let lt = takes.within in let e = as_many in omega arith;
        place = λ n d is. (parts n d is).0;
        under_way = λ n d is.
            record {
              counts = length-set given k (n + 1) ∙ h.counts;
              heads_are =
                  (λ i. set (h.heads_are i) k (head_of (rest_is n d is i)))
                  ∙ sym (map-set head_of (left given lists) k takes.rest)
                  ∙ ap (map head_of) (left_after n d is);
              rise = subst (AllByRecursion Rises) (left_after n d is) (each_set Rises (left given lists) k takes.rest h.rise own.1);
            };
        comes = λ n d e is. takes.comes_first ∙ (λ i. sym ((parts n d is).1 e) i ∷ merged (left_after n d is i));
      }
    where
      takes : TakesNext (left given lists) k
      takes = next (left given lists) h.rise (sym h.heads_are)

      own : Rises (takes.report ∷ takes.rest)
      own = subst Rises takes.is_there (rises_at (left given lists) h.rise k takes.within)

      as_many : length heads ≡ length (left given lists)
      as_many = ap length h.heads_are ∙ length-map (left given lists) head_of

      within : k < length lists
      within = let lt = takes.within in let e = length_left given lists h.counts in omega arith

      counted : k < length given
      counted = let lt = within in let e = h.counts in omega arith

      parts : (n : ℕ) (d : Vec Report Z) → n ≡ get_or given k n → (n < length (get_or lists k d).items) × ((e : Report) → get_or (get_or lists k d).items n e ≡ takes.report) × (drop (suc n) (get_or lists k d).items ≡ takes.rest)
      parts n d is =
          dropped n (get_or lists k d).items takes.report takes.rest
          (ap (λ (m : ℕ). drop m (get_or lists k d).items) (is ∙ get_or_default_zero given k n counted) ∙ sym (get_left given lists k d h.counts within) ∙ takes.is_there)

      rest_is : (n : ℕ) (d : Vec Report Z) → n ≡ get_or given k n → drop (n + 1) (get_or lists k d).items ≡ takes.rest
      rest_is n d is = ap (λ (m : ℕ). drop m (get_or lists k d).items) (add-one n) ∙ (parts n d is).2

      left_after : (n : ℕ) (d : Vec Report Z) → n ≡ get_or given k n → set (left given lists) k takes.rest ≡ left (set given k (n + 1)) lists
      left_after n d is = ap (set (left given lists) k) (sym (rest_is n d is)) ∙ set_left given lists k (n + 1) d h.counts within
