-- Where a race stands.
use Rattle.std.proofs.Common.{◌≡◌, ℕ, zero, suc, ◌+◌, ◌-◌, ◌*◌, ◌≤◌, Bool, true, false, cond, ◌||◌, nat_eq, List, [], ◌∷◌, ◌++◌, length, take, drop, map, filter, codes, refl, sym, ap, ◌∙◌, arith}
use Rattle.std.proofs.lemmas.Bool.{ne_eqb, false≢true}
use Rattle.std.proofs.lemmas.List.{length-append, take_all}
use Rattle.std.specs.List.{list_any}
use Rattle.std.specs.Fmt.{decimal}
use Rattle.hg_model.specs.declared.event.Event.{Event}
use Rattle.hg_model.specs.declared.event.Event.TheVariants.{Fork, Join, Lock, RdLock, Unlock, Read, Write, Alloc, Free, Send, Recv}
use Rattle.hg_model.specs.declared.report.Report.{Report}
use Rattle.hg_model.specs.Reporting.{all_reports, is_reported, report, reports_at_last, words_of}
use Rattle.hg_model.proofs.AllReported.{none_missed}
use Rattle.hg_check.specs.Life.{race_text}
use Rattle.hg_check.specs.LifeLaws.{kept_in, race_in}

-- what is kept beyond the kept ones is a front of the new ones
kept_on : {A : Type 0} (n : ℕ) (xs ys : List A) → drop (length (take n xs)) (take n (xs ++ ys)) ≡ take (n - length xs) ys
kept_on zero [] ys = let same : 0 ≡ 0 - 0 = omega arith in ap (λ (m : ℕ). take m ys) same
kept_on (suc n) [] ys = let same : suc n ≡ suc n - 0 = omega arith in ap (λ (m : ℕ). take m ys) same
kept_on zero (x ∷ xs) ys = let same : 0 ≡ 0 - suc (length xs) = omega arith in ap (λ (m : ℕ). take m ys) same
kept_on (suc n) (x ∷ xs) ys = let same : n - length xs ≡ suc n - suc (length xs) = omega arith in kept_on n xs ys ∙ ap (λ (m : ℕ). take m ys) same

race_there : (k w : ℕ) (rs : List Report) → list_any (λ r. nat_eq r.word (4 * w)) rs ≡ true → (j : ℕ) × (race_text k w rs ≡ codes " ; race " ++ decimal j)
race_there k w [] h = absurd (false≢true h)
race_there k w (r ∷ rs) h =
    elim (nat_eq r.word (4 * w)) as (λ b. (b || list_any (λ x. nat_eq x.word (4 * w)) rs) ≡ true → (j : ℕ) × (cond b (codes " ; race " ++ decimal k) (race_text (k + 1) w rs) ≡ codes " ; race " ++ decimal j)) [
      | true ↦ λ _. (k, refl)
      | false ↦ λ later. race_there (k + 1) w rs later
    ] h

four_times : (u w : ℕ) → 4 * u ≡ 4 * w → u ≡ w
four_times u w same = omega (arith, same)

other_word : (p : ℕ → Bool) (u w : ℕ) → p u ≡ true → p w ≡ false → nat_eq (4 * u) (4 * w) ≡ false
other_word p u w here apart = ne_eqb (4 * u) (4 * w) (λ same. false≢true (sym apart ∙ (ap p (sym (four_times u w same)) ∙ here)))

with_word : (p : ℕ → Bool) (trace : List Event) (t : ℕ) (write : Bool) (w n k u : ℕ) (ws : List ℕ) → p w ≡ false → p u ≡ true
    → ((m j : ℕ) → race_text j w (take m (map (report trace t write) (filter p ws))) ≡ []) → race_text k w (take n (map (report trace t write) (u ∷ filter p ws))) ≡ []
with_word p trace t write w zero k u ws apart here later = refl
with_word p trace t write w (suc n) k u ws apart here later =
    ap (λ b. cond b (codes " ; race " ++ decimal k) (race_text (k + 1) w (take n (map (report trace t write) (filter p ws))))) (other_word p u w here apart) ∙ later n (k + 1)

none_there : (p : ℕ → Bool) (trace : List Event) (t : ℕ) (write : Bool) (w : ℕ) (ws : List ℕ) → p w ≡ false → (m k : ℕ) → race_text k w (take m (map (report trace t write) (filter p ws))) ≡ []
none_there p trace t write w [] apart zero k = refl
none_there p trace t write w [] apart (suc m) k = refl
none_there p trace t write w (u ∷ ws) apart m k =
    elim (p u) as (λ b. p u ≡ b → race_text k w (take m (map (report trace t write) (cond b (u ∷ filter p ws) (filter p ws)))) ≡ []) [
      | true ↦ λ here. with_word p trace t write w m k u ws apart here (none_there p trace t write w ws apart)
      | false ↦ λ _. none_there p trace t write w ws apart m k
    ] refl

nothing : (k w m : ℕ) → race_text k w (take m []) ≡ []
nothing k w zero = refl
nothing k w (suc m) = refl

none_at : (w k m : ℕ) (past : List Event) (e : Event) → is_reported (e ∷ past) w ≡ false → race_text k w (take m (reports_at_last (e ∷ past))) ≡ []
none_at w k m past (Read a) h = none_there (is_reported (Read a ∷ past)) (Read a ∷ past) a.t false w (words_of a.at a.len) h m k
none_at w k m past (Write a) h = none_there (is_reported (Write a ∷ past)) (Write a ∷ past) a.t true w (words_of a.at a.len) h m k
none_at w k m past (Fork p c) h = nothing k w m
none_at w k m past (Join p c) h = nothing k w m
none_at w k m past (Lock t l) h = nothing k w m
none_at w k m past (RdLock t l) h = nothing k w m
none_at w k m past (Unlock t l) h = nothing k w m
none_at w k m past (Alloc b) h = nothing k w m
none_at w k m past (Free b) h = nothing k w m
none_at w k m past (Send t n) h = nothing k w m
none_at w k m past (Recv t n) h = nothing k w m

pub races_told : (w : ℕ) (past : List Event) (e : Event) → is_reported (e ∷ past) w ≡ true → length (all_reports (e ∷ past)) ≤ 65536 → (k : ℕ) × (race_in w past e ≡ codes " ; race " ++ decimal k)
races_told w past e h few =
    let found = race_there (length (kept_in past) + 1) w (reports_at_last (e ∷ past)) (none_missed (e ∷ past) w h) in
    let enough : length (reports_at_last (e ∷ past)) ≤ 65536 - length (all_reports past) = omega (arith, few, length-append (all_reports past) (reports_at_last (e ∷ past))) in (
      found.0,
      ap (λ rs. race_text (length (kept_in past) + 1) w rs) (kept_on 65536 (all_reports past) (reports_at_last (e ∷ past)) ∙ take_all (65536 - length (all_reports past)) (reports_at_last (e ∷ past)) enough)
          ∙ found.1,
    )

pub races_others : (w : ℕ) (past : List Event) (e : Event) → is_reported (e ∷ past) w ≡ false → race_in w past e ≡ []
races_others w past e h =
    ap (λ rs. race_text (length (kept_in past) + 1) w rs) (kept_on 65536 (all_reports past) (reports_at_last (e ∷ past)))
    ∙ none_at w (length (kept_in past) + 1) (65536 - length (all_reports past)) past e h
