-- Lines of a word's life.
use Rattle.std.proofs.Common.{◌≡◌, ℕ, zero, suc, ◌+◌, ◌-◌, ◌*◌, ◌<◌, cond, nat_eq, List, [], ◌∷◌, ◌++◌, drop, take, get_or, length, map, codes, false, sym, ap, ◌∙◌, ⊎_elim, arith}
use Rattle.std.proofs.lemmas.Bool.{eq-eqb}
use Rattle.std.proofs.lemmas.Bool.Decides.{eqb_tells}
use Rattle.std.proofs.lemmas.List.{append-nil, append_assoc, drop_more, drop-map, length-drop, take_all}
use Rattle.std.specs.Fmt.{decimal}
use Rattle.hg_cells.specs.declared.report.KeptReport.{KeptReport}
use Rattle.hg_detect.specs.Shown.{report_of}
use Rattle.hg_wire.specs.Reports.{sixteen_digits}
use Rattle.hg_streams.specs.Texts.{line_text}
use Rattle.hg_check.specs.Explaining.{word_line}
use Rattle.hg_check.specs.Behind.{gone_line, gone_text}
use Rattle.hg_check.specs.Life.{more_text, race_text, state_text}
use Rattle.hg_model.specs.Contents.{Content}
use Rattle.hg_model.specs.declared.word.WordState.{WordState}

pub more_line : (k : ℕ) (a b : List ℕ) → 0 < k → a ≡ decimal k → b ≡ codes " more accesses\n" → a ++ (b ++ []) ≡ more_text k
more_line zero a b some p q = absurd (omega arith)
more_line (suc k) a b some p q =
    ap (λ t. a ++ t) (append-nil b ∙ q) ∙ (ap (λ t. t ++ codes " more accesses\n") p ∙ sym (append_assoc (decimal (suc k)) (codes " more accesses") (10 ∷ [])))

-- the next report is the word's, or the search goes on
pub race_step : (k w i : ℕ) (sets : List (List ℕ)) (kept : List KeptReport) (d : KeptReport) → i < length kept
    → race_text k w (drop i (map (report_of sets) kept)) ≡ cond (nat_eq (get_or kept i d).word (4 * w)) (codes " ; race " ++ decimal k) (race_text (k + 1) w (drop (i + 1) (map (report_of sets) kept)))
race_step k w i sets kept d within =
    ap (λ rs. race_text k w rs) (drop-map (report_of sets) i kept ∙ ap (λ rs. map (report_of sets) rs) (drop_more kept i d within))
    ∙ ap (λ rs. cond (nat_eq (get_or kept i d).word (4 * w)) (codes " ; race " ++ decimal k) (race_text (k + 1) w rs)) (sym (drop-map (report_of sets) (i + 1) kept))

pub race_found : (k w i : ℕ) (sets : List (List ℕ)) (kept : List KeptReport) (d : KeptReport) → i < length kept → (get_or kept i d).word ≡ 4 * w
    → race_text k w (drop i (map (report_of sets) kept)) ≡ codes " ; race " ++ decimal k
race_found k w i sets kept d within is =
    race_step k w i sets kept d within ∙ ap (λ b. cond b (codes " ; race " ++ decimal k) (race_text (k + 1) w (drop (i + 1) (map (report_of sets) kept)))) (eq-eqb (get_or kept i d).word (4 * w) is)

pub race_passed : (k w i : ℕ) (sets : List (List ℕ)) (kept : List KeptReport) (d : KeptReport) → i < length kept → ((get_or kept i d).word ≡ 4 * w → ⊥)
    → race_text k w (drop i (map (report_of sets) kept)) ≡ race_text (k + 1) w (drop (i + 1) (map (report_of sets) kept))
race_passed k w i sets kept d within other =
    race_step k w i sets kept d within ∙ ap (λ b. cond b (codes " ; race " ++ decimal k) (race_text (k + 1) w (drop (i + 1) (map (report_of sets) kept)))) (eqb_no (get_or kept i d).word (4 * w) other)
  where
    eqb_no : (a b : ℕ) → (a ≡ b → ⊥) → nat_eq a b ≡ false
    eqb_no a b h = ⊎_elim (λ same. absurd (h same.1)) (λ apart. apart.0) (eqb_tells a b)

-- four pieces, one behind the other
pub four_joined : (old a b c new w x y z : List ℕ) → a ≡ old ++ w → b ≡ a ++ x → c ≡ b ++ y → new ≡ c ++ z → new ≡ old ++ (w ++ (x ++ (y ++ z)))
four_joined old a b c new w x y z p q r s = s ∙ rw (r, q, p) (simp (append_assoc))

-- no event is gone, and nothing is said
pub gone_none : (held : List ℕ) (w : ℕ) (c : Content) → c.events ≡ 0 → held ≡ held ++ gone_text w c
gone_none held w c is = sym (ap (λ (n : ℕ). held ++ gone_line n (c.words w)) is ∙ append-nil held)

gone_many : (n : ℕ) (state : WordState) → 0 < n
    → (codes "events 1 to " ++ decimal n) ++ (codes " are no longer kept ;" ++ (state_text state ++ 10 ∷ [])) ≡ gone_line n state
gone_many zero state some = absurd (omega (arith, some))
gone_many (suc n) state some = ap (λ t. (codes "events 1 to " ++ decimal (suc n)) ++ t) (sym (append_assoc (codes " are no longer kept ;") (state_text state) (10 ∷ [])))
    ∙ sym (append_assoc (codes "events 1 to " ++ decimal (suc n)) (codes " are no longer kept ;" ++ state_text state) (10 ∷ []))

-- some are, and their line is held piece by piece
pub gone_some : (held one two three four : List ℕ) (w : ℕ) (c : Content) → 0 < c.events → one ≡ held ++ (codes "events 1 to " ++ decimal c.events)
    → two ≡ one ++ codes " are no longer kept ;" → three ≡ two ++ state_text (c.words w) → four ≡ three ++ 10 ∷ [] → four ≡ held ++ gone_text w c
gone_some held one two three four w c some p q r s =
    four_joined held one two three four (codes "events 1 to " ++ decimal c.events) (codes " are no longer kept ;") (state_text (c.words w)) (10 ∷ []) p q r s
    ∙ ap (λ t. held ++ t) (gone_many c.events (c.words w) some)

-- what is left of a piece
pub left_is : (n : ℕ) (xs : List ℕ) → take (length xs - n) (drop n xs) ≡ drop n xs
left_is n xs = take_all (length xs - n) (drop n xs) (omega (arith, length-drop n xs))

-- the line of a word
pub word_text : (w : ℕ) (a b c : List ℕ) → a ≡ codes "word 0x" → b ≡ sixteen_digits (4 * w) → c ≡ 10 ∷ [] → a ++ (b ++ (c ++ [])) ≡ line_text (word_line w)
word_text w a b c p q r =
    ap (λ t. a ++ (b ++ t)) (append-nil c ∙ r) ∙ (ap (λ t. a ++ (t ++ 10 ∷ [])) q ∙ (ap (λ t. t ++ (sixteen_digits (4 * w) ++ 10 ∷ [])) p ∙ sym (append_assoc (codes "word 0x") (sixteen_digits (4 * w)) (10 ∷ []))))
