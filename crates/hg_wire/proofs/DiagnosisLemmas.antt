-- Where a line is bad.
use Rattle.std.proofs.Common.{◌≡◌, ◌≢◌, ℕ, zero, suc, ◌+◌, ◌-◌, ◌^◌, ◌<◌, ◌≤◌, Bool, true, false, ◌&&◌, nat_lt, nat_le, List, [], ◌∷◌, length, Option, Some, None, Err, is_some, option_map, ok_or, refl, sym, ◌∙◌, ap, subst, arith, inl, inr, if◌then◌else◌}
use Rattle.std.specs.List.{list_all, slice_get}
use Rattle.std.specs.Option.{option_and_then}
use Rattle.std.proofs.lemmas.Bool.{cond-true, cond-false, cases_Bool, and_parts, and_from, and_left, eq-eqb, ne_eqb, lt-ltb, le-leb, ltb-false, false_from_ne_true, true≢false}
use Rattle.hg_wire.specs.declared.line.LineFault.TheVariants.{Count, Number}
use Rattle.hg_wire.specs.declared.verb.Verb as source
use Rattle.hg_wire.specs.Numbers.{number_of, numeral}
use Rattle.std.specs.Char.{is_digit}
use Rattle.std.specs.Str.Parse.{digits_value}
use Rattle.hg_wire.specs.Verbs.{row_of}
use Rattle.hg_wire.specs.Lines.{are_counted, fitting, line_of, of_verb, of_tokens, operand_of, result_map, values_of, verb_named, tokens_of}
use Rattle.hg_wire.specs.Diagnoses.{HasMisfit, IsFirstEmpty, IsFirstMisfit}
use Rattle.hg_wire.proofs.LineLemmas.{fits}
use Rattle.hg_wire.proofs.VerbLemmas.{each_is_verb, named_has_text}

-- a choice of something or nothing tells its test
pub some_if : {A : Type 0} (b : Bool) (x : A) → is_some (if b then Some x else None) ≡ b
some_if true x = refl
some_if false x = refl

-- so does a numeral of as many digits as there may be
pub numeral_test : (base most : ℕ) (digits : List ℕ) → 1 ≤ length digits → length digits ≤ most → is_some (numeral base most digits) ≡ list_all (λ c. is_digit c base) digits
numeral_test base most digits some few =
    let lengths : (nat_le 1 (length digits) && nat_le (length digits) most) ≡ true = and_from _ _ (le-leb _ _ some) (le-leb _ _ few) in
    some_if _ (digits_value base digits) ∙ ap (λ b. b && list_all (λ c. is_digit c base) digits) lengths

some_one : {A : Type 0} (x y : A) → Some x ≡ Some y → x ≡ y
some_one x y e = cc

-- ---- empty tokens

pub empty_here : (tokens : List (List ℕ)) → IsFirstEmpty ([] ∷ tokens) 0
empty_here tokens = record { empty = refl; earlier = λ k token lt is. absurd (omega (arith, lt)) }

filled_before : (token : List ℕ) (tokens : List (List ℕ)) (place : ℕ) → 0 < length token → IsFirstEmpty tokens place
    → (k : ℕ) (w : List ℕ) → k < place + 1 → slice_get (token ∷ tokens) k ≡ Some w → 0 < length w
filled_before token tokens place filled h zero w lt is = subst (λ x. 0 < length x) (some_one token w is) filled
filled_before token tokens place filled h (suc k) w lt is = h.earlier k w (omega (arith, lt)) is

pub empty_later : (token : List ℕ) (tokens : List (List ℕ)) (place : ℕ) → 0 < length token → IsFirstEmpty tokens place → IsFirstEmpty (token ∷ tokens) (place + 1)
empty_later token tokens place filled h =
    let e : place + 1 ≡ suc place = omega arith in
    record { empty = rw e h.empty; earlier = filled_before token tokens place filled h }

pub not_all_filled : (tokens : List (List ℕ)) (place : ℕ) → slice_get tokens place ≡ Some [] → list_all (λ token. nat_lt 0 (length token)) tokens ≡ false
not_all_filled [] place is = absurd (let bad : None ≡ Some [] = is in cc)
not_all_filled (token ∷ tokens) zero is =
    let none : token ≡ [] = some_one token [] is in
    and_left _ _ (ap (λ w. nat_lt 0 (length w)) none)
not_all_filled (token ∷ tokens) (suc place) is =
    false_from_ne_true _ (λ all. true≢false (sym (and_parts _ _ all).1 ∙ not_all_filled tokens place is))

-- ---- tokens that do not fit

pub misfit_here : (width : ℕ) (widths token : List ℕ) (tokens : List (List ℕ)) → operand_of width token ≡ None → IsFirstMisfit (width ∷ widths) (token ∷ tokens) 0 token width
misfit_here width widths token tokens none = record { is_token = refl; is_width = refl; misfit = none; earlier = λ k w fit lt here is. absurd (omega (arith, lt)) }

fit_before : (width : ℕ) (widths token : List ℕ) (tokens : List (List ℕ)) (n place : ℕ) (bad : List ℕ) (bits : ℕ) → operand_of width token ≡ Some n → IsFirstMisfit widths tokens place bad bits
    → (k w : ℕ) (fit : List ℕ) → k < place + 1 → slice_get (width ∷ widths) k ≡ Some w → slice_get (token ∷ tokens) k ≡ Some fit → (m : ℕ) × (operand_of w fit ≡ Some m)
fit_before width widths token tokens n place bad bits some h zero w fit lt here is =
    (n, ap (λ x. operand_of x fit) (sym (some_one width w here)) ∙ (ap (operand_of width) (sym (some_one token fit is)) ∙ some))
fit_before width widths token tokens n place bad bits some h (suc k) w fit lt here is = h.earlier k w fit (omega (arith, lt)) here is

pub misfit_later : (width : ℕ) (widths token : List ℕ) (tokens : List (List ℕ)) (n place : ℕ) (bad : List ℕ) (bits : ℕ) → operand_of width token ≡ Some n → IsFirstMisfit widths tokens place bad bits
    → IsFirstMisfit (width ∷ widths) (token ∷ tokens) (place + 1) bad bits
misfit_later width widths token tokens n place bad bits some h =
    let e : place + 1 ≡ suc place = omega arith in
    record { is_token = rw e h.is_token; is_width = rw e h.is_width; misfit = h.misfit; earlier = fit_before width widths token tokens n place bad bits some h }

nothing_follows : (o : Option ℕ) → option_and_then (λ (n : ℕ). option_map (λ (ns : List ℕ). n ∷ ns) None) o ≡ None
nothing_follows None = refl
nothing_follows (Some n) = refl

pub misfit_none : (widths : List ℕ) (tokens : List (List ℕ)) (place : ℕ) (bad : List ℕ) (bits : ℕ) → slice_get tokens place ≡ Some bad → slice_get widths place ≡ Some bits → operand_of bits bad ≡ None
    → values_of widths tokens ≡ None
misfit_none [] tokens place bad bits is width none = absurd (let wrong : None ≡ Some bits = width in cc)
misfit_none (w ∷ widths) [] place bad bits is width none = absurd (let wrong : None ≡ Some bad = is in cc)
misfit_none (w ∷ widths) (token ∷ tokens) zero bad bits is width none =
    let here : operand_of w token ≡ None = ap (λ x. operand_of x token) (some_one w bits width) ∙ (ap (operand_of bits) (some_one token bad is) ∙ none) in
    rw here refl
misfit_none (w ∷ widths) (token ∷ tokens) (suc place) bad bits is width none =
    rw (misfit_none widths tokens place bad bits is width none) (nothing_follows (operand_of w token))

pub values_more : (width : ℕ) (widths token : List ℕ) (tokens : List (List ℕ)) (n : ℕ) (values : List ℕ) → operand_of width token ≡ Some n → values_of widths tokens ≡ Some values
    → values_of (width ∷ widths) (token ∷ tokens) ≡ Some (n ∷ values)
values_more width widths token tokens n values here rest = rw (here, rest) refl

-- both where the lists are known to begin so
pub some_of : (o : Option ℕ) → is_some o ≡ true → (n : ℕ) × (o ≡ Some n)
some_of None e = absurd (true≢false (sym e))
some_of (Some n) e = (n, refl)

pub values_with : (all_widths : List ℕ) (all_tokens : List (List ℕ)) (width : ℕ) (widths token : List ℕ) (tokens : List (List ℕ)) → all_widths ≡ width ∷ widths → all_tokens ≡ token ∷ tokens
    → is_some (operand_of width token) ≡ true → (values : List ℕ) × (values_of widths tokens ≡ Some values) → (values : List ℕ) × (values_of all_widths all_tokens ≡ Some values)
values_with all_widths all_tokens width widths token tokens widths_are tokens_are here rest =
    let n = some_of _ here in
    rw (widths_are, tokens_are) (n.0 ∷ rest.0, values_more width widths token tokens n.0 rest.0 n.1 rest.1)

pub misfit_with : (all_widths : List ℕ) (all_tokens : List (List ℕ)) (width : ℕ) (widths token : List ℕ) (tokens : List (List ℕ)) (place : ℕ) (bad : List ℕ) (bits : ℕ) → all_widths ≡ width ∷ widths
    → all_tokens ≡ token ∷ tokens → is_some (operand_of width token) ≡ true → IsFirstMisfit widths tokens place bad bits → IsFirstMisfit all_widths all_tokens (place + 1) bad bits
misfit_with all_widths all_tokens width widths token tokens place bad bits widths_are tokens_are here h =
    let n = some_of _ here in
    rw (widths_are, tokens_are) (misfit_later width widths token tokens n.0 place bad bits n.1 h)

-- a number that does not fit is too great
pub too_great : (bits n : ℕ) (token : List ℕ) → number_of token ≡ Some n → operand_of bits token ≡ None → 2 ^ bits ≤ n
too_great bits n token is none =
    elim (cases_Bool (nat_lt n (2 ^ bits))) [
      | inl small ↦ absurd (let fit : operand_of bits token ≡ Some n = ap (fitting bits) is ∙ cond-true _ _ _ small in let bad : None ≡ Some n = sym none ∙ fit in cc)
      | inr past ↦ ltb-false _ _ past
    ]

-- ---- the whole line

pub read_as : (line first : List ℕ) (rest : List (List ℕ)) (named : Option source.Verb) → length line ≤ 256 → tokens_of line ≡ first ∷ rest → verb_named first ≡ named → line_of line ≡ of_verb named rest
read_as line first rest named short split is = fits line short ∙ (ap of_tokens split ∙ ap (λ v. of_verb v rest) is)

pub miscounted : (line first : List ℕ) (rest : List (List ℕ)) (verb : source.Verb) → length line ≤ 256 → tokens_of line ≡ first ∷ rest → verb_named first ≡ Some verb
    → are_counted (row_of verb).widths rest ≡ false → line_of line ≡ Err Count
miscounted line first rest verb short split is wrong =
    read_as line first rest (Some verb) short split is ∙ ap (result_map (row_of verb).event) (cond-false _ _ _ wrong)

pub counted_as : (line first : List ℕ) (rest : List (List ℕ)) (verb : source.Verb) (values : Option (List ℕ)) → length line ≤ 256 → tokens_of line ≡ first ∷ rest → verb_named first ≡ Some verb
    → length rest ≡ length (row_of verb).widths → list_all (λ token. nat_lt 0 (length token)) (tokens_of line) ≡ true → values_of (row_of verb).widths rest ≡ values
    → line_of line ≡ result_map (row_of verb).event (ok_or values Number)
counted_as line first rest verb values short split is same filled read =
    let all : list_all (λ token. nat_lt 0 (length token)) (first ∷ rest) ≡ true = ap (list_all (λ token. nat_lt 0 (length token))) (sym split) ∙ filled in
    let counted : are_counted (row_of verb).widths rest ≡ true = and_from _ _ (eq-eqb _ _ same) (and_parts _ _ all).1 in
    read_as line first rest (Some verb) short split is
    ∙ ap (result_map (row_of verb).event) (cond-true _ _ _ counted ∙ ap (λ v. ok_or v Number) read)

-- an empty token is not the verb's
pub empty_behind : (line first : List ℕ) (rest : List (List ℕ)) (verb : source.Verb) (place : ℕ) → tokens_of line ≡ first ∷ rest → 0 < length first → IsFirstEmpty (tokens_of line) place
    → are_counted (row_of verb).widths rest ≡ false
empty_behind line first rest verb place split filled h =
    let is : slice_get (first ∷ rest) place ≡ Some [] = ap (λ ws. slice_get ws place) (sym split) ∙ h.empty in
    false_from_ne_true _ (λ counted. (let all : list_all (λ token. nat_lt 0 (length token)) (first ∷ rest) ≡ true = and_from _ _ (lt-ltb _ _ filled) (and_parts _ _ counted).1 in
    true≢false (sym all ∙ not_all_filled (first ∷ rest) place is)))

pub other_count : (rest : List (List ℕ)) (verb : source.Verb) (given : ℕ) → given ≡ length rest → given ≢ length (row_of verb).widths → are_counted (row_of verb).widths rest ≡ false
other_count rest verb given is wrong = and_left _ _ (ne_eqb _ _ (λ same. wrong (is ∙ same)))

-- ---- what a diagnosis stands on, where no token is empty

-- a line that is short, and begins with a verb, and then tokens
pub record Begins (line : List ℕ) (verb : source.Verb) (rest : List (List ℕ)) : Type 0 where
  pub first : List ℕ
  pub short : length line ≤ 256
  pub split : tokens_of line ≡ first ∷ rest
  pub named : verb_named first ≡ Some verb

pub is_behind : (line : List ℕ) (verb : source.Verb) (rest : List (List ℕ)) → Begins line verb rest → tokens_of line ≡ (row_of verb).text ∷ rest
is_behind line verb rest b = b.split ∙ ap (λ t. t ∷ rest) (sym (named_has_text b.first verb b.named))

pub verb_is_filled : (line : List ℕ) (verb : source.Verb) (rest : List (List ℕ)) → (b : Begins line verb rest) → 0 < length b.first
verb_is_filled line verb rest b =
    let is = named_has_text b.first verb b.named in
    subst (λ t. 0 < length t) is (omega (arith, (each_is_verb verb).some))

-- what is read of it, with no token empty and as many as the verb takes
pub read_counted : (line : List ℕ) (verb : source.Verb) (rest : List (List ℕ)) (values : Option (List ℕ)) → Begins line verb rest → length rest ≡ length (row_of verb).widths
    → list_all (λ token. nat_lt 0 (length token)) (tokens_of line) ≡ true → values_of (row_of verb).widths rest ≡ values → line_of line ≡ result_map (row_of verb).event (ok_or values Number)
read_counted line verb rest values b same filled read = counted_as line b.first rest verb values b.short b.split b.named same filled read

pub read_misfit : (line : List ℕ) (verb : source.Verb) (rest : List (List ℕ)) (place : ℕ) (bad : List ℕ) (bits : ℕ) → Begins line verb rest → length rest ≡ length (row_of verb).widths
    → list_all (λ token. nat_lt 0 (length token)) (tokens_of line) ≡ true → IsFirstMisfit (row_of verb).widths rest place bad bits → line_of line ≡ Err Number
read_misfit line verb rest place bad bits b same filled h =
    read_counted line verb rest None b same filled (misfit_none (row_of verb).widths rest place bad bits h.is_token h.is_width h.misfit)

pub has_misfit : (line : List ℕ) (verb : source.Verb) (rest : List (List ℕ)) (place : ℕ) (bad : List ℕ) (bits : ℕ) → Begins line verb rest → IsFirstMisfit (row_of verb).widths rest place bad bits
    → HasMisfit line (place + 1) bad bits
has_misfit line verb rest place bad bits b h = record { verb = verb; tokens = rest; behind = is_behind line verb rest b; operand = place; at = refl; first = h }

pub none_of : (o : Option ℕ) → is_some o ≡ false → o ≡ None
none_of None e = refl
none_of (Some n) e = absurd (true≢false e)

pub counted_behind : (line : List ℕ) (verb : source.Verb) (rest : List (List ℕ)) (count : ℕ) → Begins line verb rest → count ≡ length (tokens_of line) → count - 1 ≡ length rest
counted_behind line verb rest count b is = let e : length (tokens_of line) ≡ length (b.first ∷ rest) = ap length b.split in omega (arith, e, is)

pub misfit_at : (all_widths : List ℕ) (all_tokens : List (List ℕ)) (width : ℕ) (widths token : List ℕ) (tokens : List (List ℕ)) → all_widths ≡ width ∷ widths → all_tokens ≡ token ∷ tokens
    → is_some (operand_of width token) ≡ false → IsFirstMisfit all_widths all_tokens 0 token width
misfit_at all_widths all_tokens width widths token tokens widths_are tokens_are none =
    rw (widths_are, tokens_are) (misfit_here width widths token tokens (none_of _ none))
