-- A line is read exactly where its bytes spell an event, and else its first fault is told.
use Rattle.std.proofs.Common.{◌≡◌, ℕ, ◌*◌, ◌^◌, ◌<◌, ◌≤◌, true, false, nat_lt, ltb, List, [], ◌∷◌, ◌++◌, length, Option, Some, None, Result, Ok, Err, refl, sym, ◌∙◌, ap, subst, arith, inl, inr, option_map, ok_or}
use Rattle.std.proofs.lemmas.Bool.{cond-true, cond-false, cases_Bool, eqb-true, eq-eqb, ltb-true, ltb-false, lt-ltb, le-ltb, and_parts, and_from, false_from_ne_true, true≢false}
use Rattle.std.proofs.lemmas.Option.{option_and_then_some, cond_some}
use Rattle.std.proofs.lemmas.List.{length-append}
use Rattle.std.specs.List.{AllByRecursion, list_all}
use Rattle.hg_model.specs.declared.event.Event.{Event}
use Rattle.hg_wire.specs.declared.line.LineFault.{LineFault}
use Rattle.hg_wire.specs.declared.line.LineFault.TheVariants.{TooLong, Verb, Count, Number}
use Rattle.hg_wire.specs.Numbers.{IsNumber, number_of}
use Rattle.hg_wire.specs.declared.verb.Verb as source
use Rattle.hg_wire.specs.Verbs.{row_of}
use Rattle.hg_wire.specs.Lines.{AreOperands, IsLine, IsToken, HasTokens, HasFault, tokens_of, verb_named, operand_of, values_of, are_counted, operands_of, result_map, of_verb, of_tokens, line_of}
use Rattle.hg_wire.proofs.NumberLemmas.{number_spelled, number_reads, number_no_byte, number_nonempty, number_short}
use Rattle.hg_wire.specs.Bytes.{NoByte}
use Rattle.hg_wire.proofs.TokenLemmas.{led_by, Parts, split_parts, split_joined}
use Rattle.hg_wire.proofs.VerbLemmas.{each_is_verb, verb_spaceless, named_has_text, nothing_named, named_by_none}

-- ---- operands

option_map_some : {A B : Type 0} (f : A → B) (o : Option A) (y : B) → option_map f o ≡ Some y → (x : A) × (o ≡ Some x) × (f x ≡ y)
option_map_some f None y e = absurd (let bad : None ≡ Some y = e in cc)
option_map_some f (Some x) y e = (x, refl, (let same : Some (f x) ≡ Some y = e in cc))

operand_spelled : (width : ℕ) (token : List ℕ) (n : ℕ) → operand_of width token ≡ Some n → IsNumber token n × (n < 2 ^ width)
operand_spelled width token n e =
    option_and_then_some _ (number_of token) n e (λ m read fits. let p = cond_some _ _ _ fits in let is : m ≡ n = p.1 in
    (number_spelled token n (read ∙ ap Some is), omega (arith, ltb-true _ _ p.0)))

pub operand_reads : (width : ℕ) (token : List ℕ) (n : ℕ) → IsNumber token n → n < 2 ^ width → operand_of width token ≡ Some n
operand_reads width token n spelled fits = rw (number_reads token n spelled) (cond-true _ _ _ (lt-ltb _ _ fits))

pub values_spelled : (widths : List ℕ) (tokens : List (List ℕ)) (values : List ℕ) → length tokens ≡ length widths → values_of widths tokens ≡ Some values → AreOperands widths tokens values
values_spelled [] [] [] same e = tt
values_spelled [] [] (v ∷ values) same e = absurd (let bad : Some [] ≡ Some (v ∷ values) = e in cc)
values_spelled [] (token ∷ tokens) values same e = absurd (omega arith)
values_spelled (width ∷ widths) [] values same e = absurd (omega arith)
values_spelled (width ∷ widths) (token ∷ tokens) values same e =
    option_and_then_some _ (operand_of width token) values e (λ n first more.
    let rest = option_map_some (λ ns. n ∷ ns) (values_of widths tokens) values more in
    let here = operand_spelled width token n first in
    let P : List ℕ → Type 0 = AreOperands (width ∷ widths) (token ∷ tokens) in
    subst P rest.2 (here.0, here.1, values_spelled widths tokens rest.0 (omega arith) rest.1))

pub values_read : (widths : List ℕ) (tokens : List (List ℕ)) (values : List ℕ) → AreOperands widths tokens values → values_of widths tokens ≡ Some values
values_read [] [] [] h = refl
values_read [] [] (v ∷ values) h = absurd h
values_read [] (token ∷ tokens) values h = absurd h
values_read (width ∷ widths) [] values h = absurd h
values_read (width ∷ widths) (token ∷ tokens) [] h = absurd h
values_read (width ∷ widths) (token ∷ tokens) (v ∷ values) h =
    rw (operand_reads width token v h.0 h.1) (ap (option_map (λ ns. v ∷ ns)) (values_read widths tokens values h.2))

-- the tokens of operands are tokens, and as many as the widths
pub operands_are_tokens : (widths : List ℕ) (tokens : List (List ℕ)) (values : List ℕ) → AreOperands widths tokens values
    → (length tokens ≡ length widths) × AllByRecursion IsToken tokens × (length (led_by 32 tokens) ≤ 21 * length widths)
operands_are_tokens [] [] [] h = (refl, tt, omega arith)
operands_are_tokens [] [] (v ∷ values) h = absurd h
operands_are_tokens [] (token ∷ tokens) values h = absurd h
operands_are_tokens (width ∷ widths) [] values h = absurd h
operands_are_tokens (width ∷ widths) (token ∷ tokens) [] h = absurd h
operands_are_tokens (width ∷ widths) (token ∷ tokens) (v ∷ values) h =
    let rest = operands_are_tokens widths tokens values h.2 in (
      omega (arith, rest.0),
      ((number_nonempty token v h.0, number_no_byte 32 token v (omega arith) (λ e. omega arith) h.0), rest.1),
      omega (arith, rest.2, number_short token v h.0, length-append token (led_by 32 tokens)),
    )

all_spaceless : (tokens : List (List ℕ)) → AllByRecursion IsToken tokens → AllByRecursion (NoByte 32) tokens
all_spaceless [] h = tt
all_spaceless (token ∷ tokens) h = (h.0.1, all_spaceless tokens h.1)

all_counted : (tokens : List (List ℕ)) → AllByRecursion IsToken tokens → list_all (λ token. nat_lt 0 (length token)) tokens ≡ true
all_counted [] h = refl
all_counted (token ∷ tokens) h = and_from _ _ (lt-ltb _ _ h.0.0) (all_counted tokens h.1)

all_tokens : (tokens : List (List ℕ)) → AllByRecursion (NoByte 32) tokens → list_all (λ token. nat_lt 0 (length token)) tokens ≡ true → AllByRecursion IsToken tokens
all_tokens [] h t = tt
all_tokens (token ∷ tokens) h t = let p = and_parts _ _ t in ((ltb-true _ _ p.0, h.0), all_tokens tokens h.1 p.1)

-- ---- the whole line

pub fits : (bytes : List ℕ) → length bytes ≤ 256 → line_of bytes ≡ of_tokens (tokens_of bytes)
unfolding line_of
fits bytes short = cond-false _ _ _ (le-ltb _ _ short)

-- a line of a verb and tokens
spelled_tokens : (bytes : List ℕ) (verb : source.Verb) (tokens : List (List ℕ)) → AllByRecursion (NoByte 32) tokens
    → bytes ≡ (row_of verb).text ++ led_by 32 tokens → of_tokens (tokens_of bytes) ≡ of_verb (Some verb) tokens
spelled_tokens bytes verb tokens spaceless spelled =
    let is = each_is_verb verb in
    ap (λ b. of_tokens (tokens_of b)) spelled ∙ (ap of_tokens (split_joined 32 (row_of verb).text tokens (verb_spaceless verb) spaceless) ∙ ap (λ v. of_verb v tokens) is.named)

pub event_reads : (bytes : List ℕ) (event : Event) → IsLine bytes event → line_of bytes ≡ Ok event
event_reads bytes event h =
    let row = row_of h.verb in
    let tokens = operands_are_tokens row.widths h.tokens h.values h.operands in
    let counted = and_from _ _ (eq-eqb _ _ tokens.0) (all_counted h.tokens tokens.1) in
    let read : operands_of row.widths h.tokens ≡ Ok h.values =
    cond-true _ _ _ counted ∙ ap (λ values. ok_or values Number) (values_read row.widths h.tokens h.values h.operands) in
    fits bytes h.short ∙ (spelled_tokens bytes h.verb h.tokens (all_spaceless h.tokens tokens.1) h.spelled ∙ (ap (result_map row.event) read ∙ ap Ok (sym h.made)))

-- what a result says of the bytes
abbrev pub Means : List ℕ → Result Event LineFault → Type 0
Means bytes (Ok event) = IsLine bytes event
Means bytes (Err fault) = HasFault bytes fault

-- tokens that are counted are the verb's
counted_tokens : (bytes first : List ℕ) (rest : List (List ℕ)) (verb : source.Verb) → Parts 32 bytes first rest → (row_of verb).text ≡ first
    → are_counted (row_of verb).widths rest ≡ true → HasTokens bytes verb rest
counted_tokens bytes first rest verb parts text counted =
    let p = and_parts _ _ counted in
    record { spelled = parts.joined ∙ ap (λ t. t ++ led_by 32 rest) (sym text); counted = eqb-true _ _ p.0; each = all_tokens rest parts.nones p.1 }

-- only the tokens after the first one can be the verb's
only_tokens : (bytes first : List ℕ) (rest tokens : List (List ℕ)) (verb : source.Verb) → Parts 32 bytes first rest → HasTokens bytes verb tokens → rest ≡ tokens
only_tokens bytes first rest tokens verb parts has =
    let split : tokens_of bytes ≡ (row_of verb).text ∷ tokens =
    ap tokens_of has.spelled ∙ split_joined 32 (row_of verb).text tokens (verb_spaceless verb) (all_spaceless tokens has.each) in
    let same : first ∷ rest ≡ (row_of verb).text ∷ tokens = sym parts.split ∙ split in
    cc

means_values : (bytes : List ℕ) (verb : source.Verb) (tokens : List (List ℕ)) (values : Option (List ℕ)) → length bytes ≤ 256 → HasTokens bytes verb tokens
    → values_of (row_of verb).widths tokens ≡ values → Means bytes (result_map (row_of verb).event (ok_or values Number))
means_values bytes verb tokens None short has e = (
  short,
  (
    verb,
    tokens,
    has,
    λ values operands.
        let read = values_read (row_of verb).widths tokens values operands in absurd (let bad : None ≡ Some values = sym e ∙ read in cc),
  ),
)
means_values bytes verb tokens (Some values) short has e =
    record {
      verb = verb;
      tokens = tokens;
      values = values;
      operands = values_spelled (row_of verb).widths tokens values has.counted e;
      spelled = has.spelled;
      made = refl;
      short = short;
    }

means_counted : (bytes first : List ℕ) (rest : List (List ℕ)) (verb : source.Verb) → length bytes ≤ 256 → Parts 32 bytes first rest → (row_of verb).text ≡ first
    → Means bytes (of_verb (Some verb) rest)
means_counted bytes first rest verb short parts text =
    let widths = (row_of verb).widths in
    let P : Result (List ℕ) LineFault → Type 0 = λ r. Means bytes (result_map (row_of verb).event r) in
    elim (cases_Bool (are_counted widths rest)) [
      | inl counted ↦ subst P (sym (cond-true _ _ _ counted)) (means_values bytes verb rest _ short (counted_tokens bytes first rest verb parts text counted) refl)
      | inr not_counted ↦ subst P (sym (cond-false _ _ _ not_counted)) (
        short,
        (
          verb,
          text ∙ sym parts.before,
          λ tokens has. let same = only_tokens bytes first rest tokens verb parts has in
              let counted : are_counted widths rest ≡ true = rw same (and_from _ _ (eq-eqb _ _ has.counted) (all_counted tokens has.each)) in
              absurd (true≢false (sym counted ∙ not_counted)),
        ),
      )
    ]

means_verb : (bytes first : List ℕ) (rest : List (List ℕ)) (named : Option source.Verb) → length bytes ≤ 256 → Parts 32 bytes first rest → verb_named first ≡ named
    → Means bytes (of_verb named rest)
means_verb bytes first rest None short parts e = (short, λ verb is. named_by_none first e verb (is ∙ parts.before))
means_verb bytes first rest (Some verb) short parts e = means_counted bytes first rest verb short parts (named_has_text first verb e)

-- What is read of a line is true of it.
pub means : (bytes : List ℕ) → Means bytes (line_of bytes)
unfolding line_of
means bytes = elim (cases_Bool (ltb 256 (length bytes))) [
  | inl long ↦ subst (Means bytes) (sym (cond-true _ _ _ long)) (ltb-true _ _ long)
  | inr fitting ↦ (
      let short : length bytes ≤ 256 = ltb-false _ _ fitting in
      let p = split_parts 32 bytes in
      let is : line_of bytes ≡ of_verb (verb_named p.0) p.1 = cond-false _ _ _ fitting ∙ ap of_tokens p.2.split in
      subst (Means bytes) (sym is) (means_verb bytes p.0 p.1 _ short p.2 refl)
      )
]

no_values : {A : Type 0} (o : Option A) → ((x : A) → ¬ (o ≡ Some x)) → o ≡ None
no_values None h = refl
no_values (Some x) h = absurd (h x refl)

-- What is true of a line is read of it.
pub fault_is_told : (bytes : List ℕ) (fault : LineFault) → HasFault bytes fault → line_of bytes ≡ Err fault
unfolding line_of
fault_is_told bytes TooLong h = cond-true _ _ _ (lt-ltb _ _ h)
fault_is_told bytes Verb h =
    let p = split_parts 32 bytes in
    fits bytes h.0 ∙ (ap of_tokens p.2.split ∙ ap (λ named. of_verb named p.1) (nothing_named p.0 (λ verb is. h.1 verb (is ∙ sym p.2.before))))
fault_is_told bytes Count h =
    let p = split_parts 32 bytes in
    let verb = h.1.0 in
    let text = h.1.1 ∙ p.2.before in
    let named : verb_named p.0 ≡ Some verb = ap verb_named (sym text) ∙ (each_is_verb verb).named in
    let miscounted : are_counted (row_of verb).widths p.1 ≡ false = false_from_ne_true _ (λ e. h.1.2 p.1 (counted_tokens bytes p.0 p.1 verb p.2 text e)) in
    fits bytes h.0 ∙ (ap of_tokens p.2.split ∙ (ap (λ n. of_verb n p.1) named ∙ ap (result_map (row_of verb).event) (cond-false _ _ _ miscounted)))
fault_is_told bytes Number h =
    let verb = h.1.0 in
    let tokens = h.1.1 in
    let has = h.1.2 in
    let row = row_of verb in
    let none : values_of row.widths tokens ≡ None = no_values (values_of row.widths tokens) (λ values e. h.1.3 values (values_spelled row.widths tokens values has.counted e)) in
    let read : operands_of row.widths tokens ≡ Err Number =
    cond-true _ _ _ (and_from _ _ (eq-eqb _ _ has.counted) (all_counted tokens has.each)) ∙ ap (λ values. ok_or values Number) none in
    fits bytes h.0 ∙ (spelled_tokens bytes verb tokens (all_spaceless tokens has.each) has.spelled ∙ ap (result_map row.event) read)
