-- Tokens that are counted one after another.
use Rattle.std.proofs.Common.{◌≡◌, ℕ, true, false, List, [], ◌∷◌, length, Option, Some, None, MatchOption, Result, Ok, Err, ok_or, option_map, Bor, refl, sym, ◌∙◌, ap, subst, arith, is_some}
use Rattle.std.proofs.lemmas.Bool.{and_parts, and_from, and_left, ne_eqb, eqb-true, eq-eqb, false_from_ne_true, true≢false, false≢true, cond-true, lt-ltb}
use Rattle.std.specs.Option.{option_and_then}
use Rattle.hg_wire.specs.declared.line.LineFault.TheVariants.{Number}
use Rattle.hg_wire.specs.Lines.{tokens_after, are_counted, operand_of, operands_of, values_of}
use Rattle.hg_wire.specs.Taken.{AreThree, AreTwo}
use Rattle.hg_wire.proofs.TokenLemmas.{split_parts}

pub counted_after : (width : ℕ) (widths : List ℕ) (tokens : List (List ℕ)) (first : List ℕ) (rest : List (List ℕ)) → tokens ≡ first ∷ rest
    → are_counted widths rest ≡ false → are_counted (width ∷ widths) tokens ≡ false
counted_after width widths tokens first rest is miscounted =
    false_from_ne_true _ (λ e. (let here : are_counted (width ∷ widths) (first ∷ rest) ≡ true = ap (are_counted (width ∷ widths)) (sym is) ∙ e in
    let p = and_parts _ _ here in
    let same : length (first ∷ rest) ≡ length (width ∷ widths) = eqb-true _ _ p.0 in
    let fewer : length rest ≡ length widths = omega arith in
    let q = and_parts _ _ p.1 in
    let counted : are_counted widths rest ≡ true = and_from _ _ (eq-eqb _ _ fewer) q.1 in
    true≢false (sym counted ∙ miscounted)))

-- more tokens than widths
pub too_many : (rest : Option (Bor (List ℕ))) → is_some rest ≡ true → are_counted [] (tokens_after rest) ≡ false
too_many None e = absurd (false≢true e)
too_many (Some line) e =
    let p = split_parts 32 line.now in
    ap (are_counted []) p.2.split ∙ and_left _ _ (ne_eqb _ _ (λ same. (let none : length (p.0 ∷ p.1) ≡ 0 = same in omega arith)))

same_fault : {X E : Type 0} (r s : Result X E) (a b : E) → r ≡ Err a → s ≡ Err b → r ≡ s → a ≡ b
same_fault r s a b p q e = cc

-- an option that gave an error was nothing
pub ok_or_err : {X E : Type 0} (found : Option X) (fault count : E) (P : Type 0) (Q : X → Type 0) → Err fault ≡ ok_or found count → MatchOption found P Q → (fault ≡ count) × P
ok_or_err None fault count P Q e h = (same_fault _ _ fault count refl refl e, h)
ok_or_err (Some x) fault count P Q e h = absurd (let bad : Err fault ≡ Ok x = e in cc)

-- an option that gave no error was something
pub ok_or_ok : {X E : Type 0} (found : Option X) (x : X) (count : E) (P : Type 0) (Q : X → Type 0) → Ok x ≡ ok_or found count → MatchOption found P Q → Q x
ok_or_ok None x count P Q e h = absurd (let bad : Ok x ≡ Err count = e in cc)
ok_or_ok (Some y) x count P Q e h = let same : y ≡ x = (let both : Ok x ≡ Ok y = e in cc) in subst Q same h

pub some_of_ok : {X E : Type 0} (found given : Option X) (x : X) (fault : E) → Ok x ≡ ok_or found fault → found ≡ given → given ≡ Some x
some_of_ok None given x fault e is = absurd (let bad : Ok x ≡ Err fault = e in cc)
some_of_ok (Some y) given x fault e is = let same : y ≡ x = (let both : Ok x ≡ Ok y = e in cc) in sym is ∙ ap Some same

pub none_of_err : {X E : Type 0} (found given : Option X) (y fault : E) → Err y ≡ ok_or found fault → found ≡ given → (y ≡ fault) × (given ≡ None)
none_of_err None given y fault e is = (same_fault _ _ y fault refl refl e, sym is)
none_of_err (Some x) given y fault e is = absurd (let bad : Err y ≡ Ok x = e in cc)

-- ---- tokens that are as many as the widths

two_counted : (u v : ℕ) (tokens : List (List ℕ)) (a b : List ℕ) → AreTwo tokens a b → are_counted (u ∷ v ∷ []) tokens ≡ true
two_counted u v tokens a b two =
    ap (are_counted (u ∷ v ∷ [])) two.0 ∙ and_from _ _ refl (and_from _ _ (lt-ltb 0 (length a) two.1) (and_from _ _ (lt-ltb 0 (length b) two.2) refl))

three_counted : (u v w : ℕ) (tokens : List (List ℕ)) (a b d : List ℕ) → AreThree tokens a b d → are_counted (u ∷ v ∷ w ∷ []) tokens ≡ true
three_counted u v w tokens a b d three =
    ap (are_counted (u ∷ v ∷ w ∷ [])) three.0
    ∙ and_from _ _ refl (and_from _ _ (lt-ltb 0 (length a) three.1) (and_from _ _ (lt-ltb 0 (length b) three.2) (and_from _ _ (lt-ltb 0 (length d) three.3) refl)))

-- the first token has a value, so the values are those of the others behind it
value_then : (width : ℕ) (widths token : List ℕ) (tokens : List (List ℕ)) (n : ℕ) (values : Option (List ℕ)) → operand_of width token ≡ Some n → values_of widths tokens ≡ values
    → values_of (width ∷ widths) (token ∷ tokens) ≡ option_map (λ ns. n ∷ ns) values
value_then width widths token tokens n values here behind =
    ap (option_and_then (λ n. option_map (λ ns. n ∷ ns) (values_of widths tokens))) here ∙ ap (option_map (λ ns. n ∷ ns)) behind

-- the first token has none
value_missing : (width : ℕ) (widths token : List ℕ) (tokens : List (List ℕ)) → operand_of width token ≡ None → values_of (width ∷ widths) (token ∷ tokens) ≡ None
value_missing width widths token tokens here = ap (option_and_then (λ n. option_map (λ ns. n ∷ ns) (values_of widths tokens))) here

-- what counted tokens spell
operands_are : (widths : List ℕ) (tokens all : List (List ℕ)) (values : Option (List ℕ)) → are_counted widths tokens ≡ true → tokens ≡ all → values_of widths all ≡ values
    → ok_or values Number ≡ operands_of widths tokens
operands_are widths tokens all values counted is values_are =
    sym (cond-true _ _ _ counted ∙ ap (λ v. ok_or v Number) (ap (values_of widths) is ∙ values_are))

-- so many values are what counted tokens spell, or one of the tokens has none
pub two_spelled : (u v : ℕ) (tokens : List (List ℕ)) (a b : List ℕ) (n m : ℕ) → AreTwo tokens a b → operand_of u a ≡ Some n → operand_of v b ≡ Some m → Ok (n ∷ m ∷ []) ≡ operands_of (u ∷ v ∷ []) tokens
two_spelled u v tokens a b n m two p q =
    operands_are (u ∷ v ∷ []) tokens (a ∷ b ∷ []) (Some (n ∷ m ∷ [])) (two_counted u v tokens a b two) two.0 (value_then u (v ∷ []) a (b ∷ []) n (Some (m ∷ [])) p (value_then v [] b [] m (Some []) q refl))

pub first_of_two : (u v : ℕ) (tokens : List (List ℕ)) (a b : List ℕ) → AreTwo tokens a b → operand_of u a ≡ None → Err Number ≡ operands_of (u ∷ v ∷ []) tokens
first_of_two u v tokens a b two p = operands_are (u ∷ v ∷ []) tokens (a ∷ b ∷ []) None (two_counted u v tokens a b two) two.0 (value_missing u (v ∷ []) a (b ∷ []) p)

pub second_of_two : (u v : ℕ) (tokens : List (List ℕ)) (a b : List ℕ) (n : ℕ) → AreTwo tokens a b → operand_of u a ≡ Some n → operand_of v b ≡ None → Err Number ≡ operands_of (u ∷ v ∷ []) tokens
second_of_two u v tokens a b n two p q =
    operands_are (u ∷ v ∷ []) tokens (a ∷ b ∷ []) None (two_counted u v tokens a b two) two.0 (value_then u (v ∷ []) a (b ∷ []) n None p (value_missing v [] b [] q))

pub three_spelled : (u v w : ℕ) (tokens : List (List ℕ)) (a b d : List ℕ) (n m k : ℕ) → AreThree tokens a b d → operand_of u a ≡ Some n → operand_of v b ≡ Some m → operand_of w d ≡ Some k
    → Ok (n ∷ m ∷ k ∷ []) ≡ operands_of (u ∷ v ∷ w ∷ []) tokens
three_spelled u v w tokens a b d n m k three p q r =
    operands_are (u ∷ v ∷ w ∷ []) tokens (a ∷ b ∷ d ∷ []) (Some (n ∷ m ∷ k ∷ [])) (three_counted u v w tokens a b d three) three.0
    (value_then u (v ∷ w ∷ []) a (b ∷ d ∷ []) n (Some (m ∷ k ∷ [])) p (value_then v (w ∷ []) b (d ∷ []) m (Some (k ∷ [])) q (value_then w [] d [] k (Some []) r refl)))

pub first_of_three : (u v w : ℕ) (tokens : List (List ℕ)) (a b d : List ℕ) → AreThree tokens a b d → operand_of u a ≡ None → Err Number ≡ operands_of (u ∷ v ∷ w ∷ []) tokens
first_of_three u v w tokens a b d three p =
    operands_are (u ∷ v ∷ w ∷ []) tokens (a ∷ b ∷ d ∷ []) None (three_counted u v w tokens a b d three) three.0 (value_missing u (v ∷ w ∷ []) a (b ∷ d ∷ []) p)

pub second_of_three : (u v w : ℕ) (tokens : List (List ℕ)) (a b d : List ℕ) (n : ℕ) → AreThree tokens a b d → operand_of u a ≡ Some n → operand_of v b ≡ None → Err Number ≡ operands_of (u ∷ v ∷ w ∷ []) tokens
second_of_three u v w tokens a b d n three p q =
    operands_are (u ∷ v ∷ w ∷ []) tokens (a ∷ b ∷ d ∷ []) None (three_counted u v w tokens a b d three) three.0 (value_then u (v ∷ w ∷ []) a (b ∷ d ∷ []) n None p (value_missing v (w ∷ []) b (d ∷ []) q))

pub third_of_three : (u v w : ℕ) (tokens : List (List ℕ)) (a b d : List ℕ) (n m : ℕ) → AreThree tokens a b d → operand_of u a ≡ Some n → operand_of v b ≡ Some m → operand_of w d ≡ None
    → Err Number ≡ operands_of (u ∷ v ∷ w ∷ []) tokens
third_of_three u v w tokens a b d n m three p q r =
    operands_are (u ∷ v ∷ w ∷ []) tokens (a ∷ b ∷ d ∷ []) None (three_counted u v w tokens a b d three) three.0
    (value_then u (v ∷ w ∷ []) a (b ∷ d ∷ []) n None p (value_then v (w ∷ []) b (d ∷ []) m None q (value_missing w [] d [] r)))
