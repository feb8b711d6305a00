-- The verbs of the table, and the token that names one.
use Rattle.std.proofs.Common.{◌≡◌, ◌≢◌, ℕ, zero, suc, ◌<◌, ◌≤◌, Bool, true, false, leb, ltb, List, [], ◌∷◌, length, Some, None, refl, sym, ◌∙◌, ap, subst, arith, inl, inr, Contains}
use Rattle.std.proofs.lemmas.Bool.{cond-true, cond-false, cases_Bool, ltb-true, leb-true, and_parts, false_from_ne_true}
use Rattle.std.proofs.lemmas.Slice.Eq.{bytes_eq-Decides}
use Rattle.std.specs.List.{AllByRecursion, list_all, find}
use Rattle.std.specs.Str.{bytes_eq}
use Rattle.hg_wire.specs.declared.verb.Verb.{Verb}
use Rattle.hg_wire.specs.declared.verb.Verb.TheVariants.{Fork, Join, Lock, RdLock, Unlock, Read, Write, Alloc, Free, Send, Recv}
use Rattle.hg_wire.specs.Verbs.{row_of, verbs}
use Rattle.hg_wire.specs.Lines.{verb_named}
use Rattle.hg_wire.specs.Bytes.{NoByte}

-- what a search finds
pub find_some : {X : Type 0} (p : X → Bool) (xs : List X) (x : X) → find p xs ≡ Some x → Contains xs x × (p x ≡ true)
find_some p [] x e = absurd (let none : None ≡ Some x = e in cc)
find_some p (y ∷ ys) x e = elim (cases_Bool (p y)) [
  | inl hit ↦ (let same : Some y ≡ Some x = sym (cond-true _ _ _ hit) ∙ e in
      let is : y ≡ x = cc in
      ((zero, omega arith, is), subst (λ z. p z ≡ true) is hit))
  | inr miss ↦ (let more = find_some p ys x (sym (cond-false _ _ _ miss) ∙ e) in ((suc more.0.0, omega arith, more.0.2), more.1))
]

pub find_none : {X : Type 0} (p : X → Bool) (xs : List X) → ((x : X) → Contains xs x → p x ≡ false) → find p xs ≡ None
find_none p [] h = refl
find_none p (y ∷ ys) h = cond-false _ _ _ (h y (zero, omega arith, refl)) ∙ find_none p ys (λ x c. h x (suc c.0, omega arith, c.2))

all_above : (c : ℕ) (bytes : List ℕ) → list_all (λ b. ltb c b) bytes ≡ true → AllByRecursion (λ b. c < b) bytes
all_above c [] h = tt
all_above c (b ∷ bytes) h = let p = and_parts _ _ h in (ltb-true c b p.0, all_above c bytes p.1)

pub no_low_byte : (low c : ℕ) (bytes : List ℕ) → c ≤ low → AllByRecursion (λ b. low < b) bytes → NoByte c bytes
no_low_byte low c [] small h = tt
no_low_byte low c (b ∷ bytes) small h = ((λ e. omega (arith, h.0)), no_low_byte low c bytes small h.1)

-- what is true of each verb
pub record IsVerb (verb : Verb) : Type 0 where
  pub letters : AllByRecursion (λ b. 35 < b) (row_of verb).text
  pub some : 1 ≤ length (row_of verb).text
  pub short : length (row_of verb).text ≤ 6
  pub few : length (row_of verb).widths ≤ 3
  pub named : verb_named (row_of verb).text ≡ Some verb

is_verb : (verb : Verb) → list_all (λ b. ltb 35 b) (row_of verb).text ≡ true → leb 1 (length (row_of verb).text) ≡ true → leb (length (row_of verb).text) 6 ≡ true → leb (length (row_of verb).widths) 3 ≡ true
    → verb_named (row_of verb).text ≡ Some verb → IsVerb verb
is_verb verb letters some short few named =
    record {
      letters = all_above 35 (row_of verb).text letters;
      some = leb-true _ _ some;
      short = leb-true _ _ short;
      few = leb-true _ _ few;
      named = named;
    }

pub each_is_verb : (verb : Verb) → IsVerb verb
unfolding verb_named
each_is_verb Fork = is_verb Fork refl refl refl refl refl
each_is_verb Join = is_verb Join refl refl refl refl refl
each_is_verb Lock = is_verb Lock refl refl refl refl refl
each_is_verb RdLock = is_verb RdLock refl refl refl refl refl
each_is_verb Unlock = is_verb Unlock refl refl refl refl refl
each_is_verb Read = is_verb Read refl refl refl refl refl
each_is_verb Write = is_verb Write refl refl refl refl refl
each_is_verb Alloc = is_verb Alloc refl refl refl refl refl
each_is_verb Free = is_verb Free refl refl refl refl refl
each_is_verb Send = is_verb Send refl refl refl refl refl
each_is_verb Recv = is_verb Recv refl refl refl refl refl

pub verb_spaceless : (verb : Verb) → NoByte 32 (row_of verb).text
verb_spaceless verb = no_low_byte 35 32 (row_of verb).text (omega arith) (each_is_verb verb).letters

pub named_has_text : (token : List ℕ) (verb : Verb) → verb_named token ≡ Some verb → (row_of verb).text ≡ token
unfolding verb_named
named_has_text token verb e =
    let p = find_some (λ v. bytes_eq (row_of v).text token) verbs verb e in (bytes_eq-Decides (row_of verb).text token).0 p.1

pub nothing_named : (token : List ℕ) → ((verb : Verb) → (row_of verb).text ≢ token) → verb_named token ≡ None
unfolding verb_named
nothing_named token h =
    find_none (λ v. bytes_eq (row_of v).text token) verbs (λ verb c. false_from_ne_true _ (λ e. h verb ((bytes_eq-Decides (row_of verb).text token).0 e)))

pub named_by_none : (token : List ℕ) → verb_named token ≡ None → (verb : Verb) → (row_of verb).text ≢ token
named_by_none token e verb is =
    let again : verb_named token ≡ Some verb = ap verb_named (sym is) ∙ (each_is_verb verb).named in cc
