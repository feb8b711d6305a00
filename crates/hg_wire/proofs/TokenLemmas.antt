-- The tokens of a line, and the line of some tokens.
use Rattle.std.proofs.Common.{◌≡◌, ℕ, suc, ◌+◌, ◌<◌, ◌≤◌, Bool, true, false, eqb, ltb, List, [], ◌∷◌, ◌++◌, length, take, drop, Some, None, refl, sym, ◌∙◌, ap, arith, inl, inr}
use Rattle.std.proofs.lemmas.Bool.{cond-true, cond-false, cases_Bool, eqb-true, eqb-false, ne_eqb, eq-eqb, ltb-true, ltb-false}
use Rattle.std.proofs.lemmas.List.Splits.{slice_split_none, slice_split_first}
use Rattle.std.proofs.lemmas.List.Sums.{fails_before_first}
use Rattle.std.proofs.lemmas.Option.{cond_some}
use Rattle.std.proofs.lemmas.Slice.{between_to_end}
use Rattle.hg_wire.specs.Bytes.{NoByte}
use Rattle.std.specs.List.{slice_split, onto_first, before_first, AllByRecursion, flat_map, position_or_len, position, between}

-- for each token the byte c, and then the token
abbrev pub led_by : ℕ → List (List ℕ) → List ℕ
led_by c tokens = flat_map (λ token. c ∷ token) tokens

-- the part before the first c, and the parts after it
pub record Parts (c : ℕ) (bytes first : List ℕ) (rest : List (List ℕ)) : Type 0 where
  pub split : slice_split (λ b. eqb b c) bytes ≡ first ∷ rest
  pub joined : bytes ≡ first ++ led_by c rest
  pub none : NoByte c first
  pub nones : AllByRecursion (NoByte c) rest
  pub before : before_first (λ b. eqb b c) bytes ≡ first

before_at : (c x : ℕ) (xs : List ℕ) → eqb x c ≡ true → before_first (λ b. eqb b c) (x ∷ xs) ≡ []
before_at c x xs e = rw e refl

before_past : (c x : ℕ) (xs : List ℕ) → eqb x c ≡ false → before_first (λ b. eqb b c) (x ∷ xs) ≡ x ∷ before_first (λ b. eqb b c) xs
before_past c x xs e =
    let more : 1 + position_or_len (λ b. eqb b c) xs ≡ suc (position_or_len (λ b. eqb b c) xs) = omega arith in
    rw (e, more) refl

parts_at : (c x : ℕ) (xs first : List ℕ) (rest : List (List ℕ)) → eqb x c ≡ true → Parts c xs first rest → Parts c (x ∷ xs) [] (first ∷ rest)
parts_at c x xs first rest hit p =
    let same : x ≡ c = eqb-true x c hit in
    record {
      split = cond-true _ _ _ hit ∙ ap (λ parts. [] ∷ parts) p.split;
      joined = (let joined = p.joined in cc);
      none = tt;
      nones = (p.none, p.nones);
      before = before_at c x xs hit;
    }

parts_past : (c x : ℕ) (xs first : List ℕ) (rest : List (List ℕ)) → eqb x c ≡ false → Parts c xs first rest → Parts c (x ∷ xs) (x ∷ first) rest
parts_past c x xs first rest miss p =
    record {
      split = cond-false _ _ _ miss ∙ ap (onto_first x) p.split;
      joined = ap (λ bytes. x ∷ bytes) p.joined;
      none = (eqb-false x c miss, p.none);
      nones = p.nones;
      before = before_past c x xs miss ∙ ap (λ bytes. x ∷ bytes) p.before;
    }

pub split_parts : (c : ℕ) (bytes : List ℕ) → (first : List ℕ) × (rest : List (List ℕ)) × Parts c bytes first rest
split_parts c [] = ([], [], record { split = refl; joined = refl; none = tt; nones = tt; before = refl })
split_parts c (x ∷ xs) =
    let p = split_parts c xs in
    elim (cases_Bool (eqb x c)) [
      | inl at ↦ ([], p.0 ∷ p.1, parts_at c x xs p.0 p.1 at p.2)
      | inr past ↦ (x ∷ p.0, p.1, parts_past c x xs p.0 p.1 past p.2)
    ]

pub split_joined : (c : ℕ) (first : List ℕ) (rest : List (List ℕ)) → NoByte c first → AllByRecursion (NoByte c) rest
    → slice_split (λ b. eqb b c) (first ++ led_by c rest) ≡ first ∷ rest
split_joined c [] [] none nones = refl
split_joined c [] (token ∷ rest) none nones =
    cond-true _ _ _ (eq-eqb c c refl) ∙ ap (λ parts. [] ∷ parts) (split_joined c token rest nones.0 nones.1)
split_joined c (x ∷ xs) rest none nones =
    cond-false _ _ _ (ne_eqb x c none.0) ∙ ap (onto_first x) (split_joined c xs rest none.1 nones)

pub before_joined : (c : ℕ) (first : List ℕ) (rest : List (List ℕ)) → NoByte c first → before_first (λ b. eqb b c) (first ++ led_by c rest) ≡ first
before_joined c [] [] none = refl
before_joined c [] (token ∷ rest) none = before_at c c (token ++ led_by c rest) (eq-eqb c c refl)
before_joined c (x ∷ xs) rest none =
    before_past c x (xs ++ led_by c rest) (ne_eqb x c none.0) ∙ ap (λ bytes. x ∷ bytes) (before_joined c xs rest none.1)

-- a line with no space is one token
pub no_space : (line : List ℕ) → None ≡ position (λ b. eqb b 32) line → slice_split (λ b. eqb b 32) line ≡ line ∷ []
no_space line e =
    let p : ℕ → Bool = λ b. eqb b 32 in
    let past : length line ≤ position_or_len p line = (
    elim (cases_Bool (ltb (position_or_len p line) (length line))) [
      | inl before ↦ absurd (let found : position p line ≡ Some (position_or_len p line) = cond-true _ _ _ before in
          let bad : None ≡ Some (position_or_len p line) = e ∙ found in cc)
      | inr past ↦ ltb-false _ _ past
    ]) in
    slice_split_none p line (λ k d lt. fails_before_first p line k d (omega arith))

-- else the first token ends at the first space
pub first_token_ends : (line : List ℕ) (at : ℕ) → Some at ≡ position (λ b. eqb b 32) line
    → slice_split (λ b. eqb b 32) line ≡ take at line ∷ slice_split (λ b. eqb b 32) (between (at + 1) (length line) line)
first_token_ends line at e =
    let p : ℕ → Bool = λ b. eqb b 32 in
    let found = cond_some _ _ _ (sym e) in
    let within : position_or_len p line < length line = ltb-true _ _ found.0 in
    let rest : between (at + 1) (length line) line ≡ drop (at + 1) line = between_to_end line (at + 1) (length line) (omega arith) in
    let is : position_or_len p line ≡ at = found.1 in
    slice_split_first p line 0 within ∙ (ap (λ k. take k line ∷ slice_split p (drop (k + 1) line)) is ∙ ap (λ r. take at line ∷ slice_split p r) (sym rest))
