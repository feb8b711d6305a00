-- What stands at the front of a frame's bytes.
use Rattle.std.proofs.Common.{◌≡◌, inl, inr, ℕ, ◌+◌, ◌<◌, ◌≤◌, ◌^◌, List, [], ◌∷◌, ◌++◌, length, take, drop, Option, Some, None, refl, sym, ap, subst, ◌∙◌, append_assoc, arith}
use Rattle.std.specs.List.{flat_map, AllByRecursion}
use Rattle.std.proofs.lemmas.List.{take_at, drop_at, length-append}
use Rattle.std.proofs.lemmas.Nat.{from_be_bytes-to_be_bytes_2}
use Rattle.hg_protocol.specs.declared.message.Message as message
use Rattle.hg_protocol.specs.declared.message.FrameFault.{FrameFault}
use Rattle.hg_protocol.specs.declared.message.FrameFault.TheVariants.{Length, Body}
use Rattle.hg_protocol.specs.Framing.{HasBadLength, HasFault, HasLength, IsUnfinished, body_in_front, frame_text, framed, length_in_front}
use Rattle.hg_protocol.specs.Streams.{EndsBy, IsRead}

front_length : (body x : List ℕ) → length body < 2 ^ 16 → length_in_front (framed body ++ x) ≡ length body
front_length body x small = from_be_bytes-to_be_bytes_2 (length body) small

front_body : (body x : List ℕ) → length body < 2 ^ 16 → body_in_front (framed body ++ x) ≡ body
front_body body x small = ap (λ (n : ℕ). take n (body ++ x)) (front_length body x small) ∙ take_at body x (length body) refl

front_rest : (body x : List ℕ) → length body < 2 ^ 16 → drop (length_in_front (framed body ++ x)) (drop 2 (framed body ++ x)) ≡ x
front_rest body x small = ap (λ (n : ℕ). drop n (body ++ x)) (front_length body x small) ∙ drop_at body x (length body) refl

-- a length is lawful or not
lawful : {most : ℕ} (x : List ℕ) → HasLength most x → HasBadLength most x → ⊥
lawful x has bad =
    let some = has.some in
    let within = has.within in
    elim bad.bad [
      | inl none ↦ omega (arith, some, none)
      | inr much ↦ omega (arith, within, much)
    ]

front_bytes : (body x : List ℕ) → length (framed body ++ x) ≡ 2 + length body + length x
front_bytes body x = let all = length-append body x in omega (arith, all)

module _ {M : Type 0} (g : message.Ghosts M) where
  pub spelled_more : (ms : List M) (m : M) (bytes rest later : List ℕ) → bytes ≡ flat_map (frame_text g) ms ++ rest → rest ≡ frame_text g m ++ later
      → bytes ≡ flat_map (frame_text g) (ms ++ m ∷ []) ++ later
  spelled_more [] m bytes rest later is more = is ∙ more ∙ sym (append_assoc (frame_text g m) [] later)
  spelled_more (f ∷ ms) m bytes rest later is more =
      is ∙ append_assoc (frame_text g f) (flat_map (frame_text g) ms) rest
      ∙ ap (λ (xs : List ℕ). frame_text g f ++ xs) (spelled_more ms m (flat_map (frame_text g) ms ++ rest) rest later refl more)
      ∙ sym (append_assoc (frame_text g f) (flat_map (frame_text g) (ms ++ m ∷ [])) later)

  pub fits_more : (ms : List M) (m : M) → AllByRecursion g.fits ms → g.fits m → AllByRecursion g.fits (ms ++ m ∷ [])
  fits_more [] m fits more = (more, tt)
  fits_more (f ∷ ms) m fits more = (fits.0, fits_more ms m fits.1 more)

  pub spelled_both : (front later : List M) (bytes more left rest : List ℕ) → bytes ≡ flat_map (frame_text g) front ++ left → left ++ more ≡ flat_map (frame_text g) later ++ rest
      → bytes ++ more ≡ flat_map (frame_text g) (front ++ later) ++ rest
  spelled_both [] later bytes more left rest is then = ap (λ (xs : List ℕ). xs ++ more) is ∙ then
  spelled_both (f ∷ front) later bytes more left rest is then =
      ap (λ (xs : List ℕ). xs ++ more) is
      ∙ ap (λ (xs : List ℕ). xs ++ more) (append_assoc (frame_text g f) (flat_map (frame_text g) front) left)
      ∙ append_assoc (frame_text g f) (flat_map (frame_text g) front ++ left) more
      ∙ ap (λ (xs : List ℕ). frame_text g f ++ xs) (spelled_both front later (flat_map (frame_text g) front ++ left) more left rest refl then)
      ∙ sym (append_assoc (frame_text g f) (flat_map (frame_text g) (front ++ later)) rest)

  pub fits_both : (front later : List M) → AllByRecursion g.fits front → AllByRecursion g.fits later → AllByRecursion g.fits (front ++ later)
  fits_both [] later fits then = then
  fits_both (f ∷ front) later fits then = (fits.0, fits_both front later fits.1 then)

  -- what a grammar of messages has
  pub record IsGrammar : Type 0 where
    pub narrow : g.MOST_BYTES < 2 ^ 16
    pub within : (m : M) → g.fits m → (1 ≤ length (g.body m)) × (length (g.body m) ≤ g.MOST_BYTES)
    pub one_message : (a b : M) → g.fits a → g.fits b → g.body a ≡ g.body b → a ≡ b

  module _ (is : IsGrammar) where
    short : (m : M) → g.fits m → length (g.body m) < 2 ^ 16
    short m fits = let few = (is.within m fits).1 in let narrow = is.narrow in omega (arith, few, narrow)

    one_frame : (a b : M) (x y : List ℕ) → g.fits a → g.fits b → frame_text g a ++ x ≡ frame_text g b ++ y → (a ≡ b) × (x ≡ y)
    one_frame a b x y fits again same =
        let bodies : g.body a ≡ g.body b = sym (front_body (g.body a) x (short a fits)) ∙ ap body_in_front same ∙ front_body (g.body b) y (short b again) in
        let rests : x ≡ y = sym (front_rest (g.body a) x (short a fits)) ∙ ap (λ (bytes : List ℕ). drop (length_in_front bytes) (drop 2 bytes)) same ∙ front_rest (g.body b) y (short b again) in
        (is.one_message a b fits again bodies, rests)

    -- a frame is finished
    finished : (m : M) (x : List ℕ) → g.fits m → IsUnfinished g.MOST_BYTES (frame_text g m ++ x) → ⊥
    finished m x fits unfinished =
        let bytes = front_bytes (g.body m) x in
        let len = front_length (g.body m) x (short m fits) in
        elim unfinished [
          | inl less ↦ omega (arith, bytes, less)
          | inr part ↦ let less = part.1 in omega (arith, bytes, len, less)
        ]

    -- a frame has no fault
    faultless : (fault : FrameFault) (m : M) (x : List ℕ) → g.fits m → HasFault g fault (frame_text g m ++ x) → ⊥
    faultless Length m x fits has =
        let len = front_length (g.body m) x (short m fits) in
        let some = (is.within m fits).0 in
        let few = (is.within m fits).1 in
        elim has.bad [
          | inl none ↦ omega (arith, len, some, none)
          | inr much ↦ omega (arith, len, few, much)
        ]
    faultless Body m x fits has = has.none (m, fits, front_body (g.body m) x (short m fits))

    -- a frame is no end
    no_end : (end : Option FrameFault) (m : M) (x : List ℕ) → g.fits m → EndsBy g end (frame_text g m ++ x) → ⊥
    no_end None m x fits ends = finished m x fits ends
    no_end (Some fault) m x fits ends = faultless fault m x fits ends

    -- an unfinished frame has no fault yet
    no_fault : (fault : FrameFault) (x : List ℕ) → IsUnfinished g.MOST_BYTES x → HasFault g fault x → ⊥
    no_fault Length x (inl less) has = let there = has.there in omega (arith, less, there)
    no_fault Length x (inr part) has = lawful x part.0 has
    no_fault Body x (inl less) has = let there = has.has.there in omega (arith, less, there)
    no_fault Body x (inr part) has = let whole = has.whole in let less = part.1 in omega (arith, less, whole)

    one_end : (a b : Option FrameFault) (x : List ℕ) → EndsBy g a x → EndsBy g b x → a ≡ b
    one_end None None x ends again = refl
    one_end None (Some fault) x ends again = absurd (no_fault fault x ends again)
    one_end (Some fault) None x ends again = absurd (no_fault fault x again ends)
    one_end (Some Length) (Some Length) x ends again = refl
    one_end (Some Length) (Some Body) x ends again = absurd (lawful x again.has ends)
    one_end (Some Body) (Some Length) x ends again = absurd (lawful x ends.has again)
    one_end (Some Body) (Some Body) x ends again = refl

    -- The bytes of a stream settle what is read of them.
    pub one_reading : (bytes x y : List ℕ) (ms ns : List M) (a b : Option FrameFault) → IsRead g bytes ms a x → IsRead g bytes ns b y → (ms ≡ ns) × (a ≡ b) × (x ≡ y)
    one_reading bytes x y [] [] a b read again =
        let rests : x ≡ y = sym read.spelled ∙ again.spelled in
        (refl, one_end a b y (subst (λ (rest : List ℕ). EndsBy g a rest) rests read.ends) again.ends, rests)
    one_reading bytes x y [] (n ∷ ns) a b read again =
        let is : x ≡ frame_text g n ++ (flat_map (frame_text g) ns ++ y) = sym read.spelled ∙ again.spelled ∙ append_assoc (frame_text g n) (flat_map (frame_text g) ns) y in
        absurd (no_end a n (flat_map (frame_text g) ns ++ y) again.fits.0 (subst (λ (rest : List ℕ). EndsBy g a rest) is read.ends))
    one_reading bytes x y (m ∷ ms) [] a b read again =
        let is : y ≡ frame_text g m ++ (flat_map (frame_text g) ms ++ x) = sym again.spelled ∙ read.spelled ∙ append_assoc (frame_text g m) (flat_map (frame_text g) ms) x in
        absurd (no_end b m (flat_map (frame_text g) ms ++ x) read.fits.0 (subst (λ (rest : List ℕ). EndsBy g b rest) is again.ends))
    one_reading bytes x y (m ∷ ms) (n ∷ ns) a b read again =
        let left = flat_map (frame_text g) ms ++ x in
        let right = flat_map (frame_text g) ns ++ y in
        let same : frame_text g m ++ left ≡ frame_text g n ++ right =
        sym (append_assoc (frame_text g m) (flat_map (frame_text g) ms) x) ∙ sym read.spelled ∙ again.spelled ∙ append_assoc (frame_text g n) (flat_map (frame_text g) ns) y in
        let first = one_frame m n left right read.fits.0 again.fits.0 same in
        let later = one_reading left x y ms ns a b (record { spelled = refl; fits = read.fits.1; ends = read.ends }) (record { spelled = first.1; fits = again.fits.1; ends = again.ends }) in
        (λ i. first.0 i ∷ later.0 i, later.1, later.2)
