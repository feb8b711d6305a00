-- Lists that stand one after another, by their numbers.
use Rattle.std.proofs.Common.{◌≡◌, inl, inr, ℕ, suc, ◌+◌, ◌-◌, ◌/◌, ◌<◌, ◌≤◌, ◌^◌, true, false, true≢false, nat_eq}
use Rattle.std.proofs.Common.{List, [], ◌∷◌, ◌++◌, length, get_or, take, drop, All, refl, sym, ap, ◌∙◌, subst, arith, length-append}
use Rattle.std.specs.Cmp.Lexicographic.{pointwise, bytes_decides}
use Rattle.std.proofs.lemmas.Bool.{cases_eq}
use Rattle.std.proofs.lemmas.List.{get_or-map, get_or_append_left, get_or_push, length-drop, length-map, map_push, take-append-le, take_all, drop-append-le, drop_at}
use Rattle.std.proofs.lemmas.List.Elements.{All-push, All-weaker}
use Rattle.hg_sets.specs.Interning.{StandsAt, set_at}
use Rattle.hg_sets.specs.Listing.{AreFound, AreListed, HasMark, HoldNumbers, IsFoundBy, hash_of, is_of_threads, list_at, lists_of, taken}
use Rattle.hg_sets.specs.declared.lists.Span.{Span}

-- the list with this number
pub list_of : (elements : List ℕ) (spans : List Span) (id : ℕ) → id < length spans → set_at (lists_of elements spans) id ≡ list_at elements (get_or spans id (record { start = 0; len = 0; of_threads = false }))
list_of elements spans id lt = get_or-map (list_at elements) spans id (record { start = 0; len = 0; of_threads = false }) [] lt

pub count_of : (elements : List ℕ) (spans : List Span) → length (lists_of elements spans) ≡ length spans
count_of elements spans = length-map spans (list_at elements)

-- an entry has the list that its number gives
pub is_there : (elements : List ℕ) (spans : List Span) (list got : List ℕ) (entry : ℕ) → 0 < entry → entry ≤ length spans → got ≡ list_at elements (get_or spans (entry - 1) (record { start = 0; len = 0; of_threads = false })) → pointwise nat_eq got list ≡ true
    → StandsAt (lists_of elements spans) list (entry - 1)
is_there elements spans list got entry some within at same =
    (omega (arith, count_of elements spans), list_of elements spans (entry - 1) (omega arith) ∙ sym at ∙ (bytes_decides got list).0 same)

pub is_not_there : (elements : List ℕ) (spans : List Span) (list got : List ℕ) (entry id : ℕ) → got ≡ list_at elements (get_or spans (entry - 1) (record { start = 0; len = 0; of_threads = false })) → pointwise nat_eq got list ≡ false
    → StandsAt (lists_of elements spans) list id → entry ≡ id + 1 → ⊥
is_not_there elements spans list got entry id at other stands is =
    let number : entry - 1 ≡ id = omega arith in
    let got_is : got ≡ set_at (lists_of elements spans) id =
    at ∙ ap (λ k. list_at elements (get_or spans k (record { start = 0; len = 0; of_threads = false }))) number ∙ sym (list_of elements spans id (omega (arith, count_of elements spans, stands.0))) in
    true≢false (sym ((bytes_decides got list).1 (got_is ∙ stands.1)) ∙ other)

-- one list more is found
pub found_more : (elements : List ℕ) (spans : List Span) (old new got : List ℕ) (hash i : ℕ) → i < length spans → got ≡ list_at elements (get_or spans i (record { start = 0; len = 0; of_threads = false })) → hash ≡ hash_of got → IsFoundBy new hash (i + 1)
    → ((h e : ℕ) → 0 < e → IsFoundBy old h e → IsFoundBy new h e) → AreFound (lists_of elements spans) old i → AreFound (lists_of elements spans) new (i + 1)
found_more elements spans old new got hash i lt at is here kept before id below =
    elim (cases_eq id i) [
      | inl same ↦
          let one : hash ≡ hash_of (set_at (lists_of elements spans) id) = is ∙ ap hash_of (at ∙ sym (list_of elements spans i lt)) ∙ ap (λ k. hash_of (set_at (lists_of elements spans) k)) (sym same) in
          subst (λ h. IsFoundBy new h (id + 1)) one (subst (λ k. IsFoundBy new hash (k + 1)) (sym same) here)
      | inr other ↦ kept (hash_of (set_at (lists_of elements spans) id)) (id + 1) (omega arith) (before id (omega arith))
    ]

-- a list stays as it is where elements are added behind all
list_longer : (elements more : List ℕ) (s : Span) → s.start + s.len ≤ length elements → list_at (elements ++ more) s ≡ list_at elements s
list_longer elements more s within =
    ap (take s.len) (drop-append-le s.start elements more (omega arith)) ∙ take-append-le s.len (drop s.start elements) more (omega (arith, length-drop s.start elements))

pub lists_longer : (elements more : List ℕ) (spans : List Span) → All (λ span. span.start + span.len ≤ length elements) spans → lists_of (elements ++ more) spans ≡ lists_of elements spans
lists_longer elements more [] within = refl
lists_longer elements more (s ∷ spans) within =
    λ j. list_longer elements more s (within 0 s (omega arith)) j ∷ lists_longer elements more spans (λ i d lt. within (suc i) d (omega arith)) j

-- what was added is the list of its span
list_last : (elements list : List ℕ) (span : Span) → span.start ≡ length elements → span.len ≡ length list → list_at (elements ++ list) span ≡ list
list_last elements list span start len =
    ap (λ n. take n (drop span.start (elements ++ list))) len ∙ ap (take (length list)) (ap (λ n. drop n (elements ++ list)) start ∙ drop_at elements list (length elements) refl) ∙ take_all (length list) list (omega arith)

pub lists_pushed : (elements list : List ℕ) (spans : List Span) (span : Span) → All (λ span. span.start + span.len ≤ length elements) spans → span.start ≡ length elements → span.len ≡ length list
    → lists_of (elements ++ list) (spans ++ span ∷ []) ≡ lists_of elements spans ++ list ∷ []
lists_pushed elements list spans span within start len =
    map_push (list_at (elements ++ list)) spans span ∙ (λ j. lists_longer elements list spans within j ++ list_last elements list span start len j ∷ [])

-- the spans are within more elements too
still_within : (elements list : List ℕ) (spans : List Span) → All (λ span. span.start + span.len ≤ length elements) spans → All (λ span. span.start + span.len ≤ length (elements ++ list)) spans
still_within elements list spans within =
    All-weaker (λ (span : Span). span.start + span.len ≤ length elements) (λ (span : Span). span.start + span.len ≤ length (elements ++ list)) (λ span h. omega (arith, length-append elements list)) spans within

-- spans tell of their lists among more elements too
still_marked : (elements list : List ℕ) (spans : List Span) → All (λ span. span.start + span.len ≤ length elements) spans → All (HasMark elements) spans → All (HasMark (elements ++ list)) spans
still_marked elements list spans within marks k d lt = marks k d lt ∙ ap is_of_threads (sym (list_longer elements list (get_or spans k d) (within k d lt)))

-- one list more
pub more_listed : (elements list : List ℕ) (spans : List Span) (span : Span) (slots new : List ℕ) (hash : ℕ) → AreListed elements spans slots
    → length elements + length list < 2 ^ 32 → length spans < length slots / 2 → span.start ≡ length elements → span.len ≡ length list → span.of_threads ≡ is_of_threads list
    → hash ≡ hash_of list → length new ≡ length slots → taken new ≡ taken slots + 1 → HoldNumbers (length spans + 1) new
    → IsFoundBy new hash (length spans + 1) → ((h e : ℕ) → 0 < e → IsFoundBy slots h e → IsFoundBy new h e) → AreListed (elements ++ list) (spans ++ span ∷ []) new
more_listed elements list spans span slots new hash h few room start len mark is same one numbers here kept =
    let longer : length spans + 1 ≡ length (spans ++ span ∷ []) = omega (arith, length-append spans (span ∷ [])) in
    let lists = lists_of elements spans in
    let count = count_of elements spans in
    let pushed : AreFound (lists ++ list ∷ []) new (length spans + 1) = λ id below.
    elim (cases_eq id (length spans)) [
      | inl last ↦
          let one : hash ≡ hash_of (set_at (lists ++ list ∷ []) id) = is ∙ ap hash_of (sym (get_or_push lists list [] id (count ∙ sym last))) in
          subst (λ k. IsFoundBy new k (id + 1)) one (subst (λ k. IsFoundBy new hash (k + 1)) (sym last) here)
      | inr other ↦
          let one : set_at (lists ++ list ∷ []) id ≡ set_at lists id = get_or_append_left lists (list ∷ []) [] id (omega arith) in
          subst (λ xs. IsFoundBy new (hash_of xs) (id + 1)) (sym one) (kept (hash_of (set_at lists id)) (id + 1) (omega arith) (h.found id (omega arith)))
    ] in
    record {
      few_elements = omega (arith, length-append elements list);
      few_lists = omega (arith, length-append spans (span ∷ []));
      few_slots = omega (arith, h.few_slots);
      within = All-push (λ (span : Span). span.start + span.len ≤ length (elements ++ list)) spans span (still_within elements list spans h.within) (omega (arith, length-append elements list));
      marks = All-push (HasMark (elements ++ list)) spans span (still_marked elements list spans h.within h.marks) (mark ∙ ap is_of_threads (sym (list_last elements list span start len)));
      numbers = subst (λ n. HoldNumbers n new) longer numbers;
      one_slot_each = omega (arith, h.one_slot_each, length-append spans (span ∷ []));
      found = subst (AreFound (lists_of (elements ++ list) (spans ++ span ∷ [])) new) longer (subst (λ lists. AreFound lists new (length spans + 1)) (sym (lists_pushed elements list spans span h.within start len)) pushed);
    }
