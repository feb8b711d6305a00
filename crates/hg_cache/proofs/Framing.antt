-- Pages with the frames in their places.
use Rattle.std.proofs.Common.{◌≡◌, ◌≢◌, ◌-◌, ◌<◌, ◌==◌, ◌∙◌, ℕ, zero, suc, nat_eq, Bool, true, false, cond, List, [], ◌∷◌, ◌++◌, length, get_or, set, slice_get, is_some, option_map, Option, Some, None, if◌then◌else◌, refl, sym, ap, subst, arith}
use Rattle.std.specs.List.{IsDistinct}
use Rattle.std.specs.Option.{option_map_or}
use Rattle.std.specs.Map.{lookup, lookup_entry, remove_entry, keys_of}
use Rattle.std.proofs.lemmas.List.{get_or-set_same, get_or-set_other}
use Rattle.lru.specs.LruCache.{last_entry, promoted}
use Rattle.hg_cache.specs.declared.frame.Frame.{Frame}
use Rattle.hg_cache.specs.declared.frame.Placed.{Placed}
use Rattle.hg_cache.specs.Frames.{ArePlaced, HasPage, frame_at, framed, nothing, page_behind, with_frame}
use Rattle.hg_cache.specs.Entries.{IsFree, behind, has_place}
use Rattle.hg_cache.proofs.Lookups.{if_false, if_true, itself, looked_promoted, same_number}

module _ (placed : List Placed) where
  -- a page with its frame
  abbrev pub with_its : ℕ × ℕ → ℕ × Frame
  with_its e = (e.0, frame_at placed e.1)

  pub keys_framed : (es : List (ℕ × ℕ)) → keys_of (framed placed es) ≡ keys_of es
  keys_framed [] = refl
  keys_framed (e ∷ es) = ap (λ (ks : List ℕ). e.0 ∷ ks) (keys_framed es)

  pub length_framed : (es : List (ℕ × ℕ)) → length (framed placed es) ≡ length es
  length_framed [] = refl
  length_framed (e ∷ es) = ap suc (length_framed es)

  pub looked_framed : (q : ℕ) (es : List (ℕ × ℕ)) → lookup (nat_eq q) (framed placed es) ≡ option_map (frame_at placed) (lookup (nat_eq q) es)
  looked_framed q [] = refl
  looked_framed q (e ∷ es) = here (q == e.0) (looked_framed q es)
    where
      here : (b : Bool) → lookup (nat_eq q) (framed placed es) ≡ option_map (frame_at placed) (lookup (nat_eq q) es) → cond b (Some (frame_at placed e.1)) (lookup (nat_eq q) (framed placed es)) ≡ option_map (frame_at placed) (cond b (Some e.1) (lookup (nat_eq q) es))
      here true same = refl
      here false same = same

  -- a page has a frame exactly if it has a place
  pub is_there : (q : ℕ) (es : List (ℕ × ℕ)) → is_some (lookup (nat_eq q) es) ≡ is_some (lookup (nat_eq q) (framed placed es))
  is_there q es = by (lookup (nat_eq q) es) ∙ ap is_some (sym (looked_framed q es))
    where
      by : (o : Option ℕ) → is_some o ≡ is_some (option_map (frame_at placed) o)
      by None = refl
      by (Some place) = refl

  pub absent_framed : (q : ℕ) (es : List (ℕ × ℕ)) → lookup (nat_eq q) (framed placed es) ≡ None → lookup (nat_eq q) es ≡ None
  absent_framed q es none = by (lookup (nat_eq q) es) (sym (looked_framed q es) ∙ none)
    where
      by : (o : Option ℕ) → option_map (frame_at placed) o ≡ None → o ≡ None
      by None is = refl
      by (Some place) is = absurd (cc is)

  pub entry_framed : (q : ℕ) (es : List (ℕ × ℕ)) → lookup_entry (nat_eq q) (framed placed es) ≡ option_map with_its (lookup_entry (nat_eq q) es)
  entry_framed q [] = refl
  entry_framed q (e ∷ es) = here (q == e.0) (entry_framed q es)
    where
      here : (b : Bool) → lookup_entry (nat_eq q) (framed placed es) ≡ option_map with_its (lookup_entry (nat_eq q) es) → cond b (Some (with_its e)) (lookup_entry (nat_eq q) (framed placed es)) ≡ option_map with_its (cond b (Some e) (lookup_entry (nat_eq q) es))
      here true same = refl
      here false same = same

  pub removed_framed : (q : ℕ) (es : List (ℕ × ℕ)) → framed placed (remove_entry (nat_eq q) es) ≡ remove_entry (nat_eq q) (framed placed es)
  removed_framed q [] = refl
  removed_framed q (e ∷ es) = here (q == e.0) (removed_framed q es)
    where
      here : (b : Bool) → framed placed (remove_entry (nat_eq q) es) ≡ remove_entry (nat_eq q) (framed placed es) → framed placed (cond b es (e ∷ remove_entry (nat_eq q) es)) ≡ cond b (framed placed es) (with_its e ∷ remove_entry (nat_eq q) (framed placed es))
      here true same = refl
      here false same = ap (λ (fs : List (ℕ × Frame)). with_its e ∷ fs) same

  pub promoted_framed : (q : ℕ) (es : List (ℕ × ℕ)) → framed placed (promoted (nat_eq q) es) ≡ promoted (nat_eq q) (framed placed es)
  promoted_framed q es =
      by (lookup_entry (nat_eq q) es)
      ∙ ap (λ (o : Option (ℕ × Frame)). option_map_or (λ e. e ∷ remove_entry (nat_eq q) (framed placed es)) o (framed placed es)) (sym (entry_framed q es))
    where
      by : (o : Option (ℕ × ℕ)) → framed placed (option_map_or (λ e. e ∷ remove_entry (nat_eq q) es) o es) ≡ option_map_or (λ e. e ∷ remove_entry (nat_eq q) (framed placed es)) (option_map with_its o) (framed placed es)
      by None = refl
      by (Some e) = ap (λ (fs : List (ℕ × Frame)). with_its e ∷ fs) (removed_framed q es)

  got_framed : (k : ℕ) (es : List (ℕ × ℕ)) → slice_get (framed placed es) k ≡ option_map with_its (slice_get es k)
  got_framed k [] = refl
  got_framed zero (e ∷ es) = refl
  got_framed (suc k) (e ∷ es) = got_framed k es

  -- the page that is first, and the page that is last
  pub first_framed : (es : List (ℕ × ℕ)) → option_map (λ e. e.0) (slice_get es 0) ≡ option_map (λ e. e.0) (slice_get (framed placed es) 0)
  first_framed [] = refl
  first_framed (e ∷ es) = refl

  pub last_framed : (es : List (ℕ × ℕ)) → option_map (λ e. e.0) (last_entry (framed placed es)) ≡ option_map (λ e. e.0) (last_entry es)
  last_framed es =
      ap (λ (n : ℕ). option_map (λ e. e.0) (slice_get (framed placed es) (n - 1))) (length_framed es)
      ∙ ap (λ (o : Option (ℕ × Frame)). option_map (λ e. e.0) o) (got_framed (length es - 1) es)
      ∙ by (slice_get es (length es - 1))
    where
      by : (o : Option (ℕ × ℕ)) → option_map (λ e. e.0) (option_map with_its o) ≡ option_map (λ e. e.0) o
      by None = refl
      by (Some e) = refl

  pub held_removed : (q : ℕ) (es : List (ℕ × ℕ)) → ArePlaced placed es → ArePlaced placed (remove_entry (nat_eq q) es)
  held_removed q [] all = all
  held_removed q (e ∷ es) all = here (q == e.0) (held_removed q es all.1)
    where
      here : (b : Bool) → ArePlaced placed (remove_entry (nat_eq q) es) → ArePlaced placed (cond b es (e ∷ remove_entry (nat_eq q) es))
      here true rest = all.1
      here false rest = (all.0, rest)

  entry_placed : (q : ℕ) (es : List (ℕ × ℕ)) (e : ℕ × ℕ) → ArePlaced placed es → lookup_entry (nat_eq q) es ≡ Some e → HasPage placed e
  entry_placed q [] e all is = absurd (cc is)
  entry_placed q (f ∷ es) e all is = here (q == f.0) is (entry_placed q es e all.1)
    where
      here : (b : Bool) → cond b (Some f) (lookup_entry (nat_eq q) es) ≡ Some e → (lookup_entry (nat_eq q) es ≡ Some e → HasPage placed e) → HasPage placed e
      here true found rest = let same : f ≡ e = cc found in subst (λ (x : ℕ × ℕ). HasPage placed x) same all.0
      here false found rest = rest found

  pub held_promoted : (q : ℕ) (es : List (ℕ × ℕ)) → ArePlaced placed es → ArePlaced placed (promoted (nat_eq q) es)
  held_promoted q es all = by (lookup_entry (nat_eq q) es) refl
    where
      by : (o : Option (ℕ × ℕ)) → lookup_entry (nat_eq q) es ≡ o → ArePlaced placed (option_map_or (λ e. e ∷ remove_entry (nat_eq q) es) o es)
      by None is = all
      by (Some e) is = (entry_placed q es e all is, held_removed q es all)

  -- the place of a page has it
  pub held_of : (q place : ℕ) (es : List (ℕ × ℕ)) → ArePlaced placed es → lookup (nat_eq q) es ≡ Some place → HasPage placed (q, place)
  held_of q place [] all is = absurd (cc is)
  held_of q place (f ∷ es) all is = here (q == f.0) refl is (held_of q place es all.1)
    where
      here : (b : Bool) → (q == f.0) ≡ b → cond b (Some f.1) (lookup (nat_eq q) es) ≡ Some place → (lookup (nat_eq q) es ≡ Some place → HasPage placed (q, place)) → HasPage placed (q, place)
      here true test found rest =
          let same : f.1 ≡ place = cc found in
          (subst (λ (n : ℕ). n < length placed) same all.0.0, ap (λ (n : ℕ). (get_or placed n nothing).page) (sym same) ∙ all.0.1 ∙ sym (same_number q f.0 test))
      here false test found rest = rest found

  pub set_length : (xs : List Placed) (k : ℕ) (x : Placed) → length (set xs k x) ≡ length xs
  set_length [] k x = refl
  set_length (y ∷ ys) zero x = refl
  set_length (y ∷ ys) (suc k) x = ap suc (set_length ys k x)

  -- A free place may be taken.
  pub free_framed : (place : ℕ) (x : Placed) (es : List (ℕ × ℕ)) → IsFree place es → framed (set placed place x) es ≡ framed placed es
  free_framed place x [] free = refl
  free_framed place x (e ∷ es) free = λ i. (e.0, (get_or-set_other placed place e.1 x nothing free.0 i).frame) ∷ free_framed place x es free.1 i

  pub free_placed : (place : ℕ) (x : Placed) (es : List (ℕ × ℕ)) → IsFree place es → ArePlaced placed es → ArePlaced (set placed place x) es
  free_placed place x [] free all = tt
  free_placed place x (e ∷ es) free all =
      ((subst (λ (n : ℕ). e.1 < n) (sym (set_length placed place x)) all.0.0, ap (λ (h : Placed). h.page) (get_or-set_other placed place e.1 x nothing free.0) ∙ all.0.1), free_placed place x es free.1 all.1)

  -- and so may a new one
  got_front : (xs : List Placed) (x : Placed) (k : ℕ) → k < length xs → get_or (xs ++ x ∷ []) k nothing ≡ get_or xs k nothing
  got_front [] x k lt = absurd (omega (arith, lt))
  got_front (y ∷ ys) x zero lt = refl
  got_front (y ∷ ys) x (suc k) lt = got_front ys x k (omega (arith, lt))

  pub got_back : (xs : List Placed) (x : Placed) → (length xs < length (xs ++ x ∷ [])) × (get_or (xs ++ x ∷ []) (length xs) nothing ≡ x)
  got_back [] x = (omega arith, refl)
  got_back (y ∷ ys) x = let lt = (got_back ys x).0 in (omega (arith, lt), (got_back ys x).1)

  longer : (xs : List Placed) (x : Placed) (k : ℕ) → k < length xs → k < length (xs ++ x ∷ [])
  longer [] x k lt = absurd (omega (arith, lt))
  longer (y ∷ ys) x zero lt = omega arith
  longer (y ∷ ys) x (suc k) lt = let rest = longer ys x k (omega (arith, lt)) in omega (arith, rest)

  pub more_framed : (x : Placed) (es : List (ℕ × ℕ)) → ArePlaced placed es → framed (placed ++ x ∷ []) es ≡ framed placed es
  more_framed x [] all = refl
  more_framed x (e ∷ es) all = λ i. (e.0, (got_front placed x e.1 all.0.0 i).frame) ∷ more_framed x es all.1 i

  pub more_placed : (x : Placed) (es : List (ℕ × ℕ)) → ArePlaced placed es → ArePlaced (placed ++ x ∷ []) es
  more_placed x [] all = tt
  more_placed x (e ∷ es) all = ((longer placed x e.1 all.0.0, ap (λ (h : Placed). h.page) (got_front placed x e.1 all.0.0) ∙ all.0.1), more_placed x es all.1)

  -- another frame of the same page
  page_kept : (place j : ℕ) (f : Frame) → place < length placed → (get_or (with_frame placed place f) j nothing).page ≡ (get_or placed j nothing).page
  page_kept place j f lt = by (j == place) refl
    where
      by : (b : Bool) → (j == place) ≡ b → (get_or (with_frame placed place f) j nothing).page ≡ (get_or placed j nothing).page
      by true test =
          let same = same_number j place test in
          ap (λ (n : ℕ). (get_or (with_frame placed place f) n nothing).page) same
          ∙ ap (λ (h : Placed). h.page) (get_or-set_same placed place (record { page = (get_or placed place nothing).page; frame = f }) nothing lt)
          ∙ ap (λ (n : ℕ). (get_or placed n nothing).page) (sym same)
      by false test = ap (λ (h : Placed). h.page) (get_or-set_other placed place j (record { page = (get_or placed place nothing).page; frame = f }) nothing (λ same. absurd (cc (sym test ∙ ap (λ (n : ℕ). n == place) same ∙ itself place))))

  pub with_placed : (place : ℕ) (f : Frame) (es : List (ℕ × ℕ)) → place < length placed → ArePlaced placed es → ArePlaced (with_frame placed place f) es
  with_placed place f [] lt all = tt
  with_placed place f (e ∷ es) lt all =
      ((subst (λ (n : ℕ). e.1 < n) (sym (set_length placed place (record { page = (get_or placed place nothing).page; frame = f }))) all.0.0, page_kept place e.1 f lt ∙ all.0.1), with_placed place f es lt all.1)

  pub looked_with : (page place q : ℕ) (f : Frame) (es : List (ℕ × ℕ)) → ArePlaced placed es → lookup (nat_eq page) es ≡ Some place
      → option_map (frame_at (with_frame placed place f)) (lookup (nat_eq q) es) ≡ (if page == q then Some f else option_map (frame_at placed) (lookup (nat_eq q) es))
  looked_with page place q f es all is = by (page == q) refl (lookup (nat_eq q) es) refl
    where
      at : HasPage placed (page, place)
      at = held_of page place es all is

      by : (b : Bool) → (page == q) ≡ b → (o : Option ℕ) → lookup (nat_eq q) es ≡ o → option_map (frame_at (with_frame placed place f)) o ≡ (if b then Some f else option_map (frame_at placed) o)
      by true test o found =
          let there : o ≡ Some place = sym found ∙ ap (λ (n : ℕ). lookup (nat_eq n) es) (sym (same_number page q test)) ∙ is in
          ap (λ (x : Option ℕ). option_map (frame_at (with_frame placed place f)) x) there
          ∙ ap (λ (h : Placed). Some h.frame) (get_or-set_same placed place (record { page = (get_or placed place nothing).page; frame = f }) nothing at.0)
      by false test None found = refl
      by false test (Some j) found =
          let other = held_of q j es all found in
          let apart : j ≢ place = λ same. absurd (cc (sym test ∙ ap (λ (n : ℕ). page == n) (sym other.1 ∙ ap (λ (n : ℕ). (get_or placed n nothing).page) same ∙ at.1) ∙ itself page)) in
          ap (λ (h : Placed). Some h.frame) (get_or-set_other placed place j (record { page = (get_or placed place nothing).page; frame = f }) nothing apart)

pub written : (placed : List Placed) (page place q : ℕ) (f : Frame) (es : List (ℕ × ℕ)) → ArePlaced placed es → lookup (nat_eq page) es ≡ Some place
    → lookup (nat_eq q) (framed (with_frame placed place f) es) ≡ (if page == q then Some f else lookup (nat_eq q) (framed placed es))
written placed page place q f es all is =
    looked_framed (with_frame placed place f) q es ∙ looked_with placed page place q f es all is ∙ ap (λ (o : Option Frame). if page == q then Some f else o) (sym (looked_framed placed q es))

-- and so where the page was used anew
pub written_used : (placed : List Placed) (page place q : ℕ) (f : Frame) (es : List (ℕ × ℕ)) → IsDistinct nat_eq (keys_of es) → ArePlaced placed es → lookup (nat_eq page) es ≡ Some place
    → lookup (nat_eq q) (framed (with_frame placed place f) (promoted (nat_eq page) es)) ≡ (if page == q then Some f else lookup (nat_eq q) (framed placed es))
written_used placed page place q f es distinct all is =
    looked_framed (with_frame placed place f) q (promoted (nat_eq page) es)
    ∙ ap (λ (o : Option ℕ). option_map (frame_at (with_frame placed place f)) o) (looked_promoted page q es distinct)
    ∙ sym (looked_framed (with_frame placed place f) q es)
    ∙ written placed page place q f es all is

-- the frame of a page in this place
pub frame_there : (placed : List Placed) (page place : ℕ) (f : Frame) (es : List (ℕ × ℕ)) → lookup (nat_eq page) es ≡ Some place → lookup (nat_eq page) (framed placed es) ≡ Some f → frame_at placed place ≡ f
frame_there placed page place f es at is =
    let there : Some (frame_at placed place) ≡ Some f = sym (ap (λ (o : Option ℕ). option_map (frame_at placed) o) at) ∙ sym (looked_framed placed page es) ∙ is in
    cc there

-- a page that is there has a place
pub no_place : (placed : List Placed) (page : ℕ) (es : List (ℕ × ℕ)) (o : Option ℕ) → o ≡ lookup (nat_eq page) es → ((place : ℕ) → o ≡ Some place → ⊥) → is_some (lookup (nat_eq page) (framed placed es)) ≡ true → ⊥
no_place placed page es None is not there = absurd (cc (sym (ap is_some is ∙ is_there placed page es ∙ there)))
no_place placed page es (Some place) is not there = not place refl

-- the page behind another one is the page behind its place
pub behind_framed : (placed : List Placed) (page place : ℕ) (es : List (ℕ × ℕ)) → ArePlaced placed es → lookup (nat_eq page) es ≡ Some place
    → (has_place place es ≡ true) × (option_map (λ e. e.0) (behind place es) ≡ page_behind page (framed placed es))
behind_framed placed page place [] all is = absurd (cc is)
behind_framed placed page place (e ∷ es) all is = here (page == e.0) refl is (behind_framed placed page place es all.1)
  where
    here : (b : Bool) → (page == e.0) ≡ b → cond b (Some e.1) (lookup (nat_eq page) es) ≡ Some place
        → (lookup (nat_eq page) es ≡ Some place → (has_place place es ≡ true) × (option_map (λ f. f.0) (behind place es) ≡ page_behind page (framed placed es)))
        → ((if place == e.1 then true else has_place place es) ≡ true)
        × (option_map (λ f. f.0) (if place == e.1 then slice_get es 0 else behind place es) ≡ (if b then option_map (λ f. f.0) (slice_get (framed placed es) 0) else page_behind page (framed placed es)))
    here true test found rest =
        let same : e.1 ≡ place = cc found in
        let first : (place == e.1) ≡ true = ap (λ (n : ℕ). place == n) same ∙ itself place in (
          if_true (place == e.1) true (has_place place es) first,
          ap (λ (o : Option (ℕ × ℕ)). option_map (λ f. f.0) o) (if_true (place == e.1) (slice_get es 0) (behind place es) first) ∙ first_framed placed es,
        )
    here false test found rest =
        let at = held_of placed page place es all.1 found in
        let other : (place == e.1) ≡ false = apart at (place == e.1) refl in
        let later = rest found in (
          if_false (place == e.1) true (has_place place es) other ∙ later.0,
          ap (λ (o : Option (ℕ × ℕ)). option_map (λ f. f.0) o) (if_false (place == e.1) (slice_get es 0) (behind place es) other) ∙ later.1,
        )
      where
        apart : HasPage placed (page, place) → (b : Bool) → (place == e.1) ≡ b → (place == e.1) ≡ false
        apart at true same =
            let one : page ≡ e.0 = sym at.1 ∙ ap (λ (n : ℕ). (get_or placed n nothing).page) (same_number place e.1 same) ∙ all.0.1 in
            absurd (cc (sym test ∙ ap (λ (n : ℕ). n == e.0) one ∙ itself e.0))
        apart at false same = same

-- and none is behind a page that is not there
pub none_behind_absent : (placed : List Placed) (page : ℕ) (es : List (ℕ × ℕ)) → lookup (nat_eq page) es ≡ None → page_behind page (framed placed es) ≡ None
none_behind_absent placed page [] is = refl
none_behind_absent placed page (e ∷ es) is = here (page == e.0) is (none_behind_absent placed page es)
  where
    here : (b : Bool) → cond b (Some e.1) (lookup (nat_eq page) es) ≡ None → (lookup (nat_eq page) es ≡ None → page_behind page (framed placed es) ≡ None)
        → (if b then option_map (λ f. f.0) (slice_get (framed placed es) 0) else page_behind page (framed placed es)) ≡ None
    here true found rest = absurd (cc found)
    here false found rest = rest found
