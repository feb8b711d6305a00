-- The places are shared out between the pages and those that were left.
use Rattle.std.proofs.Common.{◌≡◌, ◌≢◌, inl, inr, ◌+◌, ◌<◌, ◌≤◌, ◌==◌, ◌∙◌, ℕ, suc, nat_eq, Bool, true, false, cond, List, [], ◌∷◌, ◌++◌, length, get_or, set, Option, Some, None, refl, sym, ap, subst, arith}
use Rattle.std.specs.List.{AllByRecursion, IsDistinct}
use Rattle.std.specs.Option.{option_map_or}
use Rattle.std.specs.Map.{lookup, lookup_entry, remove_entry, keys_of}
use Rattle.std.proofs.lemmas.List.{get_or-set_same, length-append}
use Rattle.std.proofs.lemmas.Map.Keys.{IsDistinct-head, IsDistinct-tail}
use Rattle.lru.specs.LruCache.{LruCache, lru_cache, promoted}
use Rattle.hg_cache.specs.declared.frame.Frame.{Frame}
use Rattle.hg_cache.specs.declared.frame.Placed.{Placed}
use Rattle.hg_cache.specs.Entries.{IsFree}
use Rattle.hg_cache.specs.Rings.{AreApart, IsApart}
use Rattle.hg_cache.specs.Frames.{ArePlaced, AreSharedOut, HasPage, HasRoom, IsFreePlace, TakesPlace, frame_at, framed, nothing, with_frame}
use Rattle.hg_cache.proofs.Lookups.{entry_is, if_true, itself}
use Rattle.hg_cache.proofs.Naming.{none_there}
use Rattle.hg_cache.proofs.Framing.{free_framed, free_placed, got_back, held_of, held_promoted, held_removed, more_framed, more_placed, set_length, with_placed}

-- all of a list with one more at its end
pub all_front : {X : Type 0} (P : X → Type 0) (xs : List X) (x : X) → AllByRecursion P (xs ++ x ∷ []) → AllByRecursion P xs
all_front P [] x all = tt
all_front P (y ∷ xs) x all = (all.0, all_front P xs x all.1)

pub all_back : {X : Type 0} (P : X → Type 0) (xs : List X) (x : X) → AllByRecursion P (xs ++ x ∷ []) → P x
all_back P [] x all = all.0
all_back P (y ∷ xs) x all = all_back P xs x all.1

all_with : {X : Type 0} (P : X → Type 0) (xs : List X) (x : X) → AllByRecursion P xs → P x → AllByRecursion P (xs ++ x ∷ [])
all_with P [] x all is = (is, tt)
all_with P (y ∷ xs) x all is = (all.0, all_with P xs x all.1 is)

all_then : {X : Type 0} (P Q : X → Type 0) (xs : List X) → ((x : X) → P x → Q x) → AllByRecursion P xs → AllByRecursion Q xs
all_then P Q [] leads all = tt
all_then P Q (x ∷ xs) leads all = (leads x all.0, all_then P Q xs leads all.1)

apart_front : (ps : List ℕ) (p : ℕ) → AreApart (ps ++ p ∷ []) → AreApart ps × IsApart p ps
apart_front [] p apart = (tt, tt)
apart_front (q ∷ ps) p apart =
    let rest = apart_front ps p apart.1 in
    let other : q ≢ p = λ same. all_back (λ r. r ≢ q) ps p apart.0 (sym same) in
    ((all_front (λ r. r ≢ q) ps p apart.0, rest.0), (other, rest.1))

apart_with : (ps : List ℕ) (p : ℕ) → AreApart ps → IsApart p ps → AreApart (ps ++ p ∷ [])
apart_with [] p apart from = (tt, tt)
apart_with (q ∷ ps) p apart from =
    (all_with (λ r. r ≢ q) ps p apart.0 (λ same. from.0 (sym same)), apart_with ps p apart.1 from.1)

-- the place of a page is no free one
place_taken : (q place p : ℕ) (es : List (ℕ × ℕ)) → lookup (nat_eq q) es ≡ Some place → IsFree p es → p ≢ place
place_taken q place p [] is free = λ same. absurd (cc is)
place_taken q place p (e ∷ es) is free = here (q == e.0) is (λ found. place_taken q place p es found free.1)
  where
    here : (b : Bool) → cond b (Some e.1) (lookup (nat_eq q) es) ≡ Some place → (lookup (nat_eq q) es ≡ Some place → p ≢ place) → p ≢ place
    here true found rest = let at : e.1 ≡ place = cc found in λ same. free.0 (at ∙ sym same)
    here false found rest = rest found

-- without a page, a free place is free
free_removed : (q p : ℕ) (es : List (ℕ × ℕ)) → IsFree p es → IsFree p (remove_entry (nat_eq q) es)
free_removed q p [] free = free
free_removed q p (e ∷ es) free = here (q == e.0) (free_removed q p es free.1)
  where
    here : (b : Bool) → IsFree p (remove_entry (nat_eq q) es) → IsFree p (cond b es (e ∷ remove_entry (nat_eq q) es))
    here true rest = free.1
    here false rest = (free.0, rest)

-- and there is one entry less
length_taken : {X : Type 0} (q : ℕ) (x : X) (es : List (ℕ × X)) → lookup (nat_eq q) es ≡ Some x → length es ≡ suc (length (remove_entry (nat_eq q) es))
length_taken q x [] is = absurd (cc is)
length_taken {X} q x (e ∷ es) is = here (q == e.0) is (length_taken q x es)
  where
    here : (b : Bool) → cond b (Some e.1) (lookup (nat_eq q) es) ≡ Some x
        → (lookup (nat_eq q) es ≡ Some x → length es ≡ suc (length (remove_entry (nat_eq q) es)))
        → suc (length es) ≡ suc (length (cond b es (e ∷ remove_entry (nat_eq q) es)))
    here true found rest = refl
    here false found rest = ap suc (rest found)

module _ (placed : List Placed) where
  -- no page behind another one has its place
  free_behind : (e : ℕ × ℕ) (es : List (ℕ × ℕ))
      → AllByRecursion (λ k. nat_eq e.0 k ≡ false) (keys_of es) → HasPage placed e → ArePlaced placed es → IsFree e.1 es
  free_behind e [] other at all = tt
  free_behind e (f ∷ es) other at all = (first, free_behind e es other.1 at all.1)
    where
      first : f.1 ≢ e.1
      first same =
          let one : e.0 ≡ f.0 = sym at.1 ∙ ap (λ (n : ℕ). (get_or placed n nothing).page) (sym same) ∙ all.0.1 in
          absurd (cc (sym other.0 ∙ ap (λ (n : ℕ). n == f.0) one ∙ itself f.0))

  -- without its page, a place is free
  pub freed : (q place : ℕ) (es : List (ℕ × ℕ))
      → IsDistinct nat_eq (keys_of es) → ArePlaced placed es → lookup (nat_eq q) es ≡ Some place → IsFree place (remove_entry (nat_eq q) es)
  freed q place [] distinct all is = tt
  freed q place (e ∷ es) distinct all is = here (q == e.0) refl is (freed q place es (IsDistinct-tail nat_eq e.0 (keys_of es) distinct) all.1)
    where
      here : (b : Bool) → (q == e.0) ≡ b → cond b (Some e.1) (lookup (nat_eq q) es) ≡ Some place
          → (lookup (nat_eq q) es ≡ Some place → IsFree place (remove_entry (nat_eq q) es))
          → IsFree place (cond b es (e ∷ remove_entry (nat_eq q) es))
      here true test found rest =
          let same : e.1 ≡ place = cc found in
          subst (λ (p : ℕ). IsFree p es) same (free_behind e es (IsDistinct-head nat_eq e.0 (keys_of es) distinct) all.0 all.1)
      here false test found rest = (apart, rest found)
        where
          apart : e.1 ≢ place
          apart same =
              let at = held_of placed q place es all.1 found in
              let one : q ≡ e.0 = sym at.1 ∙ ap (λ (n : ℕ). (get_or placed n nothing).page) (sym same) ∙ all.0.1 in
              absurd (cc (sym test ∙ ap (λ (n : ℕ). n == e.0) one ∙ itself e.0))

module _ (placed : List Placed) (left : List ℕ) (most : ℕ) where
  -- a page used anew keeps its place
  pub shared_promoted : (q : ℕ) (es : List (ℕ × ℕ)) → AreSharedOut placed left es most → AreSharedOut placed left (promoted (nat_eq q) es) most
  shared_promoted q es s = record {
    pages = held_promoted placed q es s.pages;
    free = all_then (λ p. IsFreePlace (length placed) es p) (λ p. IsFreePlace (length placed) (promoted (nat_eq q) es) p) left
        (λ p is. (is.0, moved p (lookup_entry (nat_eq q) es) refl is.1)) s.free;
    apart = s.apart;
    all = s.all ∙ ap (λ (n : ℕ). n + length left) (as_many (lookup_entry (nat_eq q) es) refl);
    few = s.few;
  }
    where
      moved : (p : ℕ) (o : Option (ℕ × ℕ)) → lookup_entry (nat_eq q) es ≡ o → IsFree p es → IsFree p (option_map_or (λ e. e ∷ remove_entry (nat_eq q) es) o es)
      moved p None is free = free
      moved p (Some e) is free = (λ same. place_taken q e.1 p es (entry_is q es e is).1 free (sym same), free_removed q p es free)

      as_many : (o : Option (ℕ × ℕ)) → lookup_entry (nat_eq q) es ≡ o → length es ≡ length (option_map_or (λ e. e ∷ remove_entry (nat_eq q) es) o es)
      as_many None is = refl
      as_many (Some e) is = length_taken q e.1 es (entry_is q es e is).1

  -- the place of a page that was taken out is left
  pub shared_removed : (q place : ℕ) (es : List (ℕ × ℕ)) → lookup (nat_eq q) es ≡ Some place
      → IsFree place (remove_entry (nat_eq q) es) → AreSharedOut placed left es most
      → AreSharedOut placed (left ++ place ∷ []) (remove_entry (nat_eq q) es) most
  shared_removed q place es is freed s = record {
    pages = held_removed placed q es s.pages;
    free = all_with (λ p. IsFreePlace (length placed) (remove_entry (nat_eq q) es) p) left place
        (all_then (λ p. IsFreePlace (length placed) es p) (λ p. IsFreePlace (length placed) (remove_entry (nat_eq q) es) p) left
        (λ p at. (at.0, free_removed q p es at.1)) s.free)
        ((held_of placed q place es s.pages is).0, freed);
    apart = apart_with left place s.apart
        (all_then (λ p. IsFreePlace (length placed) es p) (λ p. p ≢ place) left (λ p at. place_taken q place p es is at.1) s.free);
    all = let one = length_taken q place es is in let long = length-append left (place ∷ []) in omega (arith, one, long, s.all);
    few = s.few;
  }

  -- there is memory to note it
  pub left_fits : (q place : ℕ) (es : List (ℕ × ℕ)) → lookup (nat_eq q) es ≡ Some place → AreSharedOut placed left es most → length left < most
  left_fits q place es is s = let one = length_taken q place es is in omega (arith, one, s.all, s.few)

  -- another frame of the same page
  pub shared_with : (place : ℕ) (f : Frame) (es : List (ℕ × ℕ))
      → place < length placed → AreSharedOut placed left es most → AreSharedOut (with_frame placed place f) left es most
  shared_with place f es lt s =
      let long : length (with_frame placed place f) ≡ length placed =
      set_length placed placed place (record { page = (get_or placed place nothing).page; frame = f }) in
      record {
        pages = with_placed placed place f es lt s.pages;
        free = subst (λ (n : ℕ). AllByRecursion (λ p. IsFreePlace n es p) left) (sym long) s.free;
        apart = s.apart;
        all = long ∙ s.all;
        few = subst (λ (n : ℕ). n ≤ most) (sym long) s.few;
      }

  -- What is needed to take a place: those that were left are there, and there is memory for a new one.
  pub left_within : (es : List (ℕ × ℕ)) → AreSharedOut placed left es most → AllByRecursion (λ p. p < length placed) left
  left_within es s = all_then (λ p. IsFreePlace (length placed) es p) (λ p. p < length placed) left (λ p is. is.0) s.free

  pub new_fits : (room : ℕ) (es : List (ℕ × ℕ)) → length es < most → most ≤ room → AreSharedOut placed left es most → left ≡ [] → length placed < room
  new_fits room es some fits s none =
      let zero : length left ≡ 0 = ap (λ (l : List ℕ). length l) none in
      omega (arith, some, fits, s.all, zero)

-- A page came into a free place, which it has from then on.
pub record HasTaken (taken : Placed) (place : ℕ) (placed new : List Placed) (rest : List ℕ) (es : List (ℕ × ℕ)) (most : ℕ) : Type 0 where
  pub within : place < most
  pub free : IsFree place es
  pub frame : frame_at new place ≡ taken.frame
  pub others : framed new es ≡ framed placed es
  pub shared : AreSharedOut new rest ((taken.page, place) ∷ es) most

pub takes : (taken : Placed) (place : ℕ) (placed new : List Placed) (left rest : List ℕ) (es : List (ℕ × ℕ)) (most : ℕ)
    → length es < most → AreSharedOut placed left es most → TakesPlace taken place placed left new rest → HasTaken taken place placed new rest es most
takes taken place placed new left rest es most some s (inl was) =
    let was_free = subst (λ (l : List ℕ). AllByRecursion (λ p. IsFreePlace (length placed) es p) l) was.0 s.free in
    let parted = apart_front rest place (subst (λ (l : List ℕ). AreApart l) was.0 s.apart) in
    let at = all_back (λ p. IsFreePlace (length placed) es p) rest place was_free in
    let here : get_or (set placed place taken) place nothing ≡ taken = get_or-set_same placed place taken nothing at.0 in
    let long = set_length placed placed place taken in
    let size = ap (λ (l : List ℕ). length l) was.0 ∙ length-append rest (place ∷ []) in
    subst (λ (xs : List Placed). HasTaken taken place placed xs rest es most) (sym was.1) (record {
      within = omega (arith, at.0, s.few);
      free = at.1;
      frame = ap (λ (x : Placed). x.frame) here;
      others = free_framed placed place taken es at.1;
      shared = record {
        pages = ((subst (λ (n : ℕ). place < n) (sym long) at.0, ap (λ (x : Placed). x.page) here), free_placed placed place taken es at.1 s.pages);
        free = subst (λ (n : ℕ). AllByRecursion (λ p. IsFreePlace n ((taken.page, place) ∷ es) p) rest) (sym long)
            (still (length placed) rest parted.1 (all_front (λ p. IsFreePlace (length placed) es p) rest place was_free));
        apart = parted.0;
        all = omega (arith, long, size, s.all);
        few = subst (λ (n : ℕ). n ≤ most) (sym long) s.few;
      };
    })
  where
    still : (n : ℕ) (ps : List ℕ) → IsApart place ps → AllByRecursion (λ p. IsFreePlace n es p) ps
        → AllByRecursion (λ p. IsFreePlace n ((taken.page, place) ∷ es) p) ps
    still n [] apart all = tt
    still n (p ∷ ps) apart all = ((all.0.0, (λ same. apart.0 (sym same), all.0.1)), still n ps apart.1 all.1)
takes taken place placed new left rest es most some s (inr was) =
    let none : length left ≡ 0 = ap (λ (l : List ℕ). length l) was.0 in
    let back = got_back placed placed taken in
    let long = length-append placed (taken ∷ []) in
    let free = beyond (length placed) es refl s.pages in
    subst (λ (xs : List Placed). HasTaken taken place placed xs rest es most) (sym was.3)
    (subst (λ (l : List ℕ). HasTaken taken place placed (placed ++ taken ∷ []) l es most) (sym was.1)
    (subst (λ (p : ℕ). HasTaken taken p placed (placed ++ taken ∷ []) [] es most) (sym was.2) (record {
      within = omega (arith, some, none, s.all);
      free = free;
      frame = ap (λ (x : Placed). x.frame) back.1;
      others = more_framed placed taken es s.pages;
      shared = record {
        pages = ((back.0, ap (λ (x : Placed). x.page) back.1), more_placed placed taken es s.pages);
        free = tt;
        apart = tt;
        all = omega (arith, long, none, s.all);
        few = omega (arith, long, some, none, s.all);
      };
    })))
  where
    beyond : (n : ℕ) (fs : List (ℕ × ℕ)) → n ≡ length placed → ArePlaced placed fs → IsFree n fs
    beyond n [] is all = tt
    beyond n (f ∷ fs) is all = (λ same. let lt = all.0.0 in omega (arith, lt, same, is), beyond n fs is all.1)

-- The invariant of the frames, by the memory that there is for pages and for places that were left.
abbrev pub AreHeld : List Placed → List ℕ → (placed_room left_room : ℕ) → LruCache ℕ ℕ → Type 0
AreHeld placed left placed_room left_room order = AreSharedOut placed left order.entries order.cap × HasRoom order.cap placed_room left_room

-- After a page was used anew it holds,
pub kept_promoted : (placed : List Placed) (left : List ℕ) (placed_room left_room q : ℕ) (order new : LruCache ℕ ℕ)
    → new ≡ lru_cache (promoted (nat_eq q) order.entries) order.cap
    → AreHeld placed left placed_room left_room order → AreHeld placed left placed_room left_room new
kept_promoted placed left placed_room left_room q order new is s =
    subst (λ (x : LruCache ℕ ℕ). AreHeld placed left placed_room left_room x) (sym is) (shared_promoted placed left order.cap q order.entries s.0, s.1)

-- and after a page was taken out,
pub kept_removed : (placed : List Placed) (left more : List ℕ) (placed_room left_room q place : ℕ) (order new : LruCache ℕ ℕ)
    → new ≡ lru_cache (remove_entry (nat_eq q) order.entries) order.cap
    → more ≡ left ++ place ∷ [] → IsDistinct nat_eq (keys_of order.entries) → lookup (nat_eq q) order.entries ≡ Some place
    → AreHeld placed left placed_room left_room order → AreHeld placed more placed_room left_room new
kept_removed placed left more placed_room left_room q place order new is with_it distinct found s =
    subst (λ (x : LruCache ℕ ℕ). AreHeld placed more placed_room left_room x) (sym is) (
      subst (λ (l : List ℕ). AreSharedOut placed l (remove_entry (nat_eq q) order.entries) order.cap) (sym with_it)
          (shared_removed placed left order.cap q place order.entries found (freed placed q place order.entries distinct s.0.pages found) s.0),
      s.1,
    )

-- or was not there.
pub kept_absent : (placed : List Placed) (left : List ℕ) (placed_room left_room q : ℕ) (order new : LruCache ℕ ℕ)
    → new ≡ lru_cache (remove_entry (nat_eq q) order.entries) order.cap
    → (o : Option ℕ) → o ≡ lookup (nat_eq q) order.entries → ((place : ℕ) → o ≡ Some place → ⊥)
    → AreHeld placed left placed_room left_room order → AreHeld placed left placed_room left_room new
kept_absent placed left placed_room left_room q order new is (Some place) at not s = absurd (not place refl)
kept_absent placed left placed_room left_room q order new is None at not s =
    subst (λ (x : LruCache ℕ ℕ). AreHeld placed left placed_room left_room x)
    (sym (is ∙ ap (λ (es : List (ℕ × ℕ)). lru_cache es order.cap) (none_there q order.entries (sym at)).1)) s

-- A place that was taken may be given back: its page is in no list of pages yet.
module _ (taken : Placed) (place : ℕ) (placed new : List Placed) (rest : List ℕ) (es : List (ℕ × ℕ)) (most : ℕ) (took : HasTaken taken place placed new rest es most) where
  first_found : lookup (nat_eq taken.page) ((taken.page, place) ∷ es) ≡ Some place
  first_found = if_true (taken.page == taken.page) (Some place) (lookup (nat_eq taken.page) es) (itself taken.page)

  first_gone : remove_entry (nat_eq taken.page) ((taken.page, place) ∷ es) ≡ es
  first_gone = if_true (taken.page == taken.page) es ((taken.page, place) ∷ remove_entry (nat_eq taken.page) es) (itself taken.page)

  pub back_fits : length rest < most
  back_fits = left_fits new rest most taken.page place ((taken.page, place) ∷ es) first_found took.shared

  pub given_back : AreSharedOut new (rest ++ place ∷ []) es most
  given_back =
      subst (λ (fs : List (ℕ × ℕ)). AreSharedOut new (rest ++ place ∷ []) fs most) first_gone
      (shared_removed new rest most taken.page place ((taken.page, place) ∷ es) first_found
      (subst (λ (fs : List (ℕ × ℕ)). IsFree place fs) (sym first_gone) took.free) took.shared)
