-- Memory that was taken for sets, and what of it is left.
use Rattle.std.proofs.Common.{◌≡◌, ℕ, ◌+◌, ◌<◌, ◌≤◌, List, [], ◌∷◌, length, take, drop, get_or, All, vec_capacity, sym}
use Rattle.std.proofs.Common.{ap, ◌∙◌, subst, arith, length-drop}
use Rattle.std.proofs.lemmas.List.{drop_more}
use Rattle.std.proofs.lemmas.List.Elements.{All-cons, All-drop, All-head, All-more, All-nil, All-tail, All-weaker}
use Rattle.std.proofs.lemmas.List.Sums.{sum_by-cons, sum_by_more, sum_by-take-drop}
use Rattle.hg_sets.specs.declared.interner.Interner.{Interner}
use Rattle.hg_sets.specs.declared.reserving.Room.{Room}
use Rattle.hg_sets.specs.Soundness.{HasRoom, HasRoomFor, IsRoomFor, LeavesRoom, members_in}

-- so many members at most, and fewer members
abbrev pub AtMost : ℕ → List ℕ → Type 0
AtMost most set = length set ≤ most

abbrev pub Below : ℕ → List ℕ → Type 0
Below bound set = length set < bound

-- one set more is counted
module _ (sets : List (List ℕ)) (i : ℕ) (x : List ℕ) (lt : i < length sets) (at : x ≡ get_or sets i x) where
  pub members_more : members_in (take (i + 1) sets) ≡ members_in (take i sets) + length x
  members_more = sum_by_more length sets i x lt ∙ ap (λ y. members_in (take i sets) + length y) (sym at)

  pub longest_more : (old new : ℕ) → All (AtMost old) (take i sets) → old ≤ new → length x ≤ new → All (AtMost new) (take (i + 1) sets)
  longest_more old new before grown fits =
      let earlier = All-weaker (AtMost old) (AtMost new) (λ set h. omega (arith, h, grown)) (take i sets) before in
      All-more (AtMost new) sets i x lt earlier (subst (AtMost new) at fits)

  -- the set at a place is the first of those that are left
  pub room_at : (t : Interner) → HasRoomFor (drop i sets) t → HasRoomFor (x ∷ drop (i + 1) sets) t
  room_at t h = subst (λ left. HasRoomFor left t) (drop_more sets i x lt ∙ ap (λ y. y ∷ drop (i + 1) sets) (sym at)) h

pub room_for_first : (x : List ℕ) (left : List (List ℕ)) (t : Interner) → HasRoomFor (x ∷ left) t → HasRoomFor (x ∷ []) t
room_for_first x left t h =
    let Fits = Below (vec_capacity t.scratch) in
    record {
      count = omega (arith, h.count);
      members = omega (arith, h.members, sum_by-cons length x left, sum_by-cons length x []);
      longest = All-cons Fits x [] (All-head Fits x left h.longest) (All-nil Fits);
    }

-- a set that was added takes its own room alone
pub room_left : (x : List ℕ) (old new : Interner) → old.lists.spare_lists ≤ new.lists.spare_lists + 1
    → old.lists.spare_elements ≤ new.lists.spare_elements + length x → vec_capacity old.scratch ≡ vec_capacity new.scratch → LeavesRoom x old new
room_left x old new lists elements scratch = λ left h. record {
  count = omega (arith, h.count, lists);
  members = omega (arith, h.members, elements, sum_by-cons length x left);
  longest = subst (λ n. All (Below n) left) scratch (All-tail (Below (vec_capacity old.scratch)) x left h.longest);
}

-- what was taken for all sets is enough for those behind the first
pub room_behind_first : (sets : List (List ℕ)) (room : Room) (t : Interner) → IsRoomFor sets room → HasRoom room t
    → length t.lists.all ≡ 1 → 0 < length sets → HasRoomFor (drop 1 sets) t
room_behind_first sets room t needs has one some =
    let Fits = Below (vec_capacity t.scratch) in
    record {
      count = omega (arith, needs.count, has.count, length-drop 1 sets);
      members = omega (arith, needs.members, has.members, sum_by-take-drop length sets 1);
      longest = All-drop Fits 1 sets (All-weaker (AtMost room.longest) Fits (λ set h. omega (arith, h, has.longest)) sets needs.longest);
    }
