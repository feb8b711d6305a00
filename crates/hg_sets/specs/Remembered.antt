-- What a remembered answer says of the sets.
use Rattle.std.specs.Prelude.{◌≡◌, ℕ, ◌<◌, ◌≤◌, List, length, take, All, Option, IfSome}
use Rattle.hg_model.specs.Sets.{common, with_member}
use Rattle.hg_sets.specs.Interning.{set_at, StandsAt}
use Rattle.hg_sets.specs.declared.memo.KnownJoin.{KnownJoin}
use Rattle.hg_sets.specs.declared.memo.KnownMeet.{KnownMeet}
use Rattle.hg_sets.specs.declared.memo.TheConstants.{JOINS, MEETS, LONGEST}

-- the list that was met
abbrev pub others_of : KnownMeet → List ℕ
others_of known = take known.count known.others

-- a remembered join is of a set that is there, and its answer is the set with the member
pub record IsTrueJoin (sets : List (List ℕ)) (known : KnownJoin) : Type 0 where
  pub below : known.set < length sets
  pub answer : StandsAt sets (with_member (set_at sets known.set) known.member) known.answer

-- a remembered meet is of a set that is there, and its answer is the intersection of the two
pub record IsTrueMeet (sets : List (List ℕ)) (known : KnownMeet) : Type 0 where
  pub short : known.count ≤ LONGEST
  pub below : known.set < length sets
  pub answer : StandsAt sets (common (set_at sets known.set) (others_of known)) known.answer

-- each join that is remembered is true
pub record AreTrueJoins (sets : List (List ℕ)) (joins : List (Option KnownJoin)) : Type 0 where
  pub places : length joins ≡ JOINS
  pub each : All (λ known. IfSome known (IsTrueJoin sets)) joins

-- each meet that is remembered is true
pub record AreTrueMeets (sets : List (List ℕ)) (meets : List (Option KnownMeet)) : Type 0 where
  pub places : length meets ≡ MEETS
  pub each : All (λ known. IfSome known (IsTrueMeet sets)) meets
