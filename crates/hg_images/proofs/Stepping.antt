-- The basis of a store goes on by steps.
use Rattle.std.proofs.Common.{◌≡◌, ◌∙◌, inl, inr, ◌-◌, ◌≤◌, ℕ, true, List, ◌++◌, length, drop, Option, Some, refl, sym, ap, subst, append_assoc, arith}
use Rattle.std.proofs.lemmas.List.{drop-append-le}
use Rattle.hg_model.specs.declared.event.Named.{Named}
use Rattle.hg_model.specs.Contents.{Content}
use Rattle.hg_journals.specs.Journals.{HaveAllOrBehind, HaveAllOrNone, HaveJournals, behind}
use Rattle.hg_root.specs.Checkpoints.{Checkpoint}
use Rattle.hg_contents.specs.Choices.{Choice}
use Rattle.hg_contents.specs.Images.{content_of, start_of}
use Rattle.hg_images.specs.Images.{Gives, count_of}
use Rattle.hg_images.specs.Choices.{Basis, GivesDurable, HaveDurable, HaveEvents}
use Rattle.hg_images.specs.Steps.{CommitsStand, ContentsHaveABasis, IsAtRest, IsFront, OpeningsStand, RetirementsStand, TurnsStand, committed, resting, retired, retiring}
use Rattle.hg_images.proofs.Following.{counted, lead_on, same_from}
use Rattle.hg_images.proofs.GivingUp.{given_up}

-- ---- a store is made or recovered

pub rested : (choice : Choice) (base : ℕ) (events : List Named) (c : Content) → Gives choice.checkpoint base events c → GivesDurable (resting base events choice) c
rested choice base events c gives = record { now = gives; next = gives; order = omega arith; counted_now = gives.reaches; counted_next = gives.reaches }

pub bases : ContentsHaveABasis
bases image c has =
    let choice : Choice = record { checkpoint = has.checkpoint; former = has.stands.former } in
    record {
      basis = resting has.base has.events choice;
      rests = record { one_base = refl; one_choice = refl };
      gives = rested choice has.base has.events c has.gives;
      parts = record { journals = inl (inl has.journals); roots = inl has.stands.newest; slots = (has.stands.stand, has.stands.stand) };
    }

-- ---- a commit

-- at rest the journals have the durable events behind one base
all_durable : (basis : Basis) (one other : List ℕ) → IsAtRest basis → HaveDurable basis one other → HaveJournals basis.base basis.events one other
all_durable basis one other rest (inl all) = all
all_durable basis one other rest (inr behind_next) =
    let none : basis.next_base - basis.base ≡ 0 = omega (arith, rest.one_base) in
    subst (λ (n : ℕ). HaveJournals n basis.events one other) rest.one_base (subst (λ (n : ℕ). HaveJournals basis.next_base (drop n basis.events) one other) none behind_next)

all_or_none : (basis : Basis) (pending : List Named) (one other : List ℕ) → HaveAllOrNone basis.base basis.events pending one other → HaveEvents basis pending true one other
all_or_none basis pending one other (inl none) = inl (inl none)
all_or_none basis pending one other (inr all) = inr (refl, all)

in_doubt : (basis : Basis) (pending : List Named) (one other : List ℕ) → IsAtRest basis → HaveEvents basis pending true one other → HaveAllOrNone basis.base basis.events pending one other
in_doubt basis pending one other rest (inl none) = inl (all_durable basis one other rest none)
in_doubt basis pending one other rest (inr all) = inr all.1

since_then : (basis : Basis) (pending : List Named) (c : Content) → IsFront basis c → IsFront (committed basis pending) c
since_then basis pending c f = record {
  front = f.front;
  since = f.since ++ pending;
  split = sym (append_assoc f.front f.since pending) ∙ ap (λ (es : List Named). es ++ pending) f.split;
  gives = f.gives;
}

pub commits : CommitsStand
commits basis pending durable live rest gives leads = record {
  during = λ one other. (all_or_none basis pending one other, in_doubt basis pending one other rest);
  gives = record {
    now = lead_on (start_of basis.now.checkpoint) durable basis.base basis.events gives.now pending live leads;
    next = lead_on (start_of basis.next.checkpoint) durable basis.base basis.events gives.next pending live leads;
    order = gives.order;
    counted_now = gives.counted_now;
    counted_next = gives.counted_next;
  };
  rests = record { one_base = rest.one_base; one_choice = rest.one_choice };
  fronts = since_then basis pending;
}

pub turns : TurnsStand
turns basis one other rest = (λ same. inl same, all_durable basis one other rest)

-- ---- events are given up

module _ (basis : Basis) (base : ℕ) (after : basis.base ≤ base) (counts : base ≤ count_of basis.now.checkpoint) where
  all_or_behind : (one other : List ℕ) → HaveAllOrBehind (count_of basis.now.checkpoint) basis.base base basis.events one other → HaveDurable (retiring basis base) one other
  all_or_behind one other (inl all) = inl all
  all_or_behind one other (inr rest) = inr rest.1

  as_counted : (one other : List ℕ) → HaveDurable (retiring basis base) one other → HaveAllOrBehind (count_of basis.now.checkpoint) basis.base base basis.events one other
  as_counted one other (inl all) = inl all
  as_counted one other (inr rest) = inr (counts, rest)

  given : (checkpoint : Option Checkpoint) (events : List Named) (c : Content) → base ≤ count_of checkpoint → Gives checkpoint basis.base events c → Gives checkpoint base (behind basis.base base events) c
  given checkpoint events c enough gives = given_up (start_of checkpoint) c basis.base base events after enough gives

  front_left : (c : Content) → IsFront basis c → IsFront (retired basis base) c
  front_left c f =
      let within : base - basis.base ≤ length f.front = omega (arith, after, counts, f.gives.enough) in
      record {
        front = behind basis.base base f.front;
        since = f.since;
        split = sym (drop-append-le (base - basis.base) f.front f.since within) ∙ ap (λ (es : List Named). behind basis.base base es) f.split;
        gives = given basis.now.checkpoint f.front c counts f.gives;
      }

pub retirements : RetirementsStand
retirements basis base durable rest gives after counts =
    let next_counts : base ≤ count_of basis.next.checkpoint = subst (λ (x : Choice). base ≤ count_of x.checkpoint) (sym rest.one_choice) counts in
    record {
      during = λ one other. (all_or_behind basis base after counts one other, as_counted basis base after counts one other);
      gives_during = record { now = gives.now; next = gives.next; order = after; counted_now = counts; counted_next = next_counts };
      gives = record {
        now = given basis base after counts basis.now.checkpoint basis.events durable counts gives.now;
        next = given basis base after counts basis.next.checkpoint basis.events durable next_counts gives.next;
        order = omega arith;
        counted_now = counts;
        counted_next = next_counts;
      };
      rests = record { one_base = refl; one_choice = rest.one_choice };
      fronts = front_left basis base after counts;
    }

-- ---- a root is opened

module _ (basis : Basis) (next : Checkpoint) (durable : Content) (gives : GivesDurable basis durable) (f : IsFront basis (content_of next)) where
  next_gives : Gives (Some next) basis.base basis.events durable
  next_gives =
      let all = subst (λ (es : List Named). Gives basis.now.checkpoint basis.base es durable) (sym f.split) gives.now in
      subst (λ (es : List Named). Gives (Some next) basis.base es durable) f.split
      ((same_from (start_of basis.now.checkpoint) (content_of next) basis.base f.front f.gives f.since durable).0 all)

  next_counts : basis.base ≤ count_of (Some next)
  next_counts = omega (arith, counted (start_of basis.now.checkpoint) (content_of next) basis.base f.front f.gives)

pub openings : OpeningsStand
openings basis next choice durable rest gives front is =
    let has : Gives choice.checkpoint basis.base basis.events durable = subst (λ (x : Option Checkpoint). Gives x basis.base basis.events durable) (sym is) (next_gives basis next durable gives front) in
    let least : basis.base ≤ count_of choice.checkpoint = subst (λ (x : Option Checkpoint). basis.base ≤ count_of x) (sym is) (next_counts basis next durable gives front) in
    let counts : basis.next_base ≤ count_of choice.checkpoint = omega (arith, least, rest.one_base) in
    record {
      gives_during = record { now = gives.now; next = has; order = gives.order; counted_now = gives.counted_now; counted_next = counts };
      gives = record { now = has; next = has; order = gives.order; counted_now = counts; counted_next = counts };
      rests = record { one_base = rest.one_base; one_choice = refl };
    }
