use Rattle.std.proofs.Common.{◌≡◌, ◌∙◌, ◌<◌, ℕ, List, Some, ap, cond, nat_eq, refl, subst, sym}
use Rattle.hg_graph.specs.declared.pending.Pending.{Pending}
use Rattle.hg_graph.specs.Filed.{kept_entries}
use Rattle.hg_graph.specs.Pending.{kept_of}
use Rattle.hg_graph.proofs.Filing.{always_err, filed_more, filed_still, kept_more, kept_still, others_keep, stay_keep}
use Rattle.hg_graph.proofs.pending.PendingTable.add.Goals as goal

pub invariant_of-self : goal.invariant_of-self
invariant_of-self c =
    filed_still c.self.inside.places.entries c.make_room.new.self.entries c.self.inside.slots.items c.self.inside.slots.items c.make_room.ensures.same (λ k i is. ((c.self.invariant k i is).0, refl)) c.self.invariant

pub returns-in_err-make_room-clause-err : goal.returns-in_err-make_room-clause-err
returns-in_err-make_room-clause-err c = let same : (k : ℕ) → kept_of (kept_entries c.make_room.new.self.entries c.self.inside.slots.items) k ≡ kept_of c.args.self.now k = λ k. kept_still c.self.inside.places.entries c.make_room.new.self.entries c.self.inside.slots.items c.self.inside.slots.items c.make_room.ensures.same (λ j i is. ((c.self.invariant j i is).0, refl)) k
    ∙ ap (λ (entries : List (ℕ × Pending)). kept_of entries k) c.self.view_is in always_err _ same

pub make_place-requires : goal.make_place-requires
make_place-requires c =
    filed_still c.self.inside.places.entries c.make_room.new.self.entries c.self.inside.slots.items c.self.inside.slots.items c.make_room.ensures.same (λ k i is. ((c.self.invariant k i is).0, refl)) c.self.invariant

pub invariant_of-self-in_err-place : goal.invariant_of-self-in_err-place
invariant_of-self-in_err-place c =
    filed_still c.self.inside.places.entries c.make_room.new.self.entries c.self.inside.slots.items c.make_place.new.slots.items c.make_room.ensures.same
    (stay_keep c.self.inside.places.entries c.self.inside.slots.items c.make_place.new.slots.items c.self.invariant c.make_place.ensures.same) c.self.invariant

pub returns-in_err-place-clause-err : goal.returns-in_err-place-clause-err
returns-in_err-place-clause-err c = let same : (k : ℕ) → kept_of (kept_entries c.make_room.new.self.entries c.make_place.new.slots.items) k ≡ kept_of c.args.self.now k = λ k. kept_still c.self.inside.places.entries c.make_room.new.self.entries c.self.inside.slots.items c.make_place.new.slots.items c.make_room.ensures.same
    (stay_keep c.self.inside.places.entries c.self.inside.slots.items c.make_place.new.slots.items c.self.invariant c.make_place.ensures.same) k
    ∙ ap (λ (entries : List (ℕ × Pending)). kept_of entries k) c.self.view_is in always_err _ same

pub invariant_of-self-in_err-self-inside : goal.invariant_of-self-in_err-self-inside
invariant_of-self-in_err-self-inside c =
    filed_still c.self.inside.places.entries c.make_room.new.self.entries c.self.inside.slots.items c.fill.new.slots.items c.make_room.ensures.same
    (others_keep c.self.inside.places.entries c.self.inside.slots.items c.make_place.new.slots.items c.fill.new.slots.items c.in_ok-place.place (λ k is. c.in_ok-place.ensures.place.1 k (c.make_room.ensures.same k ∙ is))
    (stay_keep c.self.inside.places.entries c.self.inside.slots.items c.make_place.new.slots.items c.self.invariant c.make_place.ensures.same) c.fill.ensures.others) c.self.invariant

pub returns-in_err-self-inside-clause-err : goal.returns-in_err-self-inside-clause-err
returns-in_err-self-inside-clause-err c = let same : (k : ℕ) → kept_of (kept_entries c.make_room.new.self.entries c.fill.new.slots.items) k ≡ kept_of c.args.self.now k = λ k. kept_still c.self.inside.places.entries c.make_room.new.self.entries c.self.inside.slots.items c.fill.new.slots.items c.make_room.ensures.same
    (others_keep c.self.inside.places.entries c.self.inside.slots.items c.make_place.new.slots.items c.fill.new.slots.items c.in_ok-place.place (λ j is. c.in_ok-place.ensures.place.1 j (c.make_room.ensures.same j ∙ is))
    (stay_keep c.self.inside.places.entries c.self.inside.slots.items c.make_place.new.slots.items c.self.invariant c.make_place.ensures.same) c.fill.ensures.others) k
    ∙ ap (λ (entries : List (ℕ × Pending)). kept_of entries k) c.self.view_is in always_err _ same

pub invariant_of-self-2 : goal.invariant_of-self-2
invariant_of-self-2 c =
    filed_more c.self.inside.places.entries c.set.new.self.entries c.self.inside.slots.items c.fill.new.slots.items c.args.message c.in_ok-place.place (record { segment = c.args.segment; clock = c.args.clock.now })
    (others_keep c.self.inside.places.entries c.self.inside.slots.items c.make_place.new.slots.items c.fill.new.slots.items c.in_ok-place.place (λ k is. c.in_ok-place.ensures.place.1 k (c.make_room.ensures.same k ∙ is))
    (stay_keep c.self.inside.places.entries c.self.inside.slots.items c.make_place.new.slots.items c.self.invariant c.make_place.ensures.same) c.fill.ensures.others)
    c.in_ok-self-inside.ensures.filled
    (λ j. c.set.ensures j ∙ ap (cond (nat_eq c.args.message j) (Some c.in_ok-place.place)) (c.make_room.ensures.same j))
    (subst (λ n. c.in_ok-place.place < n) (sym c.fill.ensures.others.0) c.in_ok-place.ensures.place.0) c.self.invariant

pub returns-clause-kept : goal.returns-clause-kept
returns-clause-kept c j =
    kept_more c.self.inside.places.entries c.set.new.self.entries c.self.inside.slots.items c.fill.new.slots.items c.args.message c.in_ok-place.place (record { segment = c.args.segment; clock = c.args.clock.now })
    (others_keep c.self.inside.places.entries c.self.inside.slots.items c.make_place.new.slots.items c.fill.new.slots.items c.in_ok-place.place (λ k is. c.in_ok-place.ensures.place.1 k (c.make_room.ensures.same k ∙ is))
    (stay_keep c.self.inside.places.entries c.self.inside.slots.items c.make_place.new.slots.items c.self.invariant c.make_place.ensures.same) c.fill.ensures.others)
    c.in_ok-self-inside.ensures.filled
    (λ i. c.set.ensures i ∙ ap (cond (nat_eq c.args.message i) (Some c.in_ok-place.place)) (c.make_room.ensures.same i)) j
    ∙ ap (λ (entries : List (ℕ × Pending)). cond (nat_eq c.args.message j) (Some (record { segment = c.args.segment; clock = c.args.clock.now })) (kept_of entries j)) c.self.view_is
