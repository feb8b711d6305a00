use Rattle.std.proofs.Common.{◌≡◌, ℕ, ◌+◌, ◌≤◌, ◌^◌, false, [], length, refl, sym, ap, ◌∙◌, arith, length-set}
use Rattle.std.proofs.lemmas.Bool.{leb-false, ltb-false}
use Rattle.hg_model.specs.declared.event.Event.{Event}
use Rattle.hg_model.specs.declared.event.Event.TheVariants.{Fork, Join, Lock, RdLock, Unlock, Read, Write, Alloc, Free, Send, Recv}
use Rattle.hg_model.specs.Parts.{Parts}
use Rattle.hg_model.specs.Segments.{opened}
use Rattle.hg_model.specs.Verdicts.{standing, full_segments}
use Rattle.hg_model.proofs.Accepted.{no_cause}
use Rattle.hg_rules.proofs.state.TraceState.follow.Goals as goal

opened_fits : (segments : ℕ) (e : Event) → full_segments segments e ≡ false → segments ≤ 1048576 → segments + length (opened [] e) ≤ 1048576
opened_fits segments (Fork p c) h lt = omega (arith, ltb-false 1048576 (segments + 2) h)
opened_fits segments (Join p c) h lt = omega (arith, ltb-false 1048576 (segments + 1) h)
opened_fits segments (Lock t l) h lt = omega arith
opened_fits segments (RdLock t l) h lt = omega arith
opened_fits segments (Unlock t l) h lt = omega arith
opened_fits segments (Read a) h lt = omega arith
opened_fits segments (Write a) h lt = omega arith
opened_fits segments (Alloc b) h lt = omega arith
opened_fits segments (Free b) h lt = omega arith
opened_fits segments (Send t k) h lt = omega (arith, ltb-false 1048576 (segments + 1) h)
opened_fits segments (Recv t k) h lt = omega (arith, ltb-false 1048576 (segments + 1) h)

pub overflow_add-self : goal.overflow_add-self
overflow_add-self c =
    let few = leb-false (2 ^ 58) c.args.self.now.events (no_cause (standing c.args.self.now) c.args.named.now c.requires.accepted).1.1.1.1.1.1.1.1.1.1.1.1.1.1.1.1.0 in
    omega (arith, few, ap (λ (p : Parts). p.events) c.self.view_is)

pub overflow_add-self-2 : goal.overflow_add-self-2
overflow_add-self-2 c =
    let none = (no_cause (standing c.args.self.now) c.args.named.now c.requires.accepted).1.1.1.1.1.1.1.1.1.1.1.1.1.1.1.0 in
    let le = opened_fits c.self.inside.segments c.args.named.now.event (ap (λ (p : Parts). full_segments p.segments c.args.named.now.event) c.self.view_is ∙ none) c.self.invariant.1 in
    omega (arith, c.opened_by.ensures [])

pub follow-requires : goal.follow-requires
follow-requires c = (standing c.args.self.now, c.args.named.now, ap (λ (p : Parts). p.threads) (sym c.self.view_is), refl, c.requires.accepted)

pub invariant_of-self : goal.invariant_of-self
invariant_of-self c =
    let none = (no_cause (standing c.args.self.now) c.args.named.now c.requires.accepted).1.1.1.1.1.1.1.1.1.1.1.1.1.1.1.0 in
    let le = opened_fits c.self.inside.segments c.args.named.now.event (ap (λ (p : Parts). full_segments p.segments c.args.named.now.event) c.self.view_is ∙ none) c.self.invariant.1 in
    (length-set c.self.inside.last.items c.from.result c.args.named.now.number ∙ c.self.invariant.0, omega (arith, c.opened_by.ensures []))
