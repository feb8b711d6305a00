use Rattle.std.proofs.Common.{◌≡◌, ◌∙◌, refl, rules, subst, sym, ap, arith}
use Rattle.hg_disk.specs.Calls.{CallsAtMost}
use Rattle.hg_store.proofs.Backing.{backs_of, images_stand}
use Rattle.hg_store.proofs.Freezing.{begun, calls_other, leaves_current, on_turn, stands_on, takes_turns, turn_undamaged}
use Rattle.hg_store.specs.declared.devices.Devices.{Devices}
use Rattle.hg_store.specs.Doing.{LeavesCurrent, other_since}
use Rattle.hg_store.specs.Images.{failures_of}
use Rattle.hg_store.specs.Shown.{Progress, ShownStore, other}
use Rattle.hg_store.specs.Store.{Backs, StandMeanwhile}
use Rattle.hg_store.proofs.store.Store.freeze.Goals as goal

pub returns-in-Ok-clause-done : goal.returns-in-Ok-clause-done
returns-in-Ok-clause-done g c =
    begun g.D.Disk c.args.self.now c.begin.new.self c.take_turns.new.self c.take_turns.result (search rules) c.in-Ok.ensures.last c.take_turns.ensures.answer c.take_turns.ensures.same

pub returns-in-Ok-clause-last : goal.returns-in-Ok-clause-last
returns-in-Ok-clause-last g c = on_turn g.D.Disk c.args.self.now c.begin.new.self c.take_turns.new.self c.take_turns.result c.in-Ok.ensures.last

pub returns-in-Ok-clause-undamaged : goal.returns-in-Ok-clause-undamaged
returns-in-Ok-clause-undamaged g c honest = turn_undamaged g.D.Disk c.args.self.now c.begin.new.self c.take_turns.new.self c.take_turns.result c.take_turns.ensures.answer

pub returns-in-Ok-clause-number : goal.returns-in-Ok-clause-number
returns-in-Ok-clause-number g c =
    let next = c.in-Ok.ensures.number in
    let same = c.take_turns.ensures.same.progress in
    on_turn g.D.Disk c.args.self.now c.begin.new.self c.take_turns.new.self c.take_turns.result (ap (λ (p : Progress). p.number) same ∙ next.0, ap (λ (p : Progress). p.next) same ∙ next.1)

pub returns-in-Ok-clause-frozen : goal.returns-in-Ok-clause-frozen
returns-in-Ok-clause-frozen g c = on_turn g.D.Disk c.args.self.now c.begin.new.self c.take_turns.new.self c.take_turns.result (c.take_turns.ensures.same.frozen ∙ c.in-Ok.ensures.frozen)

pub returns-in-Ok-clause-turned : goal.returns-in-Ok-clause-turned
returns-in-Ok-clause-turned g c =
    takes_turns g.D.Disk c.args.self.now c.begin.new.self c.take_turns.new.self c.begin.ensures.devices c.begin.ensures.turns c.take_turns.result c.take_turns.ensures.answer

pub returns-in-Ok-clause-current : goal.returns-in-Ok-clause-current
returns-in-Ok-clause-current g c = leaves_current g.D.Disk c.args.self.now c.begin.new.self c.take_turns.new.self c.begin.ensures.devices c.begin.ensures.turns c.take_turns.ensures.current

pub returns-in-Ok-clause-calls : goal.returns-in-Ok-clause-calls
returns-in-Ok-clause-calls g c = calls_other g.D.Disk c.args.self.now c.begin.new.self c.take_turns.new.self c.begin.ensures.devices c.begin.ensures.turns 5 c.take_turns.ensures.calls

pub returns-in-Ok-clause-counted : goal.returns-in-Ok-clause-counted
returns-in-Ok-clause-counted g c = c.take_turns.ensures.same.counted ∙ c.begin.ensures.counted

pub returns-in-Ok-clause-slots : goal.returns-in-Ok-clause-slots
returns-in-Ok-clause-slots g c = c.take_turns.ensures.same.slots ∙ ap (λ (d : Devices g.row.D.Denot). d.slots) c.begin.ensures.devices

pub returns-in-Ok-clause-roots : goal.returns-in-Ok-clause-roots
returns-in-Ok-clause-roots g c = record {
  root0 = c.take_turns.ensures.same.root0 ∙ ap (λ (d : Devices g.row.D.Denot). d.root0) c.begin.ensures.devices;
  root1 = c.take_turns.ensures.same.root1 ∙ ap (λ (d : Devices g.row.D.Denot). d.root1) c.begin.ensures.devices;
}

pub returns-in-Ok-clause-device : goal.returns-in-Ok-clause-device
returns-in-Ok-clause-device g c =
    let more = c.take_turns.ensures.device in
    let same = ap (λ (d : Devices g.row.D.Denot). failures_of g.D.Disk d) c.begin.ensures.devices in
    omega (arith, more, same)

pub returns-in-Ok-clause-live : goal.returns-in-Ok-clause-live
returns-in-Ok-clause-live g c honest = (search rules) ∙ c.begin.ensures.live honest

pub returns-in-Ok-clause-images : goal.returns-in-Ok-clause-images
returns-in-Ok-clause-images g c honest =
    stands_on g.D.Disk c.args.self.now c.begin.new.self c.take_turns.new.self c.begin.ensures.devices c.begin.ensures.turns (search rules) (c.begin.ensures.live honest) (search rules) (c.take_turns.ensures.images honest)

pub returns-in-Err-clause-current : goal.returns-in-Err-clause-current
returns-in-Err-clause-current g c = subst (λ (s : ShownStore g.row.D.Denot). LeavesCurrent c.args.self.now s) (sym c.in-Err.ensures.refused) refl

pub returns-in-Err-clause-calls : goal.returns-in-Err-clause-calls
returns-in-Err-clause-calls g c = subst (λ (s : ShownStore g.row.D.Denot). CallsAtMost g.D.Disk 5 (other c.args.self.now) (other_since c.args.self.now s)) (sym c.in-Err.ensures.refused) (omega arith)

pub returns-in-Err-clause-images : goal.returns-in-Err-clause-images
returns-in-Err-clause-images g c honest =
    let s = c.args.self.now in
    let k = c.self.invariant.stands honest in
    let backs : Backs g.D.Disk s = rw (← c.self.view_is) (backs_of g.D.Disk _ k.0 k.1) in
    subst (λ (t : ShownStore g.row.D.Denot). StandMeanwhile g.D.Disk s t s.in_doubt) (sym c.in-Err.ensures.refused) (images_stand g.D.Disk s s.in_doubt backs (λ was. was))
