use Rattle.std.proofs.Common.{◌≡◌, ℕ, true, false, cond, sym, ap, ◌∙◌, subst, arith, List, length}
use Rattle.std.specs.List.{insert}
use Rattle.hg_model.specs.declared.held.HeldLock.{HeldLock}
use Rattle.hg_model.specs.Locks.{with_hold, has_lock, counted, IsByRisingLock}
use Rattle.hg_model.proofs.Rising.{place, place_among, inserted, rising_with}
use Rattle.hg_model.proofs.Counting.{counted_few, read_with, writing_with}
use Rattle.hg_model.proofs.held.HeldLocks.add.Goals as goal

put_in : (held : HeldLock) (view old given new : List HeldLock) (at : ℕ) → old ≡ view → has_lock view held.lock ≡ false → given ≡ old → at ≡ place held.lock given → new ≡ insert old at held → new ≡ with_hold held old
put_in held view old given new at seen absent same is made =
    made ∙ ap (λ n. insert old n held) (is ∙ ap (place held.lock) same) ∙ inserted held old (ap (λ hs. has_lock hs held.lock) seen ∙ absent)

put_any : (held : HeldLock) (view old given new : List HeldLock) (any more : List ℕ) (at : ℕ) → old ≡ view → has_lock view held.lock ≡ false → given ≡ old → at ≡ place held.lock given → new ≡ with_hold held old
    → any ≡ counted false old → more ≡ insert any at held.lock → more ≡ counted false new
put_any held view old given new any more at seen absent same is made were put =
    put ∙ ap (λ ns. insert ns at held.lock) were ∙ ap (λ n. insert (counted false old) n held.lock) (is ∙ ap (place held.lock) same)
    ∙ read_with held old (ap (λ hs. has_lock hs held.lock) seen ∙ absent) ∙ ap (counted false) (sym made)

put_writing : (held : HeldLock) (view old new : List HeldLock) (writing more : List ℕ) → old ≡ view → has_lock view held.lock ≡ false → IsByRisingLock old → new ≡ with_hold held old
    → writing ≡ counted true old → more ≡ cond held.write (insert writing (place_among held.lock writing) held.lock) writing → more ≡ counted true new
put_writing held view old new writing more seen absent rising made were put =
    put ∙ ap (λ ns. cond held.write (insert ns (place_among held.lock ns) held.lock) ns) were
    ∙ writing_with held old rising (ap (λ hs. has_lock hs held.lock) seen ∙ absent) ∙ ap (counted true) (sym made)

pub count_writer-requires : goal.count_writer-requires
count_writer-requires c =
    let few = counted_few c.self.inside.holds.items in
    let is = ap length c.self.invariant.1 in
    let view = ap length c.self.view_is in
    let room = c.requires.room in
    omega arith

pub invariant_of-self : goal.invariant_of-self
invariant_of-self c =
    let new = put_in c.args.held _ _ _ _ _ c.self.view_is c.requires.absent c.as_slice.ensures.value c.place_of-place.ensures.place c.put_at.ensures.items in (
      put_any c.args.held _ _ _ _ _ _ _ c.self.view_is c.requires.absent c.as_slice.ensures.value c.place_of-place.ensures.place new c.self.invariant.0 c.put_at-2.ensures.items,
      put_writing c.args.held _ _ _ _ _ c.self.view_is c.requires.absent c.self.invariant.2 new c.self.invariant.1 c.count_writer.ensures,
      subst IsByRisingLock (sym new) (rising_with c.args.held c.self.inside.holds.items c.self.invariant.2),
      let room = c.requires.room in let view = ap length c.self.view_is in let more = c.put_at.ensures.len in omega arith,
    )

pub returns : goal.returns
returns c =
    put_in c.args.held _ _ _ _ _ c.self.view_is c.requires.absent c.as_slice.ensures.value c.place_of-place.ensures.place c.put_at.ensures.items
    ∙ ap (with_hold c.args.held) c.self.view_is
