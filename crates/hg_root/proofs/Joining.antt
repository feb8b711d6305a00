-- One image of each file makes an image of all.
use Rattle.std.proofs.Common.{inl, inr, ⊎_elim}
use Rattle.hg_disk.proofs.Moments.{may_leave}
use Rattle.hg_disk.specs.declared.disk.Disk as disk
use Rattle.hg_root.specs.Checkpoints.{HasSlotsOf, JointImages}

pub joined : {D E : Type 0} (g : disk.Ghosts D) (h : disk.Ghosts E) → JointImages g h
joined g h old new from to now next former before roots slots one other image may_one may_other may_slots =
    let has = may_leave h from to (λ bytes. HasSlotsOf now former bytes × HasSlotsOf next before bytes) image slots may_slots in
    ⊎_elim
    (λ is. inl (record { former = former; newest = is; stand = has.0 }))
    (λ is. inr (record { former = before; newest = is; stand = has.1 }))
    (roots.each one other may_one may_other)
