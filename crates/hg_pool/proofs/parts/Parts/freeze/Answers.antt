use Rattle.std.proofs.Common.{◌≡◌, ◌∙◌, ℕ, List, Bool, true, false, None, Ok, Err, is_some, length, if◌then◌else◌, refl, sym, ap, subst, arith}
use Rattle.hg_pages.specs.Tables.{slot_in}
use Rattle.hg_pool.specs.Calls.{AreLeft, NamesDirty}
use Rattle.hg_pool.specs.Kept.{IsWhole}
use Rattle.hg_pool.specs.Picking.{AreLeastFree, ArePicks}
use Rattle.hg_pool.specs.Shown.{ShownPool}
use Rattle.hg_cache.specs.declared.frame.Frame.{Frame}
use Rattle.hg_pool.specs.declared.parts.Parts.{Parts}
use Rattle.hg_pool.specs.Answers.{IsTaken}
use Rattle.hg_pool.specs.Sound.{shown_of}
use Rattle.hg_pool.proofs.Stepping.{sound_room}
use Rattle.hg_pool.proofs.parts.Parts.freeze.Goals as goal

-- the pages with a pick are those that were changed
picks_dirty : {D : Type 0} (p : ShownPool D) (frames : List (ℕ × Frame)) (pages picks : List (ℕ × ℕ)) → NamesDirty frames pages → ArePicks p pages picks → NamesDirty frames picks
picks_dirty p frames pages picks named h q = (λ is. (named q).0 (h.among q is), λ dirty. h.each q ((named q).1 dirty))

same_test : (a b : Bool) → (a ≡ true → b ≡ true) → (b ≡ true → a ≡ true) → a ≡ b
same_test true b f g = sym (f refl)
same_test false true f g = g refl
same_test false false f g = refl

-- without these pages a table is one without their picks
left_by_picks : {D : Type 0} (p : ShownPool D) (pages picks table left old new : List (ℕ × ℕ)) → ArePicks p pages picks → AreLeft pages table left → new ≡ left → old ≡ table → AreLeft picks old new
left_by_picks p pages picks table left old new h is new_is old_is q =
    let same = same_test (is_some (slot_in pages q)) (is_some (slot_in picks q)) (h.each q) (h.among q) in
    ap (λ (es : List (ℕ × ℕ)). slot_in es q) new_is
    ∙ (is q ∙ (ap (λ (b : Bool). if b then None else slot_in table q) same ∙ ap (λ (es : List (ℕ × ℕ)). if is_some (slot_in picks q) then None else slot_in es q) (sym old_is)))

-- an `Ok` is no error
no_error : {T E : Type 0} (x : T) (d : E) → Ok x ≡ Err d → ⊥
no_error x d e = cc

pub changed_pages-requires : goal.changed_pages-requires
changed_pages-requires g c = omega (arith, c.len-count.ensures.valid.1, c.requires.sound.most_frames)

pub returns-in_err-reserve-2-clause-sound : goal.returns-in_err-reserve-2-clause-sound
returns-in_err-reserve-2-clause-sound g c =
    let p = c.args.self.now in
    let e = c.reserve-2.ensures in
    sound_room p.root p.frozen p.live c.reserve-2.new.self p.waiting p.copies p.frames p.slots p.is_sealed c.requires.sound e.entries e.no_less.0 e.no_less.1

pub begin-requires-clause-sound : goal.begin-requires-clause-sound
begin-requires-clause-sound g c =
    let p = c.args.self.now in
    let e = c.reserve-2.ensures in
    sound_room p.root p.frozen p.live c.reserve-2.new.self p.waiting p.copies p.frames p.slots p.is_sealed c.requires.sound e.entries e.no_less.0 e.no_less.1

pub begin-requires-clause-free : goal.begin-requires-clause-free
begin-requires-clause-free g c q slot is =
    let p = c.args.self.now in
    let at = c.in_ok-waiting.ensures.picks.slots.free q slot is in
    (λ taken. at.0 (subst (λ (es : List (ℕ × ℕ)). IsTaken (record (shown_of p) { live = es }) slot) c.reserve-2.ensures.entries taken), at.1)

pub begin-requires-clause-few : goal.begin-requires-clause-few
begin-requires-clause-few g c =
    let picks = c.in_ok-waiting.ensures.picks.few in
    omega (arith, picks, c.in_ok-changed.ensures.few, c.len-count.ensures.valid.1)

pub begin-requires-clause-dirty : goal.begin-requires-clause-dirty
begin-requires-clause-dirty g c =
    let p = c.args.self.now in
    picks_dirty (shown_of p) p.frames.entries c.in_ok-changed.changed.entries c.in_ok-waiting.waiting.entries c.in_ok-changed.ensures.pages c.in_ok-waiting.ensures.picks

pub begin-requires-clause-left : goal.begin-requires-clause-left
begin-requires-clause-left g c =
    let p = c.args.self.now in
    left_by_picks (shown_of p) c.in_ok-changed.changed.entries c.in_ok-waiting.waiting.entries p.live.entries c.in_ok-frozen.frozen.entries _ _ c.in_ok-waiting.ensures.picks c.in_ok-frozen.ensures.looks
    c.reserve.ensures.entries c.reserve-2.ensures.entries

pub begin-requires-clause-slots : goal.begin-requires-clause-slots
begin-requires-clause-slots g c q slot is = omega (arith, c.slots-slots.ensures.below q slot is, c.slots-slots.ensures.value)

pub begin-requires-clause-frozen_room : goal.begin-requires-clause-frozen_room
begin-requires-clause-frozen_room g c =
    (omega (arith, c.in_ok-reserve.ensures.capacity, ap (λ (es : List (ℕ × ℕ)). length es) c.reserve.ensures.entries, c.len.ensures.value), omega (arith, c.slots-slots.ensures.value, c.in_ok-reserve.ensures.slots))

pub begin-requires-clause-live_room : goal.begin-requires-clause-live_room
begin-requires-clause-live_room g c =
    (omega (arith, c.in_ok-reserve-2.ensures.capacity, ap (λ (es : List (ℕ × ℕ)). length es) c.reserve-2.ensures.entries, c.len-2.ensures.value), omega (arith, c.slots-slots.ensures.value, c.in_ok-reserve-2.ensures.slots))

pub returns-clause-picked : goal.returns-clause-picked
returns-clause-picked g c =
    let same = ap (λ (x : Parts g.row.D.Denot). x.waiting.entries) c.begin.ensures.rest in
    subst (λ (es : List (ℕ × ℕ)). AreLeastFree (shown_of c.args.self.now) es) (sym same) c.in_ok-waiting.ensures.picks.slots

pub returns-clause-waiting : goal.returns-clause-waiting
returns-clause-waiting g c =
    let p = c.args.self.now in
    let same = ap (λ (x : Parts g.row.D.Denot). x.waiting.entries) c.begin.ensures.rest in
    subst (λ (es : List (ℕ × ℕ)). NamesDirty p.frames.entries es) (sym same)
    (picks_dirty (shown_of p) p.frames.entries c.in_ok-changed.changed.entries c.in_ok-waiting.waiting.entries c.in_ok-changed.ensures.pages c.in_ok-waiting.ensures.picks)

pub returns-clause-whole : goal.returns-clause-whole
returns-clause-whole g c whole =
    c.begin.ensures.whole (subst (λ (es : List (ℕ × ℕ)). IsWhole g.D.Disk (record (shown_of c.args.self.now) { live = es })) (sym c.reserve-2.ensures.entries) whole)

pub returns-clause-rest : goal.returns-clause-rest
returns-clause-rest g c =
    let b = c.begin.new.self in
    λ i. record (c.begin.ensures.rest i) { frozen = b.frozen; live = b.live; waiting = b.waiting; copies = b.copies; is_sealed = b.is_sealed; search_from = b.search_from }

pub returns-clause-reached : goal.returns-clause-reached
returns-clause-reached g c slot below =
    let start : c.begin.new.self.search_from ≡ 0 = ap (λ (x : Parts g.row.D.Denot). x.search_from) c.begin.ensures.rest in
    absurd (omega (arith, start, below))

pub returns-clause-full : goal.returns-clause-full
returns-clause-full g c full = absurd (no_error _ _ full)
