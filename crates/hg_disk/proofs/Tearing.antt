-- An image of a disk, call by call.
use Rattle.std.proofs.Common.{◌≡◌, ℕ, Result, Ok, Err, OnOk, List, [], ◌∷◌, length, sym, subst}
use Rattle.hg_disk.specs.Blots.{blotted, blotted_within, limit_of}
use Rattle.hg_disk.specs.Event.{Event, event}
use Rattle.hg_disk.specs.History.{replay}
use Rattle.hg_disk.specs.Kept.{has_contents}
use Rattle.hg_disk.specs.Tear.{IsTorn, IsFilled, left_of}
use Rattle.hg_disk.specs.declared.call.Call.TheVariants.{Write}
use Rattle.hg_disk.specs.declared.call.Answer.TheVariants.{Done, Failed}
use Rattle.hg_disk.specs.declared.tear.Tear.{Tear}
use Rattle.hg_disk.specs.declared.tear.Tear.TheVariants.{Fill}
use Rattle.hg_disk.proofs.Filling.{filled_write, filled_failed_write}

pub filled_by_write : (b : ℕ) (start : List ℕ) (earlier : List Event) (at len : ℕ) (bytes old new : List ℕ) → new ≡ blotted old at (length bytes) b
    → IsFilled b (replay start earlier) old → IsFilled b (replay start (event (Write at len) Done bytes ∷ earlier)) new
filled_by_write b start earlier at len bytes old new is was =
    subst (IsFilled b (replay start (event (Write at len) Done bytes ∷ earlier))) (sym is) (filled_write b (replay start earlier) old at bytes (has_contents start earlier) was)

-- the same under the answer of the call, of a tear that is known to fill
pub fills_by_write : {T E : Type 0} (result : Result T E) (tear : Tear) (b left at : ℕ) (bytes old new : List ℕ) → tear ≡ Fill b → OnOk result (new ≡ blotted old at (length bytes) b)
    → OnOk result ((start : List ℕ) (earlier : List Event) (len : ℕ) → left ≡ left_of (limit_of tear) earlier → IsTorn tear start earlier old → IsTorn tear start (event (Write at len) Done bytes ∷ earlier) new)
fills_by_write (Err error) tear b left at bytes old new is written = tt
fills_by_write (Ok value) tear b left at bytes old new is written =
    λ start earlier len _ was.
    subst (λ (t : Tear). IsTorn t start (event (Write at len) Done bytes ∷ earlier) new) (sym is)
    (filled_by_write b start earlier at len bytes old new written (subst (λ (t : Tear). IsTorn t start earlier old) is was))

pub fills_by_failed_write : (tear : Tear) (b at len : ℕ) (old new : List ℕ) → tear ≡ Fill b → new ≡ blotted_within old at len b
    → (start : List ℕ) (earlier : List Event) → IsTorn tear start earlier old → IsTorn tear start (event (Write at len) Failed [] ∷ earlier) new
fills_by_failed_write tear b at len old new is written start earlier was =
    let failed = replay start (event (Write at len) Failed [] ∷ earlier) in
    subst (λ (t : Tear). IsTorn t start (event (Write at len) Failed [] ∷ earlier) new) (sym is)
    (subst (IsFilled b failed) (sym written) (filled_failed_write b (replay start earlier) old at len (subst (λ (t : Tear). IsTorn t start earlier old) is was)))
