use Rattle.std.proofs.Common.{◌≡◌, ◌-◌, ◌∷◌, [], ◌++◌, ◌∙◌, ap, arith, drop, length, refl, take, List, ℕ}
use Rattle.hg_disk.specs.State.{IsImage, after_write, settled}
use Rattle.hg_disk.proofs.Moments.{joined, weaker}
use Rattle.hg_gate.specs.Batches.{IsSpareOrHas, base_front, closed_gate, open_gate}
use Rattle.hg_gate.proofs.Appending.{settled_log}
use Rattle.hg_gate.proofs.Basing.{empty_log, new_image, opened, spare_as, spare_or_new, start}
use Rattle.hg_gate.proofs.log.Log.open.Goals as goal

pub returns-in_err-put_behind-clause-any_moment : goal.returns-in_err-put_behind-clause-any_moment
returns-in_err-put_behind-clause-any_moment g c h =
    let spare = h.reads.closed in
    let was = spare_as g.D.Disk c.args.self.now h in
    let old = c.args.self.now.disk in
    let mid = c.put_behind.new.disk in
    let shut = spare_or_new g.D.Disk c.args.base old mid (c.put_behind.ensures.any_moment spare.gate spare.rest was spare.closed) in
    shut

pub returns-in_err-write_through-clause-any_moment : goal.returns-in_err-write_through-clause-any_moment
returns-in_err-write_through-clause-any_moment g c h =
    let spare = h.reads.closed in
    let was = spare_as g.D.Disk c.args.self.now h in
    let old = c.args.self.now.disk in
    let mid = c.put_behind.new.disk in
    let shut = spare_or_new g.D.Disk c.args.base old mid (c.put_behind.ensures.any_moment spare.gate spare.rest was spare.closed) in
    let stands : g.D.Disk.state mid ≡ settled (spare.gate ∷ start c.args.base) =
    c.in_ok-put_behind.ensures.written spare.gate spare.rest was ∙ ap (λ (l : List ℕ). settled (spare.gate ∷ take (length l - 1) (drop 1 l))) (c.deref.ensures.value ∙ c.fill_front.ensures.items) in
    joined g.D.Disk old mid c.write_through.new.disk (IsSpareOrHas c.args.base []) shut
    (weaker g.D.Disk mid c.write_through.new.disk (IsImage (after_write 0 (open_gate ∷ []) (g.D.Disk.state mid))) (IsSpareOrHas c.args.base []) c.write_through.ensures.any_moment (λ image is.
    new_image c.args.base spare.gate (g.D.Disk.state mid) image stands is))

pub returns-clause-any_moment : goal.returns-clause-any_moment
returns-clause-any_moment g c h =
    let spare = h.reads.closed in
    let was = spare_as g.D.Disk c.args.self.now h in
    let old = c.args.self.now.disk in
    let mid = c.put_behind.new.disk in
    let shut = spare_or_new g.D.Disk c.args.base old mid (c.put_behind.ensures.any_moment spare.gate spare.rest was spare.closed) in
    let stands : g.D.Disk.state mid ≡ settled (spare.gate ∷ start c.args.base) =
    c.in_ok-put_behind.ensures.written spare.gate spare.rest was ∙ ap (λ (l : List ℕ). settled (spare.gate ∷ take (length l - 1) (drop 1 l))) (c.deref.ensures.value ∙ c.fill_front.ensures.items) in
    joined g.D.Disk old mid c.write_through.new.disk (IsSpareOrHas c.args.base []) shut
    (weaker g.D.Disk mid c.write_through.new.disk (IsImage (after_write 0 (open_gate ∷ []) (g.D.Disk.state mid))) (IsSpareOrHas c.args.base []) c.write_through.ensures.any_moment (λ image is.
    new_image c.args.base spare.gate (g.D.Disk.state mid) image stands is))

pub returns-clause-opened : goal.returns-clause-opened
returns-clause-opened g c h =
    let spare = h.reads.closed in
    let was = spare_as g.D.Disk c.args.self.now h in
    let old = c.args.self.now.disk in
    let mid = c.put_behind.new.disk in
    let stands : g.D.Disk.state mid ≡ settled (spare.gate ∷ start c.args.base) =
    c.in_ok-put_behind.ensures.written spare.gate spare.rest was ∙ ap (λ (l : List ℕ). settled (spare.gate ∷ take (length l - 1) (drop 1 l))) (c.deref.ensures.value ∙ c.fill_front.ensures.items) in
    let new = opened c.args.base spare.gate (g.D.Disk.state mid) (g.D.Disk.state c.write_through.new.disk) stands c.in_ok-write_through.ensures.durable in
    (empty_log g.D.Disk c.args.base _ refl refl refl new, new)

pub returns-clause-durable : goal.returns-clause-durable
returns-clause-durable g c h =
    let spare = h.reads.closed in
    let was = spare_as g.D.Disk c.args.self.now h in
    let old = c.args.self.now.disk in
    let mid = c.put_behind.new.disk in
    let stands : g.D.Disk.state mid ≡ settled (spare.gate ∷ start c.args.base) =
    c.in_ok-put_behind.ensures.written spare.gate spare.rest was ∙ ap (λ (l : List ℕ). settled (spare.gate ∷ take (length l - 1) (drop 1 l))) (c.deref.ensures.value ∙ c.fill_front.ensures.items) in
    let new = opened c.args.base spare.gate (g.D.Disk.state mid) (g.D.Disk.state c.write_through.new.disk) stands c.in_ok-write_through.ensures.durable in
    λ image is.
    settled_log (base_front c.args.base) (g.D.Disk.state c.write_through.new.disk) [] image (base_front c.args.base ++ closed_gate ∷ []) new
    (record { gate = closed_gate; rest = []; spelling = refl; closed = omega arith; each = tt }) is
