-- The two steps of an append.
use Rattle.std.proofs.Common.{◌≡◌, ◌+◌, ℕ, List, [], ◌∷◌, ◌++◌, length, drop, refl, sym, ◌∙◌, ap, subst, arith}
use Rattle.hg_disk.specs.declared.disk.Disk as disk
use Rattle.hg_disk.specs.State.{DiskState, IsImage, settled, overwritten, after_write}
use Rattle.hg_disk.specs.Moments.{Leaves, LeavesOnly}
use Rattle.hg_disk.proofs.Moments.{weaker}
use Rattle.hg_gate.specs.Batches.{open_gate, closed_gate, IsBody, IsLog, spelled, IsBeforeOrAfter}
use Rattle.hg_gate.specs.declared.log.Log.{Log}
use Rattle.hg_gate.specs.Log.{Has}
use Rattle.hg_gate.proofs.Crash.{frame_of, first_image, second_image, mid_is, new_is}

-- a log whose batches are durable has them in each image
pub settled_log : (front : List ℕ) (s : DiskState) (bodies : List (List ℕ)) (image : List ℕ) → (file : List ℕ) → s ≡ settled file → IsLog front file bodies → IsImage s image → IsLog front image bodies
settled_log front s bodies image file is has leaves =
    let only : IsImage (settled file) image = subst (λ (t : DiskState). IsImage t image) is leaves in
    subst (λ (bytes : List ℕ). IsLog front bytes bodies) (sym (only.clean refl)) has

module _ {D : Type 0} (g : disk.Ghosts D) (front : List ℕ) (log : Log D g) (bodies : List (List ℕ)) (h : Has front log bodies) (body : List ℕ) where
  -- what stands behind the new batch
  abbrev pub behind : List ℕ
  behind = drop (length (frame_of body)) h.reads.has.rest

  -- what stands on the disk
  pub stands_there : g.state log.disk ≡ settled (spelled front bodies ++ h.reads.has.gate ∷ h.reads.has.rest)
  stands_there = h.durable ∙ ap settled h.reads.has.spelling

  -- each image of a log that has these batches has them
  pub each_image : Leaves (λ (image : List ℕ). IsLog front image bodies) (g.state log.disk)
  each_image image leaves = settled_log front (g.state log.disk) bodies image (g.state log.disk).contents h.durable h.reads.has leaves

  -- The batch is written behind the closed gate.
  pub staged : (mid : D) (at : ℕ) (frame : List ℕ) → at ≡ log.end + 1 → LeavesOnly g log.disk mid (IsImage (after_write at frame (g.state log.disk))) → LeavesOnly g log.disk mid (IsBeforeOrAfter front bodies body)
  staged mid at frame here torn =
      let place : at ≡ length (spelled front bodies) + 1 = omega (arith, here, h.reads.end) in
      weaker g log.disk mid (IsImage (after_write at frame (g.state log.disk))) (IsBeforeOrAfter front bodies body) torn (λ image is.
      first_image front bodies h.reads.has.gate h.reads.has.rest h.reads.has.closed h.reads.has.each (g.state log.disk) body at frame image stands_there place is)

  -- it then stands there
  pub mid_state : (mid : D) (at : ℕ) (frame : List ℕ) → at ≡ log.end + 1 → frame ≡ frame_of body → g.state mid ≡ settled (overwritten (g.state log.disk).contents at frame)
      → g.state mid ≡ settled (spelled front bodies ++ h.reads.has.gate ∷ (frame_of body ++ behind))
  mid_state mid at frame here framed durable =
      let place : at ≡ length (spelled front bodies) + 1 = omega (arith, here, h.reads.end) in
      mid_is front bodies h.reads.has.gate h.reads.has.rest h.reads.has.closed h.reads.has.each (g.state log.disk) (g.state mid) at frame body stands_there place framed durable

  -- Its gate is opened.
  pub opens : (mid new : D) → IsBody body → g.state mid ≡ settled (spelled front bodies ++ h.reads.has.gate ∷ (frame_of body ++ behind))
      → LeavesOnly g mid new (IsImage (after_write log.end (open_gate ∷ []) (g.state mid))) → LeavesOnly g mid new (IsBeforeOrAfter front bodies body)
  opens mid new fits stands torn =
      weaker g mid new (IsImage (after_write log.end (open_gate ∷ []) (g.state mid))) (IsBeforeOrAfter front bodies body) torn (λ image is.
      second_image front bodies h.reads.has.gate h.reads.has.rest h.reads.has.closed h.reads.has.each (g.state mid) body behind log.end image stands h.reads.end fits is)

  pub new_state : (mid new : D) → g.state mid ≡ settled (spelled front bodies ++ h.reads.has.gate ∷ (frame_of body ++ behind)) → g.state new ≡ settled (overwritten (g.state mid).contents log.end (open_gate ∷ []))
      → g.state new ≡ settled (spelled front (bodies ++ body ∷ []) ++ closed_gate ∷ behind)
  new_state mid new stands durable = new_is front bodies h.reads.has.gate h.reads.has.rest h.reads.has.closed h.reads.has.each (g.state mid) (g.state new) log.end body behind stands h.reads.end durable
