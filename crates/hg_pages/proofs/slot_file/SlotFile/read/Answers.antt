use Rattle.std.proofs.Common.{◌≡◌, ◌∙◌, ℕ, List, length, drop, sym, subst, rules}
use Rattle.std.proofs.lemmas.List.{take_at}
use Rattle.hg_pages.specs.Files.{known}
use Rattle.hg_pages.specs.Slots.{HasBytes}
use Rattle.hg_pages.proofs.Runs.{one_slot}
use Rattle.hg_pages.proofs.slot_file.SlotFile.read.Goals as goal

pub returns-clause-read : goal.returns-clause-read
returns-clause-read g c honest =
    let bytes = c.fill.new.bytes in
    let is : c.of.result.bytes ≡ bytes =
    c.of.ensures.bytes ∙ take_at bytes (drop (length bytes) c.in_ok-bytes.bytes.items) c.in_ok-bytes.bytes.len (c.in_ok-fill.ensures.length ∙ sym c.in_ok-bytes.ensures.len) in
    subst (λ (l : List ℕ). HasBytes c.args.slot l (known g.D.Disk c.args.self.now)) (sym is)
    (one_slot c.args.slot bytes (known g.D.Disk c.args.self.now) c.in_ok-fill.ensures.length (c.in_ok-fill.ensures.read honest))

pub returns-in_err-fill-clause-broken : goal.returns-in_err-fill-clause-broken
returns-in_err-fill-clause-broken g c = record { broken = search rules; refuses = search rules; same = search rules }

pub returns-clause-broken : goal.returns-clause-broken
returns-clause-broken g c = record { broken = search rules; refuses = search rules; same = search rules }
