use Rattle.std.proofs.Common.{rules, ◌≡◌, ℕ, List, Some, true, false, is_some, refl, sym, ap, ◌∙◌, subst, ⊎_elim, arith}
use Rattle.std.proofs.lemmas.Bool.{true≢false}
use Rattle.hg_cells.specs.declared.cell.Cell.{Cell}
use Rattle.hg_pages.specs.Tables.{slot_in}
use Rattle.hg_pool.specs.Kept.{Stays}
use Rattle.hg_pool.specs.Maps.{copy_in, frame_in}
use Rattle.hg_pool.specs.Shown.{ShownPool}
use Rattle.hg_pool.specs.Sound.{AreSound, shown_of}
use Rattle.lru.specs.LruCache.{LruCache}
use Rattle.hg_pool.proofs.Counting.{distinct_new, fewer}
use Rattle.hg_pool.proofs.Stepping.{either, no_some, sound_copy, stays_copied, stays_nowhere, the_some}
use Rattle.hg_pool.proofs.parts.Parts.keep_page.Goals as goal

pub add_copy-requires-clause-room : goal.add_copy-requires-clause-room
add_copy-requires-clause-room g c =
    let p = c.args.self.now in
    let page = c.args.page in
    let waits : is_some (slot_in p.waiting.entries page) ≡ true = search rules in
    let missing : is_some (copy_in p.copies.entries page) ≡ false = search rules in
    let none = no_some (copy_in p.copies.entries page) missing in
    let distinct = distinct_new page c.in-Some.frame.now.cells p.copies.entries c.len-count.ensures.valid.0 none in
    let few = fewer page c.in-Some.frame.now.cells p.waiting.entries p.copies.entries distinct (λ k is. let found = the_some (copy_in p.copies.entries k) is in c.requires.sound.copied k found.0 found.1) waits in
    omega (arith, few, c.requires.sound.few, c.requires.sound.most)

pub returns-in-Some-clause-stays : goal.returns-in-Some-clause-stays
returns-in-Some-clause-stays g c =
    let p = c.args.self.now in
    let page = c.args.page in
    let old : ShownPool g.row.D.Denot = shown_of p in
    let waits : is_some (slot_in p.waiting.entries page) ≡ true = search rules in
    let missing : is_some (copy_in p.copies.entries page) ≡ false = search rules in
    let there : Some c.in-Some.frame.now ≡ frame_in p.frames.entries page = search rules in
    let found = the_some (slot_in p.waiting.entries page) waits in
    either {S = Stays g.D.Disk old (record old { copies = c.add_copy.new.copies.entries })} c.add_copy.result c.add_copy.ensures.looks c.add_copy.ensures.refused
    (λ look. stays_copied g.D.Disk old c.add_copy.new.copies.entries page found.0 c.in-Some.frame.now c.in-Some.frame.now.cells look found.1 (no_some (copy_in p.copies.entries page) missing) (sym there) refl)
    (λ same. subst (λ (x : LruCache ℕ (List Cell)). Stays g.D.Disk old (record old { copies = x.entries })) (sym same) (stays_nowhere g.D.Disk old))

pub returns-in-Some-clause-sound : goal.returns-in-Some-clause-sound
returns-in-Some-clause-sound g c =
    let p = c.args.self.now in
    let page = c.args.page in
    let copies = c.add_copy.new.copies in
    let waits : is_some (slot_in p.waiting.entries page) ≡ true = search rules in
    either {S = AreSound p.root p.frozen p.live p.waiting copies p.frames p.slots p.is_sealed} c.add_copy.result c.add_copy.ensures.looks c.add_copy.ensures.refused
    (λ look. sound_copy p.root p.frozen p.live p.waiting p.copies copies p.frames p.slots p.is_sealed page c.in-Some.frame.now.cells c.requires.sound look waits c.add_copy.ensures.cap)
    (λ same. subst (λ (x : LruCache ℕ (List Cell)). AreSound p.root p.frozen p.live p.waiting x p.frames p.slots p.is_sealed) (sym same) c.requires.sound)

pub returns-in-Some-clause-again : goal.returns-in-Some-clause-again
returns-in-Some-clause-again g c =
    let p = c.args.self.now in
    let page = c.args.page in
    let waits : is_some (slot_in p.waiting.entries page) ≡ true = search rules in
    let missing : is_some (copy_in p.copies.entries page) ≡ false = search rules in
    λ may. ⊎_elim (λ none. absurd (true≢false (sym waits ∙ ap is_some none))) (λ copied. absurd (true≢false (sym copied ∙ missing))) may

pub returns-in-None-clause-stays : goal.returns-in-None-clause-stays
returns-in-None-clause-stays g c = stays_nowhere g.D.Disk (shown_of c.args.self.now)
