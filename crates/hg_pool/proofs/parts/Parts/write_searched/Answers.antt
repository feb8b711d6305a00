use Rattle.std.proofs.Common.{◌≡◌, ◌⊎◌, inl, ◌<◌, ◌∙◌, ℕ, List, Some, sym, ap, subst}
use Rattle.hg_pages.specs.Tables.{IsNamed, slot_in}
use Rattle.hg_pool.specs.declared.parts.Parts.{Parts}
use Rattle.hg_pool.specs.Reached.{IsReached}
use Rattle.hg_pool.specs.Sound.{shown_of}
use Rattle.hg_pool.proofs.Reaching.{of_either, reached_moved, reached_still, takes_moved}
use Rattle.hg_pool.proofs.parts.Parts.write_searched.Goals as goal

pub returns-clause-reached : goal.returns-clause-reached
returns-clause-reached g c =
    let p = shown_of c.args.self.now in
    let new = c.write_changed.new.self in
    let from = c.next_search-self.result in
    let below : (s : ℕ) → s < from → (s < c.args.slot) × (slot_in p.live c.args.page ≡ Some s → IsNamed p.root s ⊎ IsNamed p.frozen s) =
    λ s lt. let at = c.next_search-self.ensures s lt in (at.0, λ is. at.1 (c.get-former.ensures ∙ is)) in
    subst (λ (x : Parts g.row.D.Denot). IsReached x) (sym c.write_changed.ensures.rest)
    (of_either c.write_changed.result c.write_changed.ensures.slots c.write_changed.ensures.refused
    (λ looks. reached_moved p new.live.entries c.args.page c.args.slot from c.requires.least below looks)
    (λ same. reached_still p new.live.entries c.args.slot from c.requires.least (λ s lt. (below s lt).0) same))

pub returns-clause-moves : goal.returns-clause-moves
returns-clause-moves g c =
    let p = shown_of c.args.self.now in
    let live = c.write_changed.new.self.live.entries in
    let did = c.write_changed.ensures in
    record {
      takes = λ q s is.
          of_either c.write_changed.result did.slots did.refused (λ looks. takes_moved p live c.args.page c.args.slot c.requires.least looks q s is)
          (λ same. inl (sym (ap (λ (es : List (ℕ × ℕ)). slot_in es q) same) ∙ is));
      stays = did.stays;
      refusal = did.refusal;
      device = did.device;
      calls = did.calls;
    }
