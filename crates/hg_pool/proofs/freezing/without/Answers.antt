use Rattle.std.proofs.Common.{◌<◌, ◌≡◌, ◌∙◌, ◌==◌, ℕ, length, take, get_or, is_some, None, if◌then◌else◌, sym, ap, arith}
use Rattle.std.proofs.lemmas.List.{get_or_read}
use Rattle.hg_pages.specs.Tables.{slot_in}
use Rattle.hg_pool.proofs.Picked.{more_entries, taken_out}
use Rattle.hg_pool.proofs.freezing.without.Goals as goal

pub loop-i-preserved : goal.loop-i-preserved
loop-i-preserved c =
    let pages = c.args.pages.now.entries in
    let i = c.loop-i.i in
    let inside : i < length pages = omega (arith, c.loop-i-test.true, c.len-i-end.ensures.value) in
    let here : c.at.result ≡ get_or pages i (0, 0) = get_or_read pages i c.at.result inside c.at.ensures (0, 0) in
    record {
      looks = λ q.
          taken_out (slot_in c.loop-i.left.entries q) (slot_in c.remove.new.self.entries q) ((get_or pages i (0, 0)).0 == q) (is_some (slot_in (take i pages) q)) (slot_in c.args.table.now.entries q)
          (c.remove.ensures.removed q ∙ ap (λ (e : ℕ × ℕ). if e.0 == q then None else slot_in c.loop-i.left.entries q) here) (c.loop-i.invariant.looks q)
          ∙ ap (λ b. if b then None else slot_in c.args.table.now.entries q) (sym (more_entries pages i q inside));
      fewer = let was = c.loop-i.invariant.fewer in omega (arith, was, c.remove.ensures.length);
    }
