use Rattle.std.proofs.Common.{sym, length, ◌<◌, subst}
use Rattle.hg_sets.specs.Interning.{Table}
use Rattle.hg_sets.specs.Soundness.{table_of}
use Rattle.hg_sets.proofs.Remembering.{keeps, joins_kept, meets_kept, meets_more, new_meet}
use Rattle.hg_sets.proofs.table.SetTable.meet_anew.Goals as goal

pub invariant_of-self-2 : goal.invariant_of-self-2
invariant_of-self-2 c =
    let old = table_of c.self.inside.interner in
    let new = table_of c.meet.new.self in
    let kept = keeps old new _ _ c.in_ok-answer.ensures.exact in
    let known = subst (λ (t : Table). c.args.a < length t.sets) (sym c.self.view_is) c.requires.known in
    record {
      sound = c.in_ok-answer.ensures.sound;
      joins = joins_kept old new c.self.inside.joins.items kept c.self.invariant.joins;
      meets = meets_more new.sets c.self.inside.meets.items c.args.place _ (meets_kept old new c.self.inside.meets.items kept c.self.invariant.meets)
          (new_meet old new c.args.a c.in_ok-answer.answer c.args.others.now c.new.result known c.in_ok-answer.ensures.exact c.new.ensures.set c.new.ensures.others c.new.ensures.short c.new.ensures.answer);
    }
