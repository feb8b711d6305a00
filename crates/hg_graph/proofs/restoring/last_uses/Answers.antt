use Rattle.std.proofs.Common.{◌≡◌, inl, inr, ap, ◌∙◌, sym, refl, arith, get_or, length, ⊎_elim}
use Rattle.std.proofs.lemmas.Bool.{cases_eq}
use Rattle.hg_model.specs.Segments.{present}
use Rattle.hg_graph.proofs.Needing.{kept_more, uses_kept}
use Rattle.hg_graph.proofs.Opening.{present_in}
use Rattle.hg_graph.proofs.restoring.last_uses.Goals as goal

pub index_mut-requires : goal.index_mut-requires
index_mut-requires c =
    let is = c.requires.each c.loop-t.t c.loop-t-test.true in
    let within = present_in c.args.segments.now c.loop-t.t c.requires.some in
    let rows = c.loop-t.invariant.0.rows in
    omega (arith, c.loop-t.late.ok.0)

pub loop-t-preserved : goal.loop-t-preserved
loop-t-preserved c =
    let segments = c.args.segments.now in
    let t = c.loop-t.t in
    let late = c.loop-t.late.items in
    let p = get_or c.args.present.now t 0 in
    let is : p ≡ present segments t = c.requires.each t c.loop-t-test.true in
    let within = present_in segments t c.requires.some in
    let rows = c.loop-t.invariant.0.rows in (
      uses_kept segments p (length segments) late c.loop-t.invariant.0 (omega arith) refl,
      λ u lt. kept_more p (length segments) late (length segments) (present segments u) (omega arith) refl
          (⊎_elim (λ same. inl (ap (present segments) same ∙ sym is)) (λ other. inr (c.loop-t.invariant.1 u (omega arith))) (cases_eq u t)),
    )
