use Rattle.std.proofs.Common.{◌≡◌, ◌/◌, ◌∙◌, ℕ, inl, inr, ⊎_elim, Result, Ok, Err, OnOk, is_some, sym, ap, subst, arith}
use Rattle.hg_model.specs.declared.verdict.Refusal.{Refusal}
use Rattle.hg_pool.specs.Maps.{frame_in}
use Rattle.hg_pool.specs.OfWords.{IsSettled, went_on}
use Rattle.hg_pool.specs.Shown.{ShownPool}
use Rattle.hg_pool.proofs.Overlapping.{page_between, page_overlapped}
use Rattle.hg_pool.proofs.words.PoolWords.ready_to_clear.Goals as goal

no_ok : (r : Refusal) → ◌≡◌ {A = Result (Unit {0}) Refusal} (Err r) (Ok tt) → ⊥
no_ok r is = absurd (cc)

pub returns-in_err-load_in_part-clause-again : goal.returns-in_err-load_in_part-clause-again
returns-in_err-load_in_part-clause-again g c ready = absurd (no_ok c.in_err-load_in_part.field-0.0 (c.in_err-load_in_part.ensures.again (λ w is. (ready w is).0)).0)

pub returns-clause-again : goal.returns-clause-again
returns-clause-again g c ready =
    let same = (c.load_in_part.ensures.again (λ w is. (ready w is).0)).1 in
    c.keep_all.ensures.again (λ q low high.
    let at = page_overlapped c.args.at c.args.len q c.requires.some (omega (arith, low, c.pages_of-first.ensures.first)) (omega (arith, high, c.pages_of-first.ensures.last)) in
    subst (λ (x : ShownPool g.row.D.Denot). IsSettled x q) (sym same.0) (subst (λ (n : ℕ). IsSettled c.args.self.now n) at.2 (ready at.0 at.1).1.1))

ok_then : {T E A B : Type 0} (result : Result T E) → OnOk result A → (A → B) → OnOk result B
ok_then (Ok value) is f = f is
ok_then (Err error) is f = tt

pub returns-clause-ready : goal.returns-clause-ready
returns-clause-ready g c =
    let p = c.keep_all.new.self in
    ok_then c.keep_all.result c.keep_all.ensures.kept
    (λ kept. (
      (c.requires.some, c.requires.within),
      λ w is.
          let at = page_between c.args.at c.args.len w is in (
            kept (w / 256) (omega (arith, at.0, c.pages_of-first.ensures.first)) (omega (arith, at.1, c.pages_of-first.ensures.last)),
            ⊎_elim (λ brought. inl (ap (λ (x : ShownPool g.row.D.Denot). is_some (frame_in x.frames (w / 256))) c.keep_all.ensures.rest ∙ brought)) (λ covered. inr covered) (c.in_ok-load_in_part.ensures.loaded w is),
          ),
    ))

pub returns-clause-went : goal.returns-clause-went
returns-clause-went g c = went_on g.D.Disk c.args.self.now c.load_in_part.new.self c.keep_all.new.self c.load_in_part.ensures.stays.went c.keep_all.ensures.stays.went
