use Rattle.std.proofs.Common.{◌≡◌, ◌∙◌, Ok, Err, Result, inl, inr, ap, ⊎_elim}
use Rattle.hg_model.specs.declared.verdict.Refusal.{Refusal}
use Rattle.hg_pages.specs.Tables.{slot_in}
use Rattle.hg_pool.proofs.Stepping.{stays_on}
use Rattle.hg_pool.proofs.pool.Pool.keep_both.Goals as goal

pub returns-clause-stays : goal.returns-clause-stays
returns-clause-stays g c = stays_on g.D.Disk c.args.self.now c.keep.new.self c.keep-2.new.self c.keep.ensures.stays c.keep-2.ensures.stays

no_ok : (r : Refusal) → ◌≡◌ {A = Result (Unit {0}) Refusal} (Err r) (Ok tt) → ⊥
no_ok r is = absurd (cc)

pub returns-in_err-keep-clause-again : goal.returns-in_err-keep-clause-again
returns-in_err-keep-clause-again g c first last = absurd (no_ok c.in_err-keep.field-0.0 (c.in_err-keep.ensures.again first))

pub returns-clause-again : goal.returns-clause-again
returns-clause-again g c first last =
    c.keep-2.ensures.again
    (⊎_elim
    (λ none. inl (ap (λ p. slot_in p.waiting c.args.last) c.keep.ensures.rest ∙ none))
    (λ copied. inr (c.keep.ensures.others c.args.last copied))
    last)
