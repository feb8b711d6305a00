use Rattle.std.proofs.Common.{◌≡◌, ◌<◌, ◌∙◌, ℕ, Ok, Err, Result, inl, inr, ⊎_elim, refl, sym, ap, subst, arith}
use Rattle.hg_model.specs.declared.verdict.Refusal.{Refusal}
use Rattle.hg_pages.specs.Tables.{slot_in}
use Rattle.hg_pool.specs.Calls.{KeepsCopies}
use Rattle.hg_pool.specs.OfWords.{IsSettled}
use Rattle.hg_pool.specs.Shown.{ShownPool}
use Rattle.hg_pool.proofs.Stepping.{stays_nowhere, stays_on}
use Rattle.hg_pages.proofs.Searching.{less_or_last}
use Rattle.hg_pool.proofs.pool.Pool.keep_all.Goals as goal

no_ok : (r : Refusal) → ◌≡◌ {A = Result (Unit {0}) Refusal} (Err r) (Ok tt) → ⊥
no_ok r is = absurd (cc)

-- a page that may be changed still may be where copies alone were added
settled_on : {D : Type 0} (old new : ShownPool D) → new ≡ record old { copies = new.copies } → KeepsCopies old.copies new.copies → (q : ℕ) → IsSettled old q → IsSettled new q
settled_on {D} old new rest others q (inl none) = inl (ap (λ (p : ShownPool D). slot_in p.waiting q) rest ∙ none)
settled_on {D} old new rest others q (inr copied) = inr (others q copied)

pub loop-page-init : goal.loop-page-init
loop-page-init g c = record {
  stays = stays_nowhere g.D.Disk c.args.self.now;
  rest = refl;
  kept = λ q low high. absurd (omega (arith, low, high));
  others = λ q is. is;
}

pub loop-page-preserved : goal.loop-page-preserved
loop-page-preserved g c =
    let h = c.loop-page.invariant in
    let did = c.keep.ensures in
    let mid = c.loop-page.self in
    let new = c.keep.new.self in
    record {
      stays = stays_on g.D.Disk c.args.self.now mid new h.stays did.stays;
      rest = did.rest ∙ ap (λ (p : ShownPool g.row.D.Denot). record p { copies = new.copies }) h.rest;
      kept = λ q low high. ⊎_elim (λ (less : q < c.loop-page.page). settled_on mid new did.rest did.others q (h.kept q low less)) (λ (same : q ≡ c.loop-page.page). subst (λ (n : ℕ). IsSettled new n) (sym same) c.in_ok-keep.ensures.kept) (less_or_last q c.loop-page.page high);
      others = λ q is. did.others q (h.others q is);
    }

pub returns-in_err-keep-clause-stays : goal.returns-in_err-keep-clause-stays
returns-in_err-keep-clause-stays g c = stays_on g.D.Disk c.args.self.now c.loop-page.self c.keep.new.self c.loop-page.invariant.stays c.keep.ensures.stays

pub returns-in_err-keep-clause-rest : goal.returns-in_err-keep-clause-rest
returns-in_err-keep-clause-rest g c = c.keep.ensures.rest ∙ ap (λ (p : ShownPool g.row.D.Denot). record p { copies = c.keep.new.self.copies }) c.loop-page.invariant.rest

pub returns-in_err-keep-clause-again : goal.returns-in_err-keep-clause-again
returns-in_err-keep-clause-again g c settled =
    absurd (no_ok c.in_err-keep.field-0.0 (c.in_err-keep.ensures.again
    (settled_on c.args.self.now c.loop-page.self c.loop-page.invariant.rest c.loop-page.invariant.others c.loop-page.page (settled c.loop-page.page (omega (arith, c.loop-page.auto.page)) (omega (arith, c.loop-page-test.true, c.loop-page.auto.page-end))))))
