-- What a step of the flusher adds to its list.
use Rattle.std.proofs.Common.{◌≡◌, ◌++◌, [], ◌∷◌, List, Bool, true, false, inl, inr, Result, refl, sym, subst, ◌∙◌}
use Rattle.std.proofs.lemmas.Bool.{false≢true, true≢false}
use Rattle.hg_store.specs.declared.steps.Step.{Step}
use Rattle.hg_store.specs.declared.steps.Step.TheVariants as step
use Rattle.hg_store.specs.declared.steps.StepResult.{StepResult}
use Rattle.hg_desk.specs.Told.{IsListed, Listed, ListsFreeze, Told, listed}
use Rattle.hg_server.specs.Flushing.{AreRetired, may_open, opened, retires}

-- where no retirement is wanted, one does no harm
pub with_one : (steps : List Listed) (is_retired : Bool) → AreRetired false steps → AreRetired is_retired steps
with_one [] is_retired are = tt
with_one (made ∷ earlier) is_retired are = (λ is. absurd (false≢true (are.0 is)), are.1)

-- a step that opens no root
other_listed : (made : Step) (result : StepResult) (steps : List Listed) → may_open made ≡ false → AreRetired false steps → AreRetired false (listed made result ++ steps)
other_listed (step.Offer n) result steps none are = are
other_listed step.Commit result steps none are = are
other_listed step.Freeze result steps none are = (λ is. absurd (false≢true is), are)
other_listed step.TakeJob result steps none are = (λ is. absurd (false≢true is), are)
other_listed (step.Put page) result steps none are = (λ is. absurd (false≢true is), are)
other_listed step.SealPages result steps none are = (λ is. absurd (false≢true is), are)
other_listed step.PrepareRoot result steps none are = (λ is. absurd (false≢true is), are)
other_listed step.WriteRoot result steps none are = (λ is. absurd (false≢true is), are)
other_listed step.OpenRoot result steps none are = absurd (false≢true (sym none))
other_listed step.Evict result steps none are = (λ is. absurd (false≢true is), are)
other_listed (step.Load page) result steps none are = (λ is. absurd (false≢true is), are)
other_listed step.Retire result steps none are = (λ is. absurd (false≢true is), with_one steps true are)

pub other_kept : (made : Step) (result : StepResult) (told new : Told) → may_open made ≡ false → IsListed made told new result → AreRetired false told.steps → AreRetired false new.steps
other_kept made result told new none is are = subst (AreRetired false) (sym is) (other_listed made result told.steps none are)

-- an opening that was refused
pub not_opened : (result : StepResult) (told new : Told) → opened result ≡ false → IsListed step.OpenRoot told new result → AreRetired false told.steps → AreRetired false new.steps
not_opened result told new none is are = subst (AreRetired false) (sym is) (λ yes. absurd (false≢true (sym none ∙ yes)), are)

-- an opening, behind which a retirement is wanted
pub to_retire : (result : StepResult) (told new : Told) → IsListed step.OpenRoot told new result → AreRetired false told.steps → AreRetired true new.steps
to_retire result told new is are = subst (AreRetired true) (sym is) (λ yes. refl, are)

-- a retirement
pub retired : (result : StepResult) (told new : Told) → IsListed step.Retire told new result → AreRetired true told.steps → AreRetired false new.steps
retired result told new is are = subst (AreRetired false) (sym is) (λ yes. absurd (false≢true yes), are)

-- a freeze, or no step
pub begun : (told new : Told) → ListsFreeze told new → AreRetired false told.steps → AreRetired false new.steps
begun told new (inl is) are = subst (AreRetired false) (sym is) are
begun told new (inr is) are = subst (AreRetired false) (sym is.1) (λ yes. absurd (false≢true yes), are)
