-- What the whole input may be, by what was read of it.
use Rattle.std.proofs.Common.{◌≡◌, ◌<◌, ℕ, List, [], ◌∷◌, ◌++◌, Option, Result, sym, ap, ◌∙◌, subst, ⊎_elim, arith}
use Rattle.std.proofs.lemmas.List.{append-nil}
use Rattle.hg_model.specs.declared.verdict.Refusal.{Refusal}
use Rattle.hg_streams.specs.declared.call.ReadCall.{ReadCall}
use Rattle.hg_streams.specs.declared.call.ReadCall.TheVariants.{Gave}
use Rattle.hg_streams.specs.Calls.{MayBe, ends_met, given}
use Rattle.hg_wire.specs.declared.reader.Reading.{Reading}
use Rattle.hg_wire.specs.Streams.{readings}
use Rattle.hg_reading.specs.Taking.{AreDue, Taking}

pub met_some : (reads earlier : List ReadCall) → reads ≡ Gave [] ∷ earlier → 0 < ends_met reads
met_some reads earlier is = subst (λ t. 0 < ends_met t) (sym is) (omega arith)

pub begins_with : {S E : Type 0} (takes : Taking S E) (reads : List ReadCall) (lines : List Reading) (r : Result (Option E) Refusal) (input : List ℕ) → AreDue takes reads lines r → MayBe reads input
    → (rest : List Reading) × (readings input ≡ lines ++ rest)
begins_with takes reads lines r input due m =
    ⊎_elim
    (λ met. let none : m.more ≡ [] = m.over (met_some reads met.0 met.1) in
    let is : input ≡ given met.0 = m.joined ∙ (ap (λ t. given reads ++ t) none ∙ (append-nil (given reads) ∙ (ap given met.1 ∙ append-nil (given met.0)))) in
    ([], ap readings is ∙ (sym met.2 ∙ sym (append-nil lines))))
    (λ stopped. let rest = stopped.1 m.more in (rest.0, ap readings m.joined ∙ rest.1))
    due
