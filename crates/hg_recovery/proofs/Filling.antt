-- What stays of a table of sets that events fill.
use Rattle.std.proofs.Common.{◌≡◌, inl, inr, ℕ, List, [], ◌∷◌, All, Option, Some, None, Ok, sym, ap, ◌∙◌, subst}
use Rattle.std.specs.List.{AllByRecursion}
use Rattle.hg_records.specs.Records.{RecordFits}
use Rattle.hg_root.specs.Grammar.{SetFits}
use Rattle.hg_contents.specs.States.{IsLawfulState}
use Rattle.hg_contents.proofs.lawful.Staying.{one_stays}
use Rattle.hg_contents.proofs.lawful.Tables.{tables}
use Rattle.hg_model.specs.declared.event.Named.{Named}
use Rattle.hg_model.specs.Contents.{Content}
use Rattle.hg_model.specs.Change.{after}
use Rattle.hg_sets.specs.Interning.{Interns, Table}
use Rattle.hg_sets.specs.declared.fault.SetFault.{SetFault}
use Rattle.hg_detect.specs.Making.{Asks, sets_asked}
use Rattle.hg_recovery.specs.Filling.{Fills}

-- A table keeps to sets that have a spelling as events are accepted one after another.
pub fills_spelled : (events : List Named) (c : Content) (t : Table) (last : Content) (filled : Table) → IsLawfulState c → AllByRecursion RecordFits events → All SetFits t.sets → Fills events c t last filled → All SetFits filled.sets
fills_spelled [] c t last filled state fits all (same, is) = subst (λ (x : Table). All SetFits x.sets) (sym is) all
fills_spelled (n ∷ events) c t last filled state fits all (accepted, mid, asks, rest) =
    let next = one_stays c n state fits.0 accepted in
    fills_spelled events (after c n) mid last filled next fits.1 (tables c n t mid None next.spelled asks all) rest

-- A table of sets keeps its limit.
interns_limit : (old mid : Table) (set : List ℕ) (id : ℕ) → Interns old set (Ok id) mid → mid.limit ≡ old.limit
interns_limit old mid set id (inl found) = ap (λ (t : Table). t.limit) found.3
interns_limit old mid set id (inr added) = ap (λ (t : Table). t.limit) added.1.2

none_is_not_some : {A : Type 0} (fault : SetFault) → ◌≡◌ {A = Option SetFault} None (Some fault) → A
none_is_not_some fault is = absurd (cc)

asks_limit : (sets : List (List ℕ)) (old new : Table) → Asks old sets None new → new.limit ≡ old.limit
asks_limit [] old new same = ap (λ (t : Table). t.limit) same
asks_limit (set ∷ sets) old new (inl one) = asks_limit sets one.1 new one.3 ∙ interns_limit old one.1 set one.0 one.2
asks_limit (set ∷ sets) old new (inr refused) = none_is_not_some refused.0 refused.2

pub fills_limit : (events : List Named) (c : Content) (t : Table) (last : Content) (filled : Table) → Fills events c t last filled → filled.limit ≡ t.limit
fills_limit [] c t last filled (same, is) = ap (λ (x : Table). x.limit) is
fills_limit (n ∷ events) c t last filled (accepted, mid, asks, rest) =
    fills_limit events (after c n) mid last filled rest ∙ asks_limit (sets_asked c n.event) t mid asks
