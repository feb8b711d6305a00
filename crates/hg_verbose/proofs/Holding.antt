-- What is held after one event more, and by what a checkpoint has.
use Rattle.std.proofs.Common.{◌≡◌, inl, inr, ℕ, ◌+◌, Bool, true, false, not, ◌&&◌, ◌==◌, List, [], ◌∷◌, ◌++◌, Some, refl, sym, ◌∙◌, ap, subst}
use Rattle.std.specs.Prelude.{slice_get}
use Rattle.std.specs.List.{AllByRecursion, filter}
use Rattle.std.proofs.lemmas.Bool.{cases_Bool, cond-true, cond-false, eq-eqb, and_from, true≢false}
use Rattle.hg_model.specs.declared.event.Event.{Event}
use Rattle.hg_model.specs.declared.event.Event.TheVariants.{Fork, Join, Lock, RdLock, Unlock, Read, Write, Alloc, Free, Send, Recv}
use Rattle.hg_model.specs.declared.held.HeldLock.{HeldLock}
use Rattle.hg_model.specs.declared.thread.ThreadState.{ThreadState}
use Rattle.hg_verbose.specs.declared.holds.Fact.{Fact}
use Rattle.hg_verbose.specs.declared.holds.Fact.TheVariants.{Accepted, Saved}
use Rattle.hg_verbose.specs.declared.holds.Hold.{Hold}
use Rattle.hg_verbose.specs.Holds.{BeginsHold, Followed, IsHeld, IsSavedIn, IsSavedOf, LetsGo, Saves, SavesOf, SavesOfEach, SavesOnly, accepted, saved_hold}

-- an event that lets nothing go
pub still_held : (e : Event) (gone : ℕ) (earlier : List Fact) (holds : List Hold) → ((h : Hold) → LetsGo e h → ⊥) → AllByRecursion (IsHeld gone earlier) holds → AllByRecursion (IsHeld gone (Accepted e ∷ earlier)) holds
still_held e gone earlier [] keeps all = tt
still_held e gone earlier (h ∷ holds) keeps all = (inr (all.0, keeps h), still_held e gone earlier holds keeps all.1)

-- an event that takes a lock
pub one_more_held : (e : Event) (gone : ℕ) (earlier : List Fact) (holds : List Hold) (h : Hold) → ((h : Hold) → LetsGo e h → ⊥) → BeginsHold e h → h.since ≡ gone + accepted earlier + 1 → AllByRecursion (IsHeld gone earlier) holds
    → AllByRecursion (IsHeld gone (Accepted e ∷ earlier)) (holds ++ h ∷ [])
one_more_held e gone earlier [] h keeps takes since all = (inl (takes, since), tt)
one_more_held e gone earlier (g ∷ holds) h keeps takes since all = (inr (all.0, keeps g), one_more_held e gone earlier holds h keeps takes since all.1)

-- an event that lets a lock go
pub others_held : (t l : ℕ) (gone : ℕ) (earlier : List Fact) (holds : List Hold) → AllByRecursion (IsHeld gone earlier) holds
    → AllByRecursion (IsHeld gone (Accepted (Unlock t l) ∷ earlier)) (filter (λ h. not ((h.thread == t) && (h.lock == l))) holds)
others_held t l gone earlier [] all = tt
others_held t l gone earlier (h ∷ holds) all =
    let rest = others_held t l gone earlier holds all.1 in
    let P : List Hold → Type 0 = AllByRecursion (IsHeld gone (Accepted (Unlock t l) ∷ earlier)) in
    elim (cases_Bool (not ((h.thread == t) && (h.lock == l)))) [
      | inl other ↦ subst P (sym (cond-true _ _ _ other)) (
        inr (
          all.0,
          λ goes. let same : ((h.thread == t) && (h.lock == l)) ≡ true = and_from _ _ (eq-eqb _ _ goes.0) (eq-eqb _ _ goes.1) in
              let wrong : false ≡ true = sym (ap not same) ∙ other in absurd (true≢false (sym wrong)),
        ),
        rest,
      )
      | inr same ↦ subst P (sym (cond-false _ _ _ same)) rest
    ]

-- what is no unlock lets nothing go
pub lets_nothing_go : (e : Event) → ((t l : ℕ) → e ≡ Unlock t l → ⊥) → (h : Hold) → LetsGo e h → ⊥
lets_nothing_go (Unlock t l) other h goes = other t l refl
lets_nothing_go (Fork p c) other h goes = goes
lets_nothing_go (Join p c) other h goes = goes
lets_nothing_go (Lock t l) other h goes = goes
lets_nothing_go (RdLock t l) other h goes = goes
lets_nothing_go (Read a) other h goes = goes
lets_nothing_go (Write a) other h goes = goes
lets_nothing_go (Alloc b) other h goes = goes
lets_nothing_go (Free b) other h goes = goes
lets_nothing_go (Send t k) other h goes = goes
lets_nothing_go (Recv t k) other h goes = goes

-- a hold of a checkpoint
pub one_more_saved : (s : Hold) (gone : ℕ) (earlier : List Fact) (holds : List Hold) → AllByRecursion (IsHeld gone earlier) holds → AllByRecursion (IsHeld gone (Saved s ∷ earlier)) (holds ++ s ∷ [])
one_more_saved s gone earlier [] all = (inl refl, tt)
one_more_saved s gone earlier (h ∷ holds) all = (inr all.0, one_more_saved s gone earlier holds all.1)

module _ (P : Hold → Type 0) (first : Followed) where
  pub saves_none : SavesOnly P first first
  saves_none = record { gone = refl; accepted_is = refl; each = λ h is. inl is }

  saves_one : (old new : Followed) (thread lock : ℕ) (write : Bool) → SavesOnly P first old → Saves thread lock write old new → P (saved_hold first.gone thread lock write) → SavesOnly P first new
  saves_one old new thread lock write saves (inl it) is = subst (SavesOnly P first) (sym it.1) saves
  saves_one old new thread lock write saves (inr same) is =
      subst (SavesOnly P first) (sym same) (record {
        gone = saves.gone;
        accepted_is = saves.accepted_is;
        each = λ h held. elim held [
          | inl one ↦ inr (subst P (sym one) (subst (λ (gone : ℕ). P (saved_hold gone thread lock write)) (sym saves.gone) is))
          | inr before ↦ saves.each h before
        ];
      })

  saves_more : (Q : Hold → Type 0) (old new : Followed) → SavesOnly P first old → SavesOnly Q old new → ((h : Hold) → Q h → P h) → SavesOnly P first new
  saves_more Q old new saves more within =
      record {
        gone = more.gone ∙ saves.gone;
        accepted_is = more.accepted_is ∙ saves.accepted_is;
        each = λ h held. elim (more.each h held) [ inl before ↦ saves.each h before | inr one ↦ inr (within h one) ];
      }

-- one hold more of a thread
pub saves_hold : (thread : ThreadState) (i : ℕ) (held : HeldLock) (first old new : Followed) → slice_get thread.held i ≡ Some held → SavesOf thread first old → Saves thread.number held.lock held.write old new → SavesOf thread first new
saves_hold thread i held first old new at saves one = saves_one (IsSavedOf first.gone thread) first old new thread.number held.lock held.write saves one (i, held, at, refl)

-- those of one thread more
pub saves_thread : (threads : List ThreadState) (i : ℕ) (thread : ThreadState) (first old new : Followed) → slice_get threads i ≡ Some thread → SavesOfEach threads first old → SavesOf thread old new → SavesOfEach threads first new
saves_thread threads i thread first old new at saves more =
    saves_more (IsSavedIn first.gone threads) first (IsSavedOf old.gone thread) old new saves more (λ h one. (i, thread, at, subst (λ (gone : ℕ). IsSavedOf gone thread h) saves.gone one))
