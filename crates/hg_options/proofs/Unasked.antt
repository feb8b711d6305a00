-- Commands that ask for nothing.
use Rattle.std.proofs.Common.{◌≡◌, ℕ, Option, Some, None, Result, Ok, Err, List, [], codes, refl, sym, subst, ◌∙◌}
use Rattle.clap.specs.Words.{Row, Text, first_of}
use Rattle.hg_options.specs.declared.task.Misread.{Misread}
use Rattle.hg_options.specs.declared.task.Misread.TheVariants as misread
use Rattle.hg_options.specs.declared.task.Task.{Task}
use Rattle.hg_options.specs.declared.task.Task.TheVariants as task
use Rattle.hg_options.specs.Tasks.{AsksFor, AsksForNothing, IsReading, IsNoPlace, IsNoStoreOfRace, IsNoWord, IsRace, HasNoRace, IsStoreTask, IsTask, IsUnasked}

no_task_on_store : (name : Text) (rows : List Row) (directory : Text) → first_of (codes "DIR") rows ≡ Some directory → (name ≡ codes "explain" → ⊥) → AsksForNothing (IsStoreTask name rows) → AsksForNothing (IsTask (name, rows))
no_task_on_store name rows directory there other none (task.Check jobs status verbose) h = absurd (let bad : Some directory ≡ None = sym there ∙ h.1 in cc bad)
no_task_on_store name rows directory there other none (task.Graph jobs verbose) h = absurd (let bad : Some directory ≡ None = sym there ∙ h.1 in cc bad)
no_task_on_store name rows directory there other none (task.Explain of explaining) h = other h.0
no_task_on_store name rows directory there other none (task.OnStore it given) h = none given h.1

-- what asks for nothing of a store asks for nothing
pub of_directory : (name : Text) (rows : List Row) (directory : Text) (r : Misread) → first_of (codes "DIR") rows ≡ Some directory → IsUnasked (IsStoreTask name rows) (name, rows) r → IsUnasked (IsTask (name, rows)) (name, rows) r
of_directory name rows directory misread.Incomplete there h = (no_task_on_store name rows directory there h.1 h.0, h.1)
of_directory name rows directory misread.BadAddress there h = h
of_directory name rows directory misread.NoWord there h = h
of_directory name rows directory misread.TwoWords there h = h
of_directory name rows directory misread.BadPort there h = h
of_directory name rows directory (misread.Help text) there h = h
of_directory name rows directory (misread.Bad text) there h = h
of_directory name rows directory misread.OutOfMemory there h = h

-- `explain` that names no word
pub of_no_word : (rows : List Row) (r : Misread) → HasNoRace rows → IsNoWord rows r → IsUnasked (IsTask (codes "explain", rows)) (codes "explain", rows) r
of_no_word rows misread.Incomplete none h = absurd h
of_no_word rows misread.BadAddress none h = (refl, none, h)
of_no_word rows misread.NoWord none h = (refl, none, h)
of_no_word rows misread.TwoWords none h = absurd h
of_no_word rows misread.BadPort none h = absurd h
of_no_word rows (misread.Help text) none h = absurd h
of_no_word rows (misread.Bad text) none h = absurd h
of_no_word rows misread.OutOfMemory none h = absurd h

-- `explain` of a report, of no store that can be
pub of_no_store : (rows : List Row) (k : ℕ) (r : Misread) → IsRace rows k → IsNoStoreOfRace rows r → IsUnasked (IsTask (codes "explain", rows)) (codes "explain", rows) r
of_no_store rows k misread.Incomplete is h = absurd h
of_no_store rows k misread.BadAddress is h = absurd h
of_no_store rows k misread.NoWord is h = absurd h
of_no_store rows k misread.TwoWords is h = (refl, (k, is), h)
of_no_store rows k misread.BadPort is h = absurd h
of_no_store rows k (misread.Help text) is h = absurd h
of_no_store rows k (misread.Bad text) is h = absurd h
of_no_store rows k misread.OutOfMemory is h = absurd h

-- `serve` on no place
pub of_no_place : (rows : List Row) (r : Misread) → IsNoPlace rows r → IsUnasked (IsStoreTask (codes "serve") rows) (codes "serve", rows) r
of_no_place rows misread.Incomplete h = absurd h
of_no_place rows misread.BadAddress h = absurd h
of_no_place rows misread.NoWord h = absurd h
of_no_place rows misread.TwoWords h = absurd h
of_no_place rows misread.BadPort h = (refl, h.0, h.1)
of_no_place rows (misread.Help text) h = absurd h
of_no_place rows (misread.Bad text) h = absurd h
of_no_place rows misread.OutOfMemory h = absurd h

same : (a b : Text × List Row) → Some a ≡ Some b → b ≡ a
same a b is = sym (cc is)

-- what is made of a command line without another fault
pub reads_command : (command : Option (Text × List Row)) (name : Text) (rows : List Row) (r : Result Task Misread) → command ≡ Some (name, rows) → AsksFor name rows r → IsReading [] command r
reads_command None name rows r is h = absurd (cc is)
reads_command (Some given) name rows (Ok it) is h = (refl, subst (λ (x : Text × List Row). IsTask x it) (same given (name, rows) is) h)
reads_command (Some given) name rows (Err misread.Incomplete) is h = (refl, subst (λ (x : Text × List Row). IsUnasked (IsTask x) x misread.Incomplete) (same given (name, rows) is) h)
reads_command (Some given) name rows (Err misread.BadAddress) is h = (refl, subst (λ (x : Text × List Row). IsUnasked (IsTask x) x misread.BadAddress) (same given (name, rows) is) h)
reads_command (Some given) name rows (Err misread.NoWord) is h = (refl, subst (λ (x : Text × List Row). IsUnasked (IsTask x) x misread.NoWord) (same given (name, rows) is) h)
reads_command (Some given) name rows (Err misread.TwoWords) is h = (refl, subst (λ (x : Text × List Row). IsUnasked (IsTask x) x misread.TwoWords) (same given (name, rows) is) h)
reads_command (Some given) name rows (Err misread.BadPort) is h = (refl, subst (λ (x : Text × List Row). IsUnasked (IsTask x) x misread.BadPort) (same given (name, rows) is) h)
reads_command (Some given) name rows (Err (misread.Help text)) is h = absurd h
reads_command (Some given) name rows (Err (misread.Bad text)) is h = absurd h
reads_command (Some given) name rows (Err misread.OutOfMemory) is h = tt
