-- What a command line asks for, by the command that it names and the texts of that command's arguments.
use Rattle.std.specs.Prelude.{◌≡◌, ◌⊎◌, ◌↔◌, ◌≤◌, ℕ, ⊤, Bool, true, List, [], Option, Some, None, IfSome, IsSomeAnd, Result, MatchResult, option_map, codes}
use Rattle.std.specs.Str.Parse.{IsNumeral, digits_value, without_leading_plus}
use Rattle.clap.specs.Words.{App, HasKind, IsAmong, Kinds, Row, Text, fault_of, first_of, one_of, subcommand_of}
use Rattle.clap.specs.declared.error.Error.{Error}
use Rattle.clap.specs.declared.error.kind.ErrorKind.{ErrorKind}
use Rattle.clap.specs.declared.error.kind.ErrorKind.TheVariants as kind
use Rattle.hg_model.specs.declared.limits.TheConstants.{GREATEST_SOURCE}
use Rattle.hg_wire.specs.Lines.{operand_of}
use Rattle.hg_options.specs.declared.limits.TheConstants.{DEFAULT_EVERY, DEFAULT_FRAMES, GREATEST_PORT, GREATEST_STATUS, LEAST_FRAMES, MOST_CONNECTIONS, MOST_EVERY, MOST_FRAMES, MOST_JOBS, MOST_RACE, MOST_SILENCE, MOST_WORKERS}
use Rattle.hg_options.specs.declared.task.ErrorExitcode.{ErrorExitcode}
use Rattle.hg_options.specs.declared.task.Explaining.{Explaining}
use Rattle.hg_options.specs.declared.task.Frames.{Frames}
use Rattle.hg_options.specs.declared.task.Jobs.{Jobs}
use Rattle.hg_options.specs.declared.task.Place.{Place}
use Rattle.hg_options.specs.declared.task.Place.TheVariants as place
use Rattle.hg_options.specs.declared.task.Serving.{Serving}
use Rattle.hg_options.specs.declared.task.Source.{Source}
use Rattle.hg_options.specs.declared.task.StoreTask.{StoreTask}
use Rattle.hg_options.specs.declared.task.StoreTask.TheVariants as store
use Rattle.hg_options.specs.declared.task.Subject.{Subject}
use Rattle.hg_options.specs.declared.task.Subject.TheVariants as subject
use Rattle.hg_options.specs.declared.task.Task.{Task}
use Rattle.hg_options.specs.declared.task.Task.TheVariants as task
use Rattle.hg_options.specs.declared.task.Misread.{Misread}
use Rattle.hg_options.specs.declared.task.Misread.TheVariants as misread

-- the text of the argument `id` spells the number n in decimal
abbrev pub Spells : Text → List Row → ℕ → Type 0
Spells id rows n = (t : Text) × (one_of id rows ≡ Some t) × IsNumeral 10 (without_leading_plus t)
    × (n ≡ digits_value 10 (without_leading_plus t))

-- n is the number that the argument spells, or `other` where it spells none from low to high
abbrev pub IsNumber : Text → ℕ → ℕ → ℕ → List Row → ℕ → Type 0
IsNumber id low high other rows n = (Spells id rows n × (low ≤ n) × (n ≤ high))
    ⊎ ((n ≡ other) × ((m : ℕ) → Spells id rows m → low ≤ m → m ≤ high → ⊥))

abbrev pub AreFrames : List Row → Frames → Type 0
AreFrames rows frames = IsNumber (codes "frames") LEAST_FRAMES MOST_FRAMES DEFAULT_FRAMES rows frames.pages

abbrev pub AreJobs : List Row → Jobs → Type 0
AreJobs rows jobs = IsNumber (codes "jobs") 1 MOST_JOBS 1 rows jobs.threads

abbrev pub IsSource : List Row → Source → Type 0
IsSource rows source = IsNumber (codes "SOURCE") 0 GREATEST_SOURCE 0 rows source.number

-- the flag was given
abbrev pub IsFlag : Text → List Row → Bool → Type 0
IsFlag id rows flag = (flag ≡ true) ↔ (first_of id rows ≡ Some (codes "true"))

-- PORT spells the number of a port
abbrev pub IsPort : List Row → ℕ → Type 0
IsPort rows n = Spells (codes "PORT") rows n × (1 ≤ n) × (n ≤ GREATEST_PORT)

-- it spells none
abbrev pub HasNoPort : List Row → Type 0
HasNoPort rows = (m : ℕ) → Spells (codes "PORT") rows m → 1 ≤ m → m ≤ GREATEST_PORT → ⊥

-- PORT is the word for a socket
abbrev pub IsSocket : List Row → Type 0
IsSocket rows = first_of (codes "PORT") rows ≡ Some (codes "unix")

abbrev pub IsPlace : List Row → Place → Type 0
IsPlace rows (place.Port port) = IsPort rows port
IsPlace rows place.Socket = HasNoPort rows × IsSocket rows

pub record AreServing (rows : List Row) (serving : Serving) : Type 0 where
  pub place : IsPlace rows serving.place
  pub connections : IsNumber (codes "connections") 1 MOST_CONNECTIONS 1 rows serving.connections
  pub workers : IsNumber (codes "workers") 1 MOST_WORKERS 1 rows serving.workers
  pub frames : AreFrames rows serving.frames
  pub every : IsNumber (codes "every") 1 MOST_EVERY DEFAULT_EVERY rows serving.every
  pub silence : IsNumber (codes "silence") 1 MOST_SILENCE 0 rows serving.silence
  pub verbose : IsFlag (codes "verbose") rows serving.verbose

-- the status that `--error-exitcode` spells, from 1 to 255; or it spells none
abbrev pub IsErrorExitcode : List Row → Option ErrorExitcode → Type 0
IsErrorExitcode rows (Some given) = Spells (codes "error-exitcode") rows given.status × (1 ≤ given.status) × (given.status ≤ GREATEST_STATUS)
IsErrorExitcode rows None = (m : ℕ) → Spells (codes "error-exitcode") rows m → 1 ≤ m → m ≤ GREATEST_STATUS → ⊥

-- the text of ADDRESS is a number of 64 bits, as in a trace
abbrev pub IsAddress : List Row → ℕ → Type 0
IsAddress rows address = (t : Text) × (first_of (codes "ADDRESS") rows ≡ Some t) × (operand_of 64 t ≡ Some address)

-- the text of ADDRESS is no such number
abbrev pub HasNoAddress : List Row → Type 0
HasNoAddress rows = (t : Text) × (first_of (codes "ADDRESS") rows ≡ Some t) × (operand_of 64 t ≡ None)

-- `--race` spells the number of a report
abbrev pub IsRace : List Row → ℕ → Type 0
IsRace rows k = Spells (codes "race") rows k × (1 ≤ k) × (k ≤ MOST_RACE)

-- it spells none
abbrev pub HasNoRace : List Row → Type 0
HasNoRace rows = (m : ℕ) → Spells (codes "race") rows m → 1 ≤ m → m ≤ MOST_RACE → ⊥

abbrev pub IsRaceOption : List Row → Option ℕ → Type 0
IsRaceOption rows None = HasNoRace rows
IsRaceOption rows (Some k) = IsRace rows k

-- what stands where else ADDRESS does, and is no address
abbrev pub IsFirst : List Row → Option Text → Type 0
IsFirst rows directory = (first_of (codes "ADDRESS") rows ≡ directory) × IfSome directory (λ t. operand_of 64 t ≡ None)

-- With `--race` that is the directory of a store, or none.
abbrev pub IsStoreOfRace : List Row → Option Text → Type 0
IsStoreOfRace rows directory = (first_of (codes "DIR") rows ≡ None) × IsFirst rows directory

-- the word that is asked for, and the directory of the store
abbrev pub IsSubject : List Row → Option Text → Subject → Type 0
IsSubject rows directory (subject.Word address) = HasNoRace rows × IsAddress rows address × (first_of (codes "DIR") rows ≡ directory)
IsSubject rows directory (subject.Race number) = IsRace rows number × IsStoreOfRace rows directory

abbrev pub IsExplaining : List Row → Option Text → Explaining → Type 0
IsExplaining rows directory explaining = IsSubject rows directory explaining.subject × IsFlag (codes "all") rows explaining.all

-- what the command `name` with these arguments asks for of a store
abbrev pub IsStoreTask : Text → List Row → StoreTask → Type 0
IsStoreTask name rows store.Create = name ≡ codes "create"
IsStoreTask name rows (store.Graph verbose) = (name ≡ codes "graph") × IsFlag (codes "verbose") rows verbose
IsStoreTask name rows (store.Reports frames status verbose) = (name ≡ codes "reports") × AreFrames rows frames × IsErrorExitcode rows status
    × IsFlag (codes "verbose") rows verbose
IsStoreTask name rows (store.Feed source frames jobs checkpoint verbose) = (name ≡ codes "feed") × IsSource rows source × AreFrames rows frames
    × AreJobs rows jobs × IsFlag (codes "checkpoint") rows checkpoint × IsFlag (codes "verbose") rows verbose
IsStoreTask name rows (store.Serve serving) = (name ≡ codes "serve") × AreServing rows serving
IsStoreTask name rows store.Migrate = name ≡ codes "migrate"

-- what the command `name` with these arguments asks for
abbrev pub IsTask : Text × List Row → Task → Type 0
IsTask (name, rows) (task.Check jobs status verbose) = (name ≡ codes "check") × (first_of (codes "DIR") rows ≡ None) × AreJobs rows jobs
    × IsErrorExitcode rows status × IsFlag (codes "verbose") rows verbose
IsTask (name, rows) (task.Graph jobs verbose) = (name ≡ codes "graph") × (first_of (codes "DIR") rows ≡ None) × AreJobs rows jobs × IsFlag (codes "verbose") rows verbose
IsTask (name, rows) (task.Explain directory explaining) = (name ≡ codes "explain") × IsExplaining rows (option_map (λ t. t.now) directory) explaining
IsTask (name, rows) (task.OnStore directory given) =
    (first_of (codes "DIR") rows ≡ Some directory.now) × IsStoreTask name rows given

-- no value is asked for
abbrev pub AsksForNothing : {T : Type 0} → (T → Type 0) → Type 0
AsksForNothing {T} is_asked = (it : T) → is_asked it → ⊥

-- the kinds of fault that are no mistake, but ask for a text
abbrev pub AsksForText : ErrorKind → Type 0
AsksForText k = (k ≡ kind.DisplayHelp) ⊎ (k ≡ kind.DisplayVersion)

-- one of the kinds has P
abbrev pub SomeKind : (ErrorKind → Type 0) → Kinds → Type 0
SomeKind P kinds = (k : ErrorKind) × IsAmong k kinds × P k

-- it is `explain`, and its address is no number
abbrev pub HasBadAddress : Text × List Row → Type 0
HasBadAddress (name, rows) = (name ≡ codes "explain") × HasNoRace rows × HasNoAddress rows

-- it is `explain`, and names no word
abbrev pub HasNoWord : Text × List Row → Type 0
HasNoWord (name, rows) = (name ≡ codes "explain") × HasNoRace rows × (first_of (codes "ADDRESS") rows ≡ None)

-- it is `explain` of a report, and an address stands there too: two texts, or one that is an address
abbrev pub NamesTwo : List Row → Type 0
NamesTwo rows = ((t : Text) × (first_of (codes "DIR") rows ≡ Some t)) ⊎ ((address : ℕ) × IsAddress rows address)

abbrev pub HasTwoWords : Text × List Row → Type 0
HasTwoWords (name, rows) = (name ≡ codes "explain") × ((k : ℕ) × IsRace rows k) × NamesTwo rows

-- it is `serve`, and names no port and no socket
abbrev pub HasBadPort : Text × List Row → Type 0
HasBadPort (name, rows) = (name ≡ codes "serve") × HasNoPort rows × ¬ IsSocket rows

-- A command lacks something: it asks for no value, and is not `explain`.
abbrev pub LacksSome : {T : Type 0} → (T → Type 0) → Text × List Row → Type 0
LacksSome is_asked given = AsksForNothing is_asked × (given.0 ≡ codes "explain" → ⊥)

-- what is told of a command line whose first fault has one of these kinds, or which has no fault but in how it names a word
abbrev pub IsMisread : Kinds → Option (Text × List Row) → Misread → Type 0
IsMisread kinds command (misread.Help text) = SomeKind AsksForText kinds
IsMisread kinds command (misread.Bad text) = SomeKind (λ k. AsksForText k → ⊥) kinds
IsMisread kinds command misread.BadAddress = (kinds ≡ []) × IsSomeAnd command HasBadAddress
IsMisread kinds command misread.NoWord = (kinds ≡ []) × IsSomeAnd command HasNoWord
IsMisread kinds command misread.TwoWords = (kinds ≡ []) × IsSomeAnd command HasTwoWords
IsMisread kinds command misread.BadPort = (kinds ≡ []) × IsSomeAnd command HasBadPort
IsMisread kinds command misread.Incomplete = (kinds ≡ []) × IfSome command (λ given. LacksSome (IsTask given) given)
IsMisread kinds command misread.OutOfMemory = ⊤

-- what is made of a command line: what its command asks for, exactly where it has no fault
abbrev pub IsReading : Kinds → Option (Text × List Row) → Result Task Misread → Type 0
IsReading kinds command r = MatchResult r
    (λ task. (kinds ≡ []) × IsSomeAnd command (λ given. IsTask given task))
    (IsMisread kinds command)

-- what is made of these words by the rules of an app
abbrev pub IsReadBy : App → List Text → Result Task Misread → Type 0
IsReadBy app words r = IsReading (fault_of app words) (subcommand_of app words) r

-- what is told of an error, for all kinds of fault that it may have and for every command
abbrev pub IsToldOf : Error → Misread → Type 0
IsToldOf error r = (kinds : Kinds) (command : Option (Text × List Row)) → HasKind kinds error → IsMisread kinds command r

-- Why a command with its arguments asks for nothing: it lacks something, or it names no word, or none that can be.
abbrev pub IsUnasked : {T : Type 0} → (T → Type 0) → Text × List Row → Misread → Type 0
IsUnasked is_asked given misread.Incomplete = LacksSome is_asked given
IsUnasked is_asked given misread.BadAddress = HasBadAddress given
IsUnasked is_asked given misread.NoWord = HasNoWord given
IsUnasked is_asked given misread.TwoWords = HasTwoWords given
IsUnasked is_asked given misread.BadPort = HasBadPort given
IsUnasked is_asked given r = ⊥

-- Why the text of ADDRESS is the address of no word: there is none, or it is no number.
abbrev pub IsNoWord : List Row → Misread → Type 0
IsNoWord rows misread.NoWord = first_of (codes "ADDRESS") rows ≡ None
IsNoWord rows misread.BadAddress = HasNoAddress rows
IsNoWord rows r = ⊥

-- Why PORT names no place: it is no number of a port, nor the word for a socket.
abbrev pub IsNoPlace : List Row → Misread → Type 0
IsNoPlace rows misread.BadPort = HasNoPort rows × ¬ IsSocket rows
IsNoPlace rows r = ⊥

-- Why no store, nor standard input, is named with `--race`: an address is named too.
abbrev pub IsNoStoreOfRace : List Row → Misread → Type 0
IsNoStoreOfRace rows misread.TwoWords = NamesTwo rows
IsNoStoreOfRace rows r = ⊥

-- The command `name` with these arguments asks for something of a store, or for nothing.
abbrev pub AsksOfStore : Text → List Row → Result StoreTask Misread → Type 0
AsksOfStore name rows r = MatchResult r (IsStoreTask name rows) (IsUnasked (IsStoreTask name rows) (name, rows))

-- The command `name` with these arguments asks for a task, or for nothing.
abbrev pub AsksFor : Text → List Row → Result Task Misread → Type 0
AsksFor name rows r = MatchResult r (IsTask (name, rows)) (IsUnasked (IsTask (name, rows)) (name, rows))
