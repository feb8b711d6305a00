-- Relations of commands and words that the proofs of this crate use.
use Rattle.std.specs.Prelude.{◌≡◌, ℕ, List, String, Result, IfOk, false, map}
use Rattle.clap.specs.Words.{App, Rule, app_of, rule_of, with_rule, with_subcommand}
use Rattle.clap.specs.declared.builder.Command.{Command}
use Rattle.clap.specs.declared.builder.arg.Arg.{Arg}
use Rattle.clap.specs.declared.builder.Command.TheViews.{out-Command}

-- no argument of the command goes over to its subcommands
abbrev pub HasNoGlobals : Command → Type 0
HasNoGlobals c = (out-Command c).has_globals ≡ false

-- The command has one argument more, unless memory was refused for the command or for adding it.
abbrev pub GainsArgument : {E : Type 0} → Result Command E → Arg → Result Command E → Type 0
GainsArgument command added r = (app : App) (rule : Rule) → IfOk command (λ c. app_of c ≡ app) → rule_of added ≡ rule
    → IfOk r (λ c. app_of c ≡ with_rule app rule)

-- The command has one subcommand more, unless memory was refused for one of the two or for adding it.
abbrev pub GainsSubcommand : {E : Type 0} → Result Command E → Result Command E → Result Command E → Type 0
GainsSubcommand command added r = (app sub : App) → IfOk command (λ c. app_of c ≡ app) → IfOk added (λ c. app_of c ≡ sub)
    → IfOk r (λ c. app_of c ≡ with_subcommand app sub.top)

-- the words as texts
abbrev pub texts : {Z : Type 0} → List (String Z) → List (List ℕ)
texts = map (λ word. word.bytes.items)
