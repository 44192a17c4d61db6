-- What a parse by the stated command finds, and by what it fails.
use Rattle.scop_syntax.proofs.Common.{◌≡◌, refl, subst, inl, inr, true, List, [], Result}
use Rattle.clap.specs.Faults.{fault_of, is_simple_and_free}
use Rattle.clap.specs.Kinds.{FailsBy, HasKind, IsAmong, Kinds}
use Rattle.clap.specs.Simple.{App, HasMatchesOf, app_of, is_simple, subcommand_of, subcommand_rows_of}
use Rattle.clap.specs.Values.{kind_of}
use Rattle.clap.specs.Walk.{Text}
use Rattle.clap.specs.declared.builder.command.Command as clap_command
use Rattle.clap.specs.declared.error.Error.{Error}
use Rattle.clap.specs.declared.error.kind.ErrorKind.TheVariants.{OutOfMemory}
use Rattle.clap.specs.declared.parser.matches.ArgMatches.{ArgMatches}
use Rattle.command_line.specs.Stated.{IsCommand, tool}

-- the stated command is one of those of which `clap` says what it finds
simple : is_simple tool ≡ true
simple = refl

-- and by what it fails
free : is_simple_and_free tool ≡ true
free = refl

-- it finds the command that the words name
pub finds : (words : List Text) (command : clap_command.Command) (matches : ArgMatches) → IsCommand tool command
    → HasMatchesOf (app_of command) words matches → subcommand_rows_of matches ≡ subcommand_of tool words
finds words command matches is found =
    let here : HasMatchesOf tool words matches =
    subst (λ (a : App). HasMatchesOf a words matches) is.app found in
    (here simple).1

-- it fails by the faults of the words
pub fails : {T : Type 0} (words : List Text) (command : clap_command.Command) (result : Result T Error)
    → IsCommand tool command
    → (is_simple_and_free (app_of command) ≡ true → FailsBy (fault_of (app_of command) words) result)
    → FailsBy (fault_of tool words) result
fails words command result is by =
    subst (λ (a : App). is_simple_and_free a ≡ true → FailsBy (fault_of a words) result) is.app by free

-- an error that is not want of memory comes where there are faults
pub refused : (kinds : Kinds) (error : Error) → HasKind kinds error → (kind_of error ≡ OutOfMemory → ⊥) → kinds ≡ [] → ⊥
refused kinds error (inl memory) other none = other memory
refused kinds error (inr among) other none = subst (IsAmong (kind_of error)) none among
