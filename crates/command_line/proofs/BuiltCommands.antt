-- What `clap` makes of a command to which an argument or a command is added.
use Rattle.scop_syntax.proofs.Common.{◌≡◌, ◌∙◌, ap, true, Result, ◌||◌, IfOk, IfOk-weaker}
use Rattle.clap.specs.Built.{AddsArg, AddsSubcommand}
use Rattle.clap.specs.Simple.{App, app_of, app_of_fields, on_top, shape_of, with_rule, with_subcommand}
use Rattle.clap.specs.Walk.{Rule, rule_of}
use Rattle.clap.specs.declared.builder.arg.Arg.{Arg}
use Rattle.clap.specs.declared.builder.command.Command as clap_command
use Rattle.clap.specs.declared.builder.command.Command.TheViews.{out-Command}
use Rattle.command_line.specs.Stated.{IsArgument, IsCommand}

-- a command that wants one of its subcommands, of which `help` is none
pub wanting_is : (a : App) (old mid new : clap_command.Command) → IsCommand a old
    → out-Command mid ≡ record (out-Command old) { subcommand_required = true }
    → out-Command new ≡ record (out-Command mid) { disable_help_subcommand = true }
    → IsCommand (on_top (λ top. record top { subcommand_required = true; disable_help_subcommand = true }) a) new
wanting_is a old mid new of_old wants helps =
    let first : app_of mid ≡ on_top (λ top. record top { subcommand_required = true }) (app_of old) =
    ap app_of_fields wants in
    let second : app_of new ≡ on_top (λ top. record top { disable_help_subcommand = true }) (app_of mid) =
    ap app_of_fields helps in
    record {
      app = second
          ∙ (ap (λ (x : App). on_top (λ top. record top { disable_help_subcommand = true }) x) first
          ∙ ap (λ (x : App). on_top (λ top. record top { subcommand_required = true; disable_help_subcommand = true }) x)
          of_old.app);
      plain = ap (λ fields. fields.has_globals) helps ∙ (ap (λ fields. fields.has_globals) wants ∙ of_old.plain);
    }

-- a command with one argument more
pub one_argument : (a : App) (r : Rule) (old : clap_command.Command) (arg : Arg) (new : clap_command.Command)
    → IsCommand a old → IsArgument r arg → AddsArg old arg new → IsCommand (with_rule a r) new
one_argument a r old arg new of_old of_arg adds = record {
  app = adds.shape of_arg.own
      ∙ (ap (λ (x : App). with_rule x (rule_of arg)) of_old.app ∙ ap (λ (x : Rule). with_rule a x) of_arg.rule);
  plain = adds.globals ∙ (ap (λ b. b || arg.global) of_old.plain ∙ of_arg.own);
}

-- a command with one subcommand more
pub one_command : (a s : App) (old sub new : clap_command.Command) → IsCommand a old → IsCommand s sub
    → AddsSubcommand old sub new → IsCommand (with_subcommand a s.top) new
one_command a s old sub new of_old of_sub adds = record {
  app = adds.shape of_sub.plain
      ∙ (ap (λ (x : App). with_subcommand x (shape_of sub)) of_old.app
      ∙ ap (λ (x : App). with_subcommand a x.top) of_sub.app);
  plain = adds.globals ∙ (ap (λ b. b || (out-Command sub).has_globals) of_old.plain ∙ of_sub.plain);
}

module _ {E : Type 0} where
  -- an argument more, where there was memory for it
  pub argument_more : (a : App) (r : Rule) (old : clap_command.Command) (arg : Arg) (result : Result clap_command.Command E)
      → IsCommand a old → IsArgument r arg → IfOk result (AddsArg old arg) → IfOk result (IsCommand (with_rule a r))
  argument_more a r old arg result of_old of_arg =
      IfOk-weaker result (AddsArg old arg) (IsCommand (with_rule a r)) (λ new. one_argument a r old arg new of_old of_arg)

  -- a subcommand more, where there was memory for it
  pub command_more : (a s : App) (old sub : clap_command.Command) (result : Result clap_command.Command E) → IsCommand a old
      → IsCommand s sub → IfOk result (AddsSubcommand old sub) → IfOk result (IsCommand (with_subcommand a s.top))
  command_more a s old sub result of_old of_sub =
      IfOk-weaker result (AddsSubcommand old sub) (IsCommand (with_subcommand a s.top))
      (λ new. one_command a s old sub new of_old of_sub)

-- what is known of a command by what was added to it
pub ruleset building = (wanting_is, one_argument, one_command, argument_more, command_more)
