use Rattle.scop_syntax.proofs.Common.{codes}
use Rattle.clap.specs.Words.{App, new_app, with_rule}
use Rattle.command_line.specs.Stated.{IsCommand, flag, sync_option, with_run_options}
use Rattle.command_line.proofs.stated.run_command.Goals as goal

pub returns : goal.returns
returns c =
    let bare : App = new_app (codes "run") in
    let made : IsCommand bare c.new.result = record { app = c.new.ensures.app; plain = c.new.ensures.local } in
    let run : App = with_run_options bare in
    let reported : App = with_rule run (flag (codes "report")) in
    let with_report = c.with_argument-with_report.ensures run (flag (codes "report"))
    (c.with_run_options-run.ensures bare made) c.flag.ensures in
    let expanded : App = with_rule reported (flag (codes "expand")) in
    let with_expand = c.with_argument-with_expand.ensures reported (flag (codes "expand")) with_report
    c.flag-2.ensures in
    let with_sync = c.with_argument-with_sync.ensures expanded sync_option with_expand c.sync_option.ensures in
    c.with_argument.ensures (with_rule expanded sync_option) (flag (codes "reduce")) with_sync c.flag-3.ensures
