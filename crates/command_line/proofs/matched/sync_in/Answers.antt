-- The getter gives the option's text, which names the way.
use Rattle.scop_syntax.proofs.Common.{◌≡◌, ◌∙◌, sym, ap, None, Some, codes, option_map_or}
use Rattle.std.specs.Prelude.{option_map}
use Rattle.clap.specs.Words.{first_of, found_of, rows_of}
use Rattle.clap.proofs.WalkLemmas.{first_value-rows}
use Rattle.command_line.specs.Command.{sync_named}
use Rattle.command_line.specs.declared.command.Sync.TheVariants.{Waves}
use Rattle.command_line.proofs.matched.sync_in.Goals as goal

pub returns-in-Some : goal.returns-in-Some
returns-in-Some c =
    let found = found_of c.args.matches.now in
    let given : Some c.in-Some.text.now ≡ first_of (codes "sync") (rows_of found) =
    sym (ap (option_map (λ s. s.now)) c.in-Some.is) ∙ (c.get_str.ensures ∙ first_value-rows found (codes "sync")) in
    c.sync_named.ensures ∙ ap (λ text. option_map_or sync_named text (Some Waves)) given

pub returns-in-None : goal.returns-in-None
returns-in-None c =
    let found = found_of c.args.matches.now in
    let given : None ≡ first_of (codes "sync") (rows_of found) =
    sym (ap (option_map (λ s. s.now)) c.in-None.is) ∙ (c.get_str.ensures ∙ first_value-rows found (codes "sync")) in
    ap (λ text. option_map_or sync_named text (Some Waves)) given
