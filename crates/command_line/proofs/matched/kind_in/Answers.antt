-- The getter gives the argument's text, which names the kind.
use Rattle.scop_syntax.proofs.Common.{◌≡◌, ◌∙◌, sym, ap, None, Some, codes, option_and_then}
use Rattle.std.specs.Prelude.{option_map}
use Rattle.clap.specs.Words.{first_of, found_of, rows_of}
use Rattle.clap.proofs.WalkLemmas.{first_value-rows}
use Rattle.command_line.specs.Command.{kind_named}
use Rattle.command_line.proofs.matched.kind_in.Goals as goal

pub returns-in-Some : goal.returns-in-Some
returns-in-Some c =
    let found = found_of c.args.matches.now in
    let given : Some c.in-Some.text.now ≡ first_of (codes "kind") (rows_of found) =
    sym (ap (option_map (λ s. s.now)) c.in-Some.is) ∙ (c.get_str.ensures ∙ first_value-rows found (codes "kind")) in
    c.kind_named.ensures ∙ ap (option_and_then kind_named) given

pub returns-in-None : goal.returns-in-None
returns-in-None c =
    let found = found_of c.args.matches.now in
    let given : None ≡ first_of (codes "kind") (rows_of found) =
    sym (ap (option_map (λ s. s.now)) c.in-None.is) ∙ (c.get_str.ensures ∙ first_value-rows found (codes "kind")) in
    ap (option_and_then kind_named) given
