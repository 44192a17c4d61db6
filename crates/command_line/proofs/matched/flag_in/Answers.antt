-- The getter reads the flag's text as a truth.
use Rattle.scop_syntax.proofs.Common.{◌∙◌, sym, ap, false, codes, unwrap_or, option_map_or, bytes_eq}
use Rattle.std.specs.declared.str.ParseBoolError.{ParseBoolError}
use Rattle.clap.specs.Words.{found_of, one_text}
use Rattle.clap.proofs.WalkLemmas.{one_text-rows}
use Rattle.command_line.proofs.Getters.{truth_is}
use Rattle.command_line.proofs.matched.flag_in.Goals as goal

pub returns-in-Some : goal.returns-in-Some
returns-in-Some c =
    let found = found_of c.args.matches.now in
    sym (ap (λ r. unwrap_or r false) c.in-Some.is)
    ∙ (truth_is ParseBoolError (one_text found c.args.name.now) c.get_one.result c.get_one.ensures.none c.get_one.ensures.value
    ∙ ap (λ t. option_map_or (λ u. bytes_eq u (codes "true")) t false) (one_text-rows found c.args.name.now))

pub returns-in-None : goal.returns-in-None
returns-in-None c =
    let found = found_of c.args.matches.now in
    sym (ap (λ r. unwrap_or r false) c.in-None.is)
    ∙ (truth_is ParseBoolError (one_text found c.args.name.now) c.get_one.result c.get_one.ensures.none c.get_one.ensures.value
    ∙ ap (λ t. option_map_or (λ u. bytes_eq u (codes "true")) t false) (one_text-rows found c.args.name.now))
