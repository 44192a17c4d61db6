-- The getter reads the option's text as a number of 64 bits.
use Rattle.scop_syntax.proofs.Common.{◌∙◌, sym, ap, unwrap_or, option_map_or}
use Rattle.std.specs.Str.Parse.{ParsesUnsigned, ExplainsUnsignedError, HasUnsignedDigitsIfOk}
use Rattle.clap.specs.Words.{found_of, one_text}
use Rattle.clap.proofs.WalkLemmas.{one_text-rows}
use Rattle.command_line.specs.Command.{number_of}
use Rattle.command_line.proofs.Getters.{number_is}
use Rattle.command_line.proofs.matched.number_in.Goals as goal

pub returns-in-Some : goal.returns-in-Some
returns-in-Some c =
    let found = found_of c.args.matches.now in
    sym (ap (λ r. unwrap_or r c.args.usual) c.in-Some.is)
    ∙ (number_is c.args.usual
    (λ bs r. ParsesUnsigned 64 10 bs r × ExplainsUnsignedError 10 bs r × HasUnsignedDigitsIfOk bs r)
    (one_text found c.args.name.now) c.get_one.result (λ t r gives. gives.0) c.get_one.ensures.none
    c.get_one.ensures.value
    ∙ ap (λ t. option_map_or (number_of c.args.usual) t c.args.usual) (one_text-rows found c.args.name.now))

pub returns-in-None : goal.returns-in-None
returns-in-None c =
    let found = found_of c.args.matches.now in
    sym (ap (λ r. unwrap_or r c.args.usual) c.in-None.is)
    ∙ (number_is c.args.usual
    (λ bs r. ParsesUnsigned 64 10 bs r × ExplainsUnsignedError 10 bs r × HasUnsignedDigitsIfOk bs r)
    (one_text found c.args.name.now) c.get_one.result (λ t r gives. gives.0) c.get_one.ensures.none
    c.get_one.ensures.value
    ∙ ap (λ t. option_map_or (number_of c.args.usual) t c.args.usual) (one_text-rows found c.args.name.now))
