use Rattle.scop_syntax.proofs.Common.{◌∙◌, length, sym}
use Rattle.scop_units.specs.View.{tokens_in}
use Rattle.scop_units.proofs.Spans.{start_within}
use Rattle.scop_units.proofs.words.Words.start.Goals as goal

pub returns-in-Some-clause-within : goal.returns-in-Some-clause-within
returns-in-Some-clause-within c =
    let self = c.args.self.now in
    start_within 0 (length self.text.now) (tokens_in self) c.args.at c.in-Some.token c.requires
    (sym c.token.ensures ∙ c.in-Some.is)
