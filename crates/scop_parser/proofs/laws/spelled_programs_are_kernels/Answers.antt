use Rattle.scop_syntax.proofs.Common.{sym, subst, IsKernel}
use Rattle.scop_units.specs.Names.{HasDistinctNames}
use Rattle.scop_units.specs.Words.{words_of}
use Rattle.scop_parser.proofs.Worth.{has_worth}
use Rattle.scop_parser.proofs.SpelledNames.{names_are_words}
use Rattle.scop_parser.proofs.laws.spelled_programs_are_kernels.Goals as goal

pub returns : goal.returns
returns c =
    let law = c.faultless_kernels_are_within_limits.ensures in
    record {
      kernel = λ text p x.
          let worth = has_worth text x.tokens x.is_text.has in
          subst IsKernel (sym x.stands) (law.kernel (words_of text x.tokens) x.kernel worth x.faultless);
      names = λ text p x.
          subst HasDistinctNames (sym x.stands) (law.names (words_of text x.tokens) x.kernel x.faultless);
      words = names_are_words (record {
        stands = c.names_stand_by_themselves.ensures;
        spelled = c.names_are_those_of_tokens.ensures;
      });
    }
