use Rattle.scop_syntax.proofs.Common.{sym, subst}
use Rattle.scop_units.specs.Words.{words_of}
use Rattle.scop_parser.proofs.Worth.{has_worth}
use Rattle.scop_arithmetic.specs.Meaning.{Means}
use Rattle.scop_arithmetic.proofs.Headers.{kernel_means}
use Rattle.scop_arithmetic.proofs.laws.spelled_texts_mean_their_programs.Goals as goal

pub returns : goal.returns
returns c text p x =
    let words = words_of text x.tokens in
    subst (λ q. Means words x.kernel q) (sym x.stands)
    (kernel_means c.formulas_are_in_scope.ensures c.faultless_formulas_are_within_limits.ensures.affine words x.kernel
    64 256 (has_worth text x.tokens x.is_text.has) x.is_text.spells.fits x.faultless)
