use Rattle.scop_syntax.proofs.Common.{sym, subst, All}
use Rattle.scop_lexer.specs.Words.{IsName}
use Rattle.scop_units.specs.Names.{HasDistinctNames, header_names}
use Rattle.scop_units.specs.Words.{words_of}
use Rattle.scop_parser.specs.Names.{HasFreeNames}
use Rattle.scop_parser.proofs.IteratorNames.{has_free_names}
use Rattle.scop_parser.proofs.SpelledNames.{NameLaws, spells_names}
use Rattle.scop_parser.proofs.laws.spelled_names_are_words.Goals as goal

pub returns : goal.returns
returns c text p x =
    let law = c.spelled_programs_are_kernels.ensures in
    let laws : NameLaws = record {
      stands = c.names_stand_by_themselves.ensures;
      spelled = c.names_are_those_of_tokens.ensures;
    } in
    subst HasFreeNames (sym x.stands)
    (has_free_names (words_of text x.tokens) x.kernel x.faultless (spells_names laws text p x)
    (subst HasDistinctNames x.stands (law.names text p x))
    (subst (λ q. All IsName (header_names q)) x.stands (law.words text p x)))
