use Rattle.scop_syntax.proofs.Common.{[], ◌∷◌, subst, sym, refl, codes, Program}
use Rattle.scop_syntax.specs.Tree.{none as no_trees}
use Rattle.data_lines.specs.Naming.{line_of}
use Rattle.data_lines.specs.declared.refusal.DataRefusal.TheVariants.{Missing}
use Rattle.data_text.specs.Described.{IsFirstBroken}
use Rattle.text_callers.proofs.data.missing_parameters.Goals as goal

-- a kernel of one parameter
abbrev over_one : Program
over_one = record { name = []; parameters = codes "N" ∷ []; arrays = []; body = no_trees }

pub returns-clause-empty : goal.returns-clause-empty
returns-clause-empty c = λ p is.
    subst (λ p. IsFirstBroken p (line_of []) (Missing 0)) (sym is)
    (c.texts_say_what_lines_describe.ensures.breaks [] over_one (Missing 0) refl)

pub returns-clause-told : goal.returns-clause-told
returns-clause-told c = c.texts_say_what_lines_describe.ensures.breaks
