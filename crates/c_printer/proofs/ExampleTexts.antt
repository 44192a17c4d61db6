-- The texts of a small kernel's tree and of statements, by computation.
use Rattle.scop_syntax.proofs.Common.{◌≡◌, [], ◌∷◌, map, refl, codes}
use Rattle.std.specs.Fmt.{digits}
use Rattle.form_text.specs.Forms.{form_text}
use Rattle.c_printer.specs.Examples.{kernel, statements, text, texts, tree}
use Rattle.c_printer.specs.Nodes.{closing_text, lower_text, pragma_text, text_of, upper_text}
use Rattle.c_printer.specs.Statements.{between, front_text, prologue, statement_text}

pub printed : text_of kernel tree ≡ text
unfolding digits form_text closing_text lower_text pragma_text upper_text between front_text prologue statement_text
printed = refl

pub statements_printed : map (statement_text kernel (codes "N" ∷ codes "i" ∷ [])) statements ≡ texts
unfolding digits form_text between statement_text
statements_printed = refl
