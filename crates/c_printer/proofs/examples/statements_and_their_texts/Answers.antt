use Rattle.c_printer.proofs.ExampleTexts.{statements_printed}
use Rattle.c_printer.proofs.examples.statements_and_their_texts.Goals as goal

pub returns : goal.returns
returns c = statements_printed
