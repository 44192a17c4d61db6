use Rattle.null_space.proofs.Echelon.{kernel_vectors_are, kernel_vectors_unique, narrowed_are}
use Rattle.null_space.proofs.laws.kernel_vectors_are_those_of_the_reduced_echelon_form.Goals as goal

pub returns-clause-are : goal.returns-clause-are
returns-clause-are c n rows = kernel_vectors_are n rows

pub returns-clause-unique : goal.returns-clause-unique
returns-clause-unique c n rows ns ms g h = kernel_vectors_unique n rows ns ms g h

pub returns-clause-more : goal.returns-clause-more
returns-clause-more c n rows row ns h = narrowed_are n rows row ns h
