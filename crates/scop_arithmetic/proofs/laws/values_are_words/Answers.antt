use Rattle.scop_arithmetic.proofs.Places.{reads_same}
use Rattle.scop_arithmetic.proofs.Words.{word_read}
use Rattle.scop_arithmetic.proofs.laws.values_are_words.Goals as goal

pub returns-clause-reads : goal.returns-clause-reads
returns-clause-reads c n f p long h = reads_same n f p long h

pub returns-clause-value : goal.returns-clause-value
returns-clause-value c ranks n f p held long s plain h types = word_read ranks n f p held long s plain h types
