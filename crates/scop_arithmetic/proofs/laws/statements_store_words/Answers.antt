use Rattle.scop_arithmetic.proofs.Stores.{place_same, statement_reads, right_stores}
use Rattle.scop_arithmetic.proofs.laws.statements_store_words.Goals as goal

pub returns-clause-place : goal.returns-clause-place
returns-clause-place c n s p long e = place_same n s p long e

pub returns-clause-reads : goal.returns-clause-reads
returns-clause-reads c n s p long e = statement_reads n s p long e

pub returns-clause-right : goal.returns-clause-right
returns-clause-right c ranks n s p held long scope plain e types =
    right_stores ranks n s p held long scope plain e types
