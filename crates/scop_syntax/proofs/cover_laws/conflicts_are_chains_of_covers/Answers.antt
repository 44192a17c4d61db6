use Rattle.scop_syntax.proofs.Covers.{chain_rises, conflict_chains, cover_conflicts}
use Rattle.scop_syntax.proofs.cover_laws.conflicts_are_chains_of_covers.Goals as goal

pub returns-clause-closure : goal.returns-clause-closure
returns-clause-closure c = conflict_chains

pub returns-clause-covers : goal.returns-clause-covers
returns-clause-covers c = cover_conflicts

pub returns-clause-rises : goal.returns-clause-rises
returns-clause-rises c = chain_rises
