use Rattle.whole_numbers.proofs.Common.{All-contains}
use Rattle.quast_trees.specs.Paths.{leaf_paths}
use Rattle.quast_trees.proofs.LeafPaths.{Answers, Stands, answers_all, found_at, over_all}
use Rattle.quast_trees.proofs.laws.answers_are_leaves.Goals as goal

pub returns-clause-found : goal.returns-clause-found
returns-clause-found c t n point o xs speaks h =
    let r = found_at t n point o xs speaks h in (r.path, r.quotients, r.among, r.goes, r.source, r.values)

pub returns-clause-answers : goal.returns-clause-answers
returns-clause-answers c t n point qs p speaks among goes =
    All-contains (Answers t point qs) (leaf_paths t) p (answers_all t n point qs speaks) among goes

pub returns-clause-over : goal.returns-clause-over
returns-clause-over c t n p speaks among = All-contains (Stands n) (leaf_paths t) p (over_all t n speaks) among
