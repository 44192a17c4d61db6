use Rattle.dataflow.proofs.Common.{ℕ, ℤ, List, map, HasParameters, Program, model_of, tree_in, reads_of}
use Rattle.dataflow.proofs.AccessSides.{CoverLaws}
use Rattle.dataflow.proofs.AccessWriters.{laws_of}
use Rattle.dataflow.proofs.CoverFacts.{cover_laws}
use Rattle.dataflow.proofs.HeldSources.{last_trees, sources_held}
use Rattle.dataflow.proofs.cover_laws.flow_holds_the_sources.Goals as goal

pub returns : goal.returns
returns c =
    let laws : (program : Program) (params : List ℤ) (budget : ℕ) → HasParameters program params
    → CoverLaws program params budget =
    λ program params budget has.
    let walked = c.instances_are_those_of_statements.ensures in
    let numbered = c.statements_are_numbered.ensures in
    let ordered = c.walks_are_in_order.ensures in
    let leaves = c.answers_are_live_leaves.ensures in
    cover_laws program params budget has
    (laws_of program params has.kernel has.count walked.found walked.stands walked.turns numbered.number
    numbered.same numbered.loops numbered.placed ordered.order ordered.once)
    c.values_lie_within_45_bits.ensures.turns
    (record {
      answers = leaves.answers;
      found = leaves.found;
      over = leaves.over;
      among = leaves.among;
      quotients = c.bound_quotients_are_not_negative.ensures;
    }) in
    record {
      trees = λ program params budget trees has are.
          sources_held program params budget trees (laws program params budget has) are;
      sources = λ program params sources has are told.
          sources_held program params are.0 (map tree_in sources) (laws program params are.0 has)
          (last_trees (model_of program) are.0 (reads_of (model_of program)) sources are.1 told);
    }
