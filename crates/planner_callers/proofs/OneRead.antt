-- The dependences of a model's one read: those of its leaves.
use Rattle.scop_syntax.proofs.Common.{◌≡◌, ◌∙◌, ap₂, append-nil, List, [], ◌∷◌, map}
use Rattle.quast_trees.specs.Postfix.{Postfix, tree_of}
use Rattle.quast_joins.specs.declared.way.Way.TheVariants.{Later}
use Rattle.iteration_domains.specs.Model.{KernelModel}
use Rattle.conflict_deps.specs.Conflicts.{Side}
use Rattle.dataflow.specs.Flow.{flow_from, flow_of, read_sides_in, tree_in}
use Rattle.dataflow.specs.Leaves.{leaf_deps}
use Rattle.dataflow.specs.declared.source.ReadSource.{ReadSource}
use Rattle.dataflow.specs.declared.source.ReadSource.TheVariants as source

pub leaves_of : (model : KernelModel) (reader : Side) (quast : Postfix) (sources : List ReadSource)
    → read_sides_in model ≡ reader ∷ [] → sources ≡ source.Resolved quast ∷ []
    → flow_of model (map tree_in sources) ≡ leaf_deps Later model reader (tree_of quast)
leaves_of model reader quast sources one told =
    ap₂ (λ (rs : List Side) (ss : List ReadSource). flow_from model rs (map tree_in ss)) one told
    ∙ append-nil (leaf_deps Later model reader (tree_of quast))
