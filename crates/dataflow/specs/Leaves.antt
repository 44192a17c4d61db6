-- The dependences of a quast's leaves: each leaf that names a statement is a system over the turns of both instances,
-- what is bound on the way to it, and the parameters.
use Rattle.std.specs.Prelude.{ℕ, ◌+◌, List, [], ◌∷◌, ◌++◌, map, Option, Some, None, slice_get}
use Rattle.std.specs.List.{flat_map}
use Rattle.whole_numbers.specs.Affine.{Affine}
use Rattle.integer_sets.specs.Constraints.{Constraints, system_of}
use Rattle.fm_projection.specs.Condensed.{condensed}
use Rattle.quast_trees.specs.Source.{Source}
use Rattle.quast_trees.specs.Tree.{Tree}
use Rattle.quast_joins.specs.declared.way.Way.{Way}
use Rattle.quast_joins.specs.declared.way.Way.TheVariants.{Later, Earlier}
use Rattle.scop_syntax.specs.Tree.{Access}
use Rattle.iteration_domains.specs.Rows.{variables}
use Rattle.iteration_domains.specs.Constraints.{equalities_in}
use Rattle.iteration_domains.specs.Model.{Modelled, KernelModel}
use Rattle.iteration_domains.specs.Dependence.{Dependence, dependence}
use Rattle.conflict_deps.specs.Conflicts.{Side, side, loops_of, source_form, target_form, same_subscripts, end_of}
use Rattle.quast_trees.specs.Paths.{LeafPath, binds_in, live_paths}
use Rattle.dataflow.specs.LeafRows.{layout_of, path_rows, turn_equalities}
use Rattle.dataflow.specs.declared.leaf_rows.Layout.{Layout}

-- of an access and the writer that is looked for from it, the one that runs first
abbrev pub first_of : Way → Side → Side → Side
first_of Later reader writer = writer
first_of Earlier reader writer = reader

-- and the one that runs behind it
abbrev pub second_of : Way → Side → Side → Side
second_of Later reader writer = reader
second_of Earlier reader writer = writer

-- where the variables of a leaf stand, with m parameters and k binds on the way
abbrev pub leaf_layout : Way → ℕ → ℕ → Side → Side → Layout
leaf_layout Later m k reader writer = layout_of (loops_of writer) (loops_of reader) 0 k m
leaf_layout Earlier m k reader writer = layout_of 0 (loops_of reader) (loops_of writer) k m

-- where the writer's turns begin
abbrev pub writer_begins : Way → Side → ℕ
writer_begins Later reader = 0
writer_begins Earlier reader = loops_of reader

-- a form of the source over the turns of both, k binds and the parameters
abbrev pub first_form : ℕ → Side → Side → Affine → Affine
first_form k s t f = source_form (loops_of s) (loops_of t + k) f

-- a form of the target over its turns, k binds and the parameters, and then over all of them
abbrev pub bound_target : ℕ → Side → Affine → Affine
bound_target k t f = source_form (loops_of t) k f

abbrev pub second_form : ℕ → Side → Side → Affine → Affine
second_form k s t f = target_form (loops_of s) (bound_target k t f)

-- equal subscripts over all of them: source's minus target's
abbrev pub cell_equalities : ℕ → Side → Side → List Affine
cell_equalities k s t =
    equalities_in (same_subscripts (loops_of s) (loops_of t + k) s.access.subscripts
    (map (bound_target k t) t.access.subscripts))

-- of a source and a target both domains' equalities, those of the writer's turns, and equal subscripts
abbrev pub pair_equalities : ℕ → Side → Side → List Affine → List Affine
pair_equalities k s t turns =
    map (first_form k s t) s.statement.domain.equalities
    ++ (map (second_form k s t) t.statement.domain.equalities ++ (turns ++ cell_equalities k s t))

-- both domains' rows, those of the path, and that none of m parameters is negative
abbrev pub pair_rows : ℕ → ℕ → Side → Side → List Affine → List Affine
pair_rows m k s t path =
    map (first_form k s t) s.statement.domain.rows
    ++ (map (second_form k s t) t.statement.domain.rows
    ++ (path ++ variables (loops_of s + loops_of t + k + m) (loops_of s + loops_of t + k) m))

-- these as a system: over the turns of both, k binds and m parameters
abbrev pub pair_system : ℕ → ℕ → Side → Side → List Affine → List Affine → Constraints
pair_system m k s t turns path =
    system_of (loops_of s + loops_of t + k) m (pair_equalities k s t turns) (pair_rows m k s t path)

-- the dependence that has its points, in fewer rows
abbrev pub pair_dep : ℕ → ℕ → Side → Side → List Affine → List Affine → Dependence
pair_dep m k s t turns path = dependence (end_of s) (end_of t) 0 (condensed (pair_system m k s t turns path))

-- the dependence of a leaf of an access's quast that names the writer
abbrev pub leaf_dep : Way → ℕ → Side → Side → LeafPath → Dependence
leaf_dep way m reader writer p =
    pair_dep m (binds_in p.turns) (first_of way reader writer) (second_of way reader writer)
    (turn_equalities (leaf_layout way m (binds_in p.turns) reader writer) (writer_begins way reader) p.leaf.forms)
    (path_rows (leaf_layout way m (binds_in p.turns) reader writer) 0 p.turns)

-- the first access of a statement, which is written
abbrev pub written_side : Modelled → List Access → Option Side
written_side s [] = None
written_side s (a ∷ rest) = Some (side s 0 a)

-- the same of the statement of a number, where there is one
abbrev pub written_of : Option Modelled → Option Side
written_of None = None
written_of (Some s) = written_side s s.accesses

-- the access that writes at a leaf's source
abbrev pub writer_of : KernelModel → Option Source → Option Side
writer_of model None = None
writer_of model (Some source) = written_of (slice_get model.statements source.statement)

-- the dependence of a leaf, where it names a statement
abbrev pub deps_with : Way → ℕ → Side → LeafPath → Option Side → List Dependence
deps_with way m reader p None = []
deps_with way m reader p (Some writer) = leaf_dep way m reader writer p ∷ []

-- that of a leaf of a model
abbrev pub deps_of_leaf : Way → KernelModel → Side → LeafPath → List Dependence
deps_of_leaf way model reader p = deps_with way model.parameters reader p (writer_of model p.leaf.source)

-- the dependences of the leaves of an access's quast to which a point may go, depth first
abbrev pub leaf_deps : Way → KernelModel → Side → Tree → List Dependence
leaf_deps way model reader tree = flat_map (deps_of_leaf way model reader) (live_paths tree)
