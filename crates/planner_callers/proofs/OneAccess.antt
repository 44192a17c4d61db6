-- The dependences of a model's one access, which is written: those of its run.
use Rattle.scop_syntax.proofs.Common.{◌≡◌, ◌∙◌, ap, append-nil, ℕ, Bool, true, false, List, [], ◌∷◌, ◌++◌, Result}
use Rattle.scop_syntax.proofs.Common.{nat_eq, if◌then◌else◌, flat_map, is_marked}
use Rattle.quast_trees.specs.Tree.{Tree}
use Rattle.quast_joins.specs.declared.way.Way.TheVariants.{Later, Earlier}
use Rattle.iteration_domains.specs.Model.{KernelModel}
use Rattle.conflict_deps.specs.Conflicts.{Side, sides_in}
use Rattle.dataflow.specs.Covering.{covers_at, covers_of, role_deps, roles_at, told_deps}
use Rattle.dataflow.specs.Runs.{Halt}
use Rattle.dataflow.specs.WriterRuns.{Stopped, writers_run}

-- none where its array is marked
pub none_of : (budget : ℕ) (marked : List ℕ) (model : KernelModel) (s : Side) → sides_in model ≡ s ∷ []
    → is_marked marked s.access.array ≡ true → covers_of budget marked model ≡ []
none_of budget marked model s one marks =
    let none : covers_at budget marked model s ≡ [] =
    ap (λ (b : Bool). if b then [] else roles_at budget model s) marks in
    ap (flat_map (covers_at budget marked model)) one ∙ (append-nil (covers_at budget marked model s) ∙ none)

pub told_of : (budget : ℕ) (marked : List ℕ) (model : KernelModel) (s : Side) (run : Result Tree (Halt Stopped))
    → sides_in model ≡ s ∷ [] → s.number ≡ 0 → is_marked marked s.access.array ≡ false
    → writers_run Later model budget s.statement.number s.number ≡ run
    → covers_of budget marked model ≡ told_deps Later model s run
told_of budget marked model s run one written free is =
    let last = role_deps budget Later model s in
    let next = role_deps budget Earlier model s in
    let kept : covers_at budget marked model s ≡ roles_at budget model s =
    ap (λ (b : Bool). if b then [] else roles_at budget model s) free in
    let none : roles_at budget model s ≡ last ++ [] =
    ap (λ (n : ℕ). last ++ (if nat_eq n 0 then [] else next)) written in
    ap (flat_map (covers_at budget marked model)) one
    ∙ (append-nil (covers_at budget marked model s)
    ∙ (kept ∙ (none ∙ (append-nil last ∙ ap (told_deps Later model s) is))))
