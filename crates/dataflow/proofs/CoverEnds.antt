-- The dependences of covers lie between statements of the model.
use Rattle.dataflow.proofs.Common.{◌≡◌, ℕ, ◌+◌, ◌≤◌, Bool, true, false, List, [], ◌∷◌, Some, None, Option, Ok, Err}
use Rattle.dataflow.proofs.Common.{Result, ap, subst, sym, ◌∙◌, refl, arith, inl, inr, slice_get, nat_eq, if◌then◌else◌}
use Rattle.dataflow.proofs.Common.{In, is_marked, Access, in_append, Source, LeafPath, live_paths, Tree, Modelled}
use Rattle.dataflow.proofs.Common.{KernelModel, IsKernelModel, Dependence, Side, loops_of, sides_in, end_of}
use Rattle.dataflow.proofs.Common.{conflicts_of, parts_of, stands, in_flat_map_from, in_unless_from, turns_in}
use Rattle.dataflow.proofs.Common.{writers_run, leaf_dep, deps_with, deps_of_leaf, written_side, written_of, writer_of}
use Rattle.dataflow.proofs.Common.{LiesBetween, is_in_role, told_deps, role_deps, roles_at, next_deps, covers_at}
use Rattle.dataflow.proofs.Common.{covers_of}
use Rattle.quast_joins.specs.declared.way.Way.{Way}
use Rattle.quast_joins.specs.declared.way.Way.TheVariants.{Later, Earlier}
use Rattle.dataflow.proofs.ResolvedWriters.{chosen_in}

-- an access stands at its statement's place
abbrev pub Stands : KernelModel → Side → Type 0
Stands model s = slice_get model.statements s.statement.number ≡ Some s.statement

-- a dependence between two of them
between : (model : KernelModel) (s t : Side) (d : Dependence) → Stands model s → Stands model t
    → d.source ≡ end_of s → d.target ≡ end_of t → loops_of s + loops_of t ≤ d.system.dimensions
    → d.system.parameters ≡ model.parameters → LiesBetween model d
between model s t d first second source target room parameters =
    record {
      from = s.statement;
      to = t.statement;
      source = ap (λ e. slice_get model.statements e.statement) source ∙ first;
      target = ap (λ e. slice_get model.statements e.statement) target ∙ second;
      source_loops = ap (λ e. e.loops) source;
      target_loops = ap (λ e. e.loops) target;
      parameters = parameters;
      dependence = record {
        turns = let a = ap (λ e. e.loops) source in let b = ap (λ e. e.loops) target in omega arith;
        one = λ same. ap (λ e. e.loops) source
            ∙ (ap turns_in (sym first)
            ∙ (ap (λ i. turns_in (slice_get model.statements i))
            (ap (λ e. e.statement) (sym source) ∙ (same ∙ ap (λ e. e.statement) target))
            ∙ (ap turns_in second ∙ ap (λ e. e.loops) (sym target))));
      };
    }

-- a conflict does
conflict_between : (model : KernelModel) (d : Dependence) → IsKernelModel model → In d (conflicts_of model)
    → LiesBetween model d
conflict_between model d is h =
    let p = parts_of model d is h in
    let whole : (e : Dependence) → e ≡ d → LiesBetween model e → LiesBetween model d =
    λ e same. subst (LiesBetween model) same in
    let source = subst (λ (e : Dependence). slice_get model.statements e.source.statement ≡ Some p.from.statement) p.is
    p.source in
    let target = subst (λ (e : Dependence). slice_get model.statements e.target.statement ≡ Some p.to.statement) p.is
    p.target in
    whole _ (sym p.is) (between model p.from p.to _ source target refl refl (omega arith) refl)

-- the access that a leaf names stands at its statement's place
pub written_is : (s : Modelled) (accesses : List Access) (w : Side) → written_side s accesses ≡ Some w → w.statement ≡ s
written_is s [] w e = absurd cc
written_is s (a ∷ rest) w e = sym (ap (statement_or s) e)
  where
    statement_or : Modelled → Option Side → Modelled
    statement_or t None = t
    statement_or t (Some x) = x.statement

pub writer_slot : (model : KernelModel) (source : Source) (w : Side) → writer_of model (Some source) ≡ Some w
    → slice_get model.statements source.statement ≡ Some w.statement
writer_slot model source w e = found (slice_get model.statements source.statement) e
  where
    found : (o : Option Modelled) → written_of o ≡ Some w → o ≡ Some w.statement
    found None h = absurd cc
    found (Some s) h = ap Some (sym (written_is s s.accesses w h))

pub writer_stands : (model : KernelModel) (o : Option Source) (w : Side) → IsKernelModel model
    → writer_of model o ≡ Some w → Stands model w
writer_stands model None w is e = absurd cc
writer_stands model (Some source) w is e =
    let slot = writer_slot model source w e in
    ap (λ i. slice_get model.statements i) (is.places source.statement w.statement slot) ∙ slot

-- a leaf's dependence does
pub leaf_between : (way : Way) (model : KernelModel) (reader : Side) (tree : Tree) (d : Dependence) → IsKernelModel model
    → Stands model reader → In d (told_deps {E = ℕ} way model reader (Ok tree)) → LiesBetween model d
leaf_between way model reader tree d is here h =
    let p = in_flat_map_from (deps_of_leaf way model reader) (live_paths tree) d h in
    named p.0 (writer_of model p.0.leaf.source) refl p.2
  where
    leaf_of : (way : Way) (w : Side) (p : LeafPath) → Stands model w
        → LiesBetween model (leaf_dep way model.parameters reader w p)
    leaf_of Later w p there = between model w reader _ there here refl refl (omega arith) refl
    leaf_of Earlier w p there = between model reader w _ here there refl refl (omega arith) refl

    named : (p : LeafPath) (o : Option Side) → writer_of model p.leaf.source ≡ o
        → In d (deps_with way model.parameters reader p o) → LiesBetween model d
    named p None e i = absurd i
    named p (Some w) e (inl same) =
        subst (LiesBetween model) (sym same) (leaf_of way w p (writer_stands model p.leaf.source w is e))
    named p (Some w) e (inr none) = absurd none

-- what stands for an access in its role does
role_between : {E : Type 0} (way : Way) (model : KernelModel) (reader : Side) (run : Result Tree E) (d : Dependence)
    → IsKernelModel model → Stands model reader → In d (told_deps way model reader run) → LiesBetween model d
role_between way model reader (Ok tree) d is here h = leaf_between way model reader tree d is here h
role_between way model reader (Err stop) d is here h =
    conflict_between model d is
    (chosen_in (is_in_role way reader.statement.number reader.number) (conflicts_of model) d h).0

next_between : (budget : ℕ) (model : KernelModel) (reader : Side) (d : Dependence) (first : Bool)
    → IsKernelModel model → Stands model reader
    → In d (if first then [] else role_deps budget Earlier model reader) → LiesBetween model d
next_between budget model reader d true is here h = absurd h
next_between budget model reader d false is here h =
    role_between Earlier model reader (writers_run Earlier model budget reader.statement.number reader.number) d is here
    h

pub covers_between : (model : KernelModel) (budget : ℕ) (marked : List ℕ) (d : Dependence) → IsKernelModel model
    → In d (covers_of budget marked model) → LiesBetween model d
covers_between model budget marked d is h =
    let r = in_flat_map_from (covers_at budget marked model) (sides_in model) d h in
    let kept = in_unless_from (is_marked marked r.0.access.array) d (roles_at budget model r.0) r.2 in
    let here = stands model r.0 is r.1 in
    elim (in_append d (role_deps budget Later model r.0) (next_deps budget model r.0) kept.1) [
      | inl last ↦ role_between Later model r.0
          (writers_run Later model budget r.0.statement.number r.0.number) d is here last
      | inr next ↦ next_between budget model r.0 d (nat_eq r.0.number 0) is here next
    ]
