use Rattle.scop_syntax.proofs.Common.{◌∙◌, ℕ, ◌<◌, List, All, sym, subst, All-map}
use Rattle.schedule_rows.specs.Dependences.{edge_of}
use Rattle.pluto_search.proofs.ends.numbered.Goals as goal

pub components-requires : goal.components-requires
components-requires c =
    let P : ℕ × ℕ → Type 0 = λ e. (e.0 < c.args.n) × (e.1 < c.args.n) in
    record {
      edges = subst (λ (z : List (ℕ × ℕ)). All P z) (sym (c.deref.ensures.value ∙ c.in_ok-edges.ensures))
          (All-map P edge_of c.args.deps.now c.requires);
    }
