use Rattle.scop_syntax.proofs.Common.{ℕ, Bool, List, [], ◌∷◌, map, Vec, Global, get_or, length, sym, ◌∙◌, ap, subst}
use Rattle.scop_syntax.proofs.Common.{inl, inr, arith, map-append, length-map}
use Rattle.std.proofs.lemmas.List.{length-append}
use Rattle.stmt_graph.specs.steps.Closure.{IsReached}
use Rattle.stmt_graph.proofs.Counts.{lt_or_eq}
use Rattle.stmt_graph.proofs.Reachability.{get_or_append, get_or_last}
use Rattle.stmt_graph.proofs.closure.closure.Goals as goal

pub loop-from-preserved : goal.loop-from-preserved
loop-from-preserved c =
    let n = c.args.n in
    let es = c.args.edges.now in
    let views = λ (vs : List (Vec Bool Global)). map (λ (v : Vec Bool Global). v.items) vs in
    let old = c.loop-from.rows.items in
    let v = c.in_ok-reached.reached in
    let e = c.in_ok-push.ensures.items in
    let s = c.loop-from.invariant.0 in
    let more = ap views e ∙ map-append (λ (u : Vec Bool Global). u.items) old (v ∷ []) in
    let size = length-map old (λ (u : Vec Bool Global). u.items) in (
      ap length e ∙ omega (arith, length-append old (v ∷ [])),
      λ a l. elim (lt_or_eq a c.loop-from.from (omega arith)) [
        | inl u ↦ subst (IsReached n es a)
            (sym (ap (λ (r : List (List Bool)). get_or r a []) more
            ∙ get_or_append (views old) (v.items ∷ []) a [] (omega arith)))
            (c.loop-from.invariant.1 a u)
        | inr u ↦ subst (λ (x : List Bool). IsReached n es a x)
            (sym (ap (λ (r : List (List Bool)). get_or r a []) more
            ∙ get_or_last (views old) v.items a [] (omega arith)))
            (subst (λ (k : ℕ). IsReached n es k v.items) (sym u) c.in_ok-reached.ensures)
      ],
    )
