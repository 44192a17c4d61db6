use Rattle.tree_simplification.proofs.Common.{◌≡◌, ap, ◌∙◌, sym, subst, map, ◌++◌, List, All, ◌+◌, suc, ℕ, arith, not}
use Rattle.tree_simplification.proofs.Common.{false, Affine, widened, append_assoc, variables_of, part_row, context_of}
use Rattle.tree_simplification.proofs.Contexts.{sized_sided}
use Rattle.tree_simplification.proofs.entering.sided.Goals as goal

pub invariant_of-result : goal.invariant_of-result
invariant_of-result c =
    let old = c.args.context.now in
    let here = map (part_row old.loops c.args.turned false) c.args.parts.now in
    let there = map (part_row old.loops (not c.args.turned) false) c.args.others.now in
    let wide = map (widened old.loops) old.rows.items in
    let first : c.push_parts.new.rows.items ≡ wide ++ here =
    c.in_ok-push_parts.ensures
    ∙ ap (λ (rs : List Affine). rs ++ here)
    (c.in_ok-rows.ensures ∙ ap (map (widened old.loops)) c.deref.ensures.value) in
    let rows : c.push_parts-2.new.rows.items ≡ wide ++ (here ++ there) =
    c.in_ok-push_parts-2.ensures ∙ ap (λ (rs : List Affine). rs ++ there) first ∙ append_assoc wide here there in
    let n : suc old.loops ≡ c.in-Some.loops = let e = c.in-Some.ensures.1 in omega (arith, e) in
    let sized =
    sized_sided (context_of old) c.args.turned c.args.natural c.args.parts.now c.args.others.now old.sized
    c.requires.parts.forms c.requires.others.forms in
    record {
      sized = subst (λ (rs : List Affine). All (λ f. variables_of f ≡ c.in-Some.loops + old.parameters) rs) (sym rows)
          (subst (λ (k : ℕ). All (λ f. variables_of f ≡ k + old.parameters) (wide ++ (here ++ there))) n sized);
    }
