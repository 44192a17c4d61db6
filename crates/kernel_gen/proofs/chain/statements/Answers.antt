-- One statement more.
use Rattle.scop_syntax.proofs.Common.{◌≡◌, ◌∙◌, sym, ap, ap₂, subst, ◌∷◌, [], ◌++◌, List, map, arith, range_with_len}
use Rattle.scop_syntax.proofs.Common.{Tree, tree_of, trees_of}
use Rattle.std.proofs.lemmas.List.FromFn.{map-range_with_len_more}
use Rattle.kernel_gen.specs.Programs.{chain_body, chained}
use Rattle.kernel_gen.proofs.chain.statements.Goals as goal

pub loop-k-preserved : goal.loop-k-preserved
loop-k-preserved c =
    let k = c.loop-k.k in
    c.in_ok-push.ensures
    ∙ (ap₂ (λ (ts : List Tree) (t : Tree). ts ++ t ∷ []) c.loop-k.invariant c.in_ok-item.ensures
    ∙ sym (map-range_with_len_more (chained c.args.seed) 0 k k (omega arith)))

pub returns : goal.returns
unfolding chain_body
returns c =
    let last : c.loop-k.k ≡ 8 = omega (arith, c.loop-k-test.false, c.loop-k.auto.k-end) in
    ap trees_of (subst (λ n. map tree_of c.loop-k.items.items ≡ map (chained c.args.seed) (range_with_len 0 n)) last
    c.loop-k.invariant)
