use Rattle.scop_syntax.proofs.Common.{arith, rules, ◌≡◌, ◌∙◌, ℕ, ℤ, List, length, ap, ap₂, sym, Decides-int_eq}
use Rattle.scop_syntax.proofs.Common.{length-take, slice_eq-Decides, Instance}
use Rattle.loop_tree.proofs.stretch.are_one.Goals as goal

pub returns-then-left-right-clause-one : goal.returns-then-left-right-clause-one
returns-then-left-right-clause-one c =
    let told = slice_eq-Decides Decides-int_eq c.turns.result.now c.turns-then-left-right.result.now c.eq.result
    c.eq.ensures in (
      λ true. ap₂ (λ (n : ℕ) (ts : List ℤ). record { number = n; turns = ts }) c.if-left-right.true
          (sym c.turns.ensures ∙ (told.0 true ∙ c.turns-then-left-right.ensures)),
      λ same. told.1 (c.turns.ensures
          ∙ (ap (λ (i : Instance). i.turns) same ∙ sym c.turns-then-left-right.ensures)),
    )

pub returns-then-left-right-clause-loops : goal.returns-then-left-right-clause-loops
returns-then-left-right-clause-loops c true =
    let told = slice_eq-Decides Decides-int_eq c.turns.result.now c.turns-then-left-right.result.now c.eq.result
    c.eq.ensures in
    let i = c.args.left.now in
    let b = c.args.right.now in
    let same = ap (λ (ts : List ℤ). length ts) (sym c.turns.ensures ∙ (told.0 true ∙ c.turns-then-left-right.ensures)) in
    let few = i.few in
    let low = b.few in
    let whole : length i.turns ≡ 5 = search rules in
    let all : length b.turns ≡ 5 = search rules in
    let m = length-take i.loops i.turns in
    let n = length-take b.loops b.turns in
    omega (arith, same, few, low, whole, all, m, n)
