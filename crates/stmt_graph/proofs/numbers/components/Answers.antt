use Rattle.scop_syntax.proofs.Common.{◌≡◌, ℕ, Bool, List, map, Vec, Global, get_or, length, sym, ◌∙◌, ap, subst, arith}
use Rattle.scop_syntax.proofs.Common.{None, Some, length-map, length-replicate, get_or-replicate, nat_eq, add-one}
use Rattle.stmt_graph.specs.steps.Closure.{AreSquare, IsClosure, IsNext, IsGiven}
use Rattle.stmt_graph.proofs.Counts.{count_within}
use Rattle.stmt_graph.proofs.Reachability.{square}
use Rattle.stmt_graph.proofs.ComponentNumbers.{IsPartial, given, none_given, none_next, none_unnumbered}
use Rattle.stmt_graph.proofs.ComponentNumbers.{fewer_unnumbered}
use Rattle.stmt_graph.specs.Graph.{number_in, IsNumbering}
use Rattle.stmt_graph.proofs.numbers.components.Goals as goal

abbrev views : List (Vec Bool Global) → List (List Bool)
views vs = map (λ (v : Vec Bool Global). v.items) vs

rows_size : (n : ℕ) (es : List (ℕ × ℕ)) (rows : List (Vec Bool Global)) → IsClosure n es (views rows)
    → length rows ≡ n
rows_size n es rows c = sym (length-map rows (λ (v : Vec Bool Global). v.items)) ∙ c.size

next_at : (n : ℕ) (deref rows : List (Vec Bool Global)) (told old : List ℕ) (k a : ℕ) → deref ≡ rows
    → length rows ≡ n → told ≡ old
    → IsNext (length deref) (views deref) told k (Some a) → IsNext n (views rows) old k (Some a)
next_at n deref rows told old k a e s f h =
    subst (λ (z : ℕ). IsNext z (views rows) old k (Some a)) s
    (subst (λ (z : List ℕ). IsNext (length rows) (views rows) z k (Some a)) f
    (subst (λ (z : List (Vec Bool Global)). IsNext (length z) (views z) told k (Some a)) e h))

none_at : (n : ℕ) (es : List (ℕ × ℕ)) (rows deref : List (Vec Bool Global)) (old told : List ℕ) (k : ℕ)
    → IsClosure n es (views rows) → IsPartial n es k old
    → deref ≡ rows → told ≡ old → IsNext (length deref) (views deref) told k None → IsNumbering n es old
none_at n es rows deref old told k c p e f h =
    none_next n es (views rows) old k c p
    (subst (λ (z : ℕ). IsNext z (views rows) old k None) (rows_size n es rows c)
    (subst (λ (z : List ℕ). IsNext (length rows) (views rows) z k None) f
    (subst (λ (z : List (Vec Bool Global)). IsNext (length z) (views z) told k None) e h)))

pub loop-k-init : goal.loop-k-init
loop-k-init c =
    let n = c.args.n in
    let e = c.in_ok-numbers.ensures in
    let ns = c.in_ok-numbers.numbers.items in
    let w = count_within (λ a. nat_eq (number_in ns a) n) n in (
      none_given n c.args.edges.now ns (ap length e ∙ length-replicate n n)
          (λ a l. ap (λ (z : List ℕ). get_or z a 0) e ∙ get_or-replicate n a n 0 l),
      omega arith,
    )

pub next_free-requires-clause-square : goal.next_free-requires-clause-square
next_free-requires-clause-square c =
    subst (λ (vs : List (Vec Bool Global)). AreSquare (views vs)) (sym c.deref.ensures.value)
    (square c.args.n c.args.edges.now (views c.in_ok-rows.rows.items) c.in_ok-rows.ensures)

pub returns-in-None : goal.returns-in-None
returns-in-None c =
    none_at c.args.n c.args.edges.now c.in_ok-rows.rows.items c.deref.result.now c.loop-k.numbers.items
    c.deref-in-loop-k.result.now c.loop-k.k
    c.in_ok-rows.ensures c.loop-k.invariant.0 c.deref.ensures.value c.deref-in-loop-k.ensures.value c.in-None.ensures

pub number_component-requires-clause-square : goal.number_component-requires-clause-square
number_component-requires-clause-square c =
    subst (λ (vs : List (Vec Bool Global)). AreSquare (views vs)) (sym c.deref-in-Some.ensures.value)
    (square c.args.n c.args.edges.now (views c.in_ok-rows.rows.items) c.in_ok-rows.ensures)

pub loop-k-preserved : goal.loop-k-preserved
loop-k-preserved c =
    let n = c.args.n in
    let es = c.args.edges.now in
    let rows = c.in_ok-rows.rows.items in
    let old = c.loop-k.numbers.items in
    let new = c.number_component.new.numbers.items in
    let cl = c.in_ok-rows.ensures in
    let s = rows_size n es rows cl in
    let next : IsNext n (views rows) old c.loop-k.k (Some c.in-Some.a) =
    next_at n c.deref.result.now rows c.deref-in-loop-k.result.now old c.loop-k.k c.in-Some.a
    c.deref.ensures.value s c.deref-in-loop-k.ensures.value c.in-Some.ensures in
    let g : IsGiven (views rows) c.in-Some.a c.loop-k.k old new =
    subst (λ (vs : List (Vec Bool Global)). IsGiven
    (views vs) c.in-Some.a c.loop-k.k old new) c.deref-in-Some.ensures.value c.number_component.ensures.given in
    let p = c.loop-k.invariant.0 in
    let q = c.loop-k.invariant.1 in
    let f = fewer_unnumbered n es
    (views rows) c.in-Some.a c.loop-k.k old new cl c.loop-k-test.true p next g in (
      subst (λ (k : ℕ). IsPartial n es k new) (sym (add-one c.loop-k.k))
          (given n es (views rows) c.in-Some.a c.loop-k.k old new cl c.loop-k-test.true p next
          c.number_component.ensures.size g),
      omega arith,
    )

pub returns : goal.returns
returns c =
    none_unnumbered c.args.n c.args.edges.now c.loop-k.k c.loop-k.numbers.items c.loop-k.invariant.0
    (let i = c.loop-k.invariant.1 in omega arith)
