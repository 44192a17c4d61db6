-- Nodes made of items one by one, from the place at which they stand; variables put one by one.
use Rattle.scop_syntax.proofs.Common.{zero, suc, ◌-◌, ◌^◌, ℤ, length-append, All, unsigned_abs, All-nil, All-cons}
use Rattle.scop_syntax.proofs.Common.{All-head, All-tail, Affine, composed, IsAffine, IsCondition, IsComparison, IsHead}
use Rattle.scop_syntax.proofs.Common.{test_form, loops_in, ◌≡◌, ℕ, ◌+◌, ◌≤◌, ◌<◌, List, [], ◌∷◌, ◌++◌, length, drop}
use Rattle.scop_syntax.proofs.Common.{get_or, map, ap, subst, sym, ◌∙◌, refl, arith, IsKernel, Scope, Program, ap₂}
use Rattle.scop_syntax.proofs.Common.{Head, items_of, statements_in, statements_in_all, item_here}
use Rattle.std.proofs.lemmas.List.{append_assoc}
use Rattle.scop_syntax.specs.View.{test_of as comparison_of}
use Rattle.scop_syntax.specs.declared.tree.Test.{Test as CodeTest}
use Rattle.iteration_domains.specs.Rows.{variable, variables}
use Rattle.iteration_domains.specs.Sizes.{size as numbers_size}
use Rattle.iteration_domains.proofs.Surroundings.{can_compose}
use Rattle.iteration_domains.proofs.Sizes.{size-composed, sizes-append}
use Rattle.iteration_domains.proofs.TreeStatements.{point_forms_are}
use Rattle.loop_tree.specs.Source.{variables_at, point_at}
use Rattle.loop_tree.specs.steps.Placing.{CanBegin, CanTest}
use Rattle.loop_tree.proofs.SourceSizes.{first_over, last_small}
use Rattle.iteration_domains.specs.Path.{path_at}
use Rattle.iteration_domains.proofs.TreeStatements.{root_can}
use Rattle.loop_tree.specs.Source.{source_of}
use Rattle.scop_syntax.specs.Tree.{Test as Comparison, Tree as Item, Trees as Items, loop as repeated}
use Rattle.scop_syntax.specs.Tree.{guard as guarded, none as nothing, more as followed}
use Rattle.scop_syntax.specs.View.{tree_of as item_tree}
use Rattle.scop_syntax.specs.declared.tree.Item.{Item as CodeItem}
use Rattle.iteration_domains.specs.Path.{Path, CanModel}
use Rattle.iteration_domains.proofs.TreeStatements.{can_first, can_rest, can_loop, can_guard}
use Rattle.loop_tree.specs.Tree.{Tree, Trees, none, more}
use Rattle.loop_tree.specs.Source.{source, sources, in_loop, in_guard}
use Rattle.loop_tree.specs.steps.Placing.{CanPlace}
use Rattle.loop_tree.specs.View.{nodes_of, tree_of}
use Rattle.loop_tree.specs.declared.tree.Node.{Node}

-- trees and others behind them
abbrev pub and_then : Trees → Trees → Trees
and_then none us = us
and_then (more t ts) us = more t (and_then ts us)

and_none : (ts : Trees) → and_then ts none ≡ ts
and_none none = refl
and_none (more t ts) = ap (λ (us : Trees). more t us) (and_none ts)

nodes_more : (ns : List Node) (n : Node) (us : Trees)
    → and_then (nodes_of (ns ++ n ∷ [])) us ≡ and_then (nodes_of ns) (more (tree_of n) us)
nodes_more [] n us = refl
nodes_more (m ∷ ns) n us = ap (λ (ts : Trees). more (tree_of m) ts) (nodes_more ns n us)

-- the items before i have their nodes
pub record Placing (start now : Path) (items : List CodeItem) (i k counted : ℕ) (nodes : List Node) : Type 0 where
  pub same : now ≡ start
  pub can : CanPlace now (items_of (drop i items)) counted
  pub count : counted + statements_in_all (items_of (drop i items)) ≡ k + statements_in_all (items_of items)
  pub rest : and_then (nodes_of nodes) (sources now (items_of (drop i items)) counted)
      ≡ sources start (items_of items) k

pub place_first : (path : Path) (t : Item) (ts : Items) (k : ℕ) → CanPlace path (followed t ts) k
    → CanPlace path (followed t nothing) k
place_first path t ts k can =
    let few = can.few in
    record { model = can_first path t ts can.model; few = omega arith }

place_rest : (path : Path) (t : Item) (ts : Items) (k : ℕ) → CanPlace path (followed t ts) k
    → CanPlace path ts (k + statements_in t)
place_rest path t ts k can =
    let few = can.few in
    record { model = can_rest path t ts can.model; few = omega arith }

pub placing_can : (start now : Path) (items : List CodeItem) (i k counted : ℕ) (nodes : List Node) (item : CodeItem)
    → item ≡ get_or items i item → i < length items → Placing start now items i k counted nodes
    → CanPlace now (followed (item_tree item) nothing) counted
placing_can start now items i k counted nodes item found h p =
    let here = item_here items i item found h in
    place_first now (item_tree item) (items_of (drop (i + 1) items)) counted
    (subst (λ (ts : Items). CanPlace now ts counted) here p.can)

-- one node more
pub placing_step : (start now after : Path) (items : List CodeItem) (i k counted next : ℕ) (nodes gained : List Node)
    (item : CodeItem) (node : Node) → item ≡ get_or items i item → i < length items
    → Placing start now items i k counted nodes → tree_of node ≡ source now (item_tree item) counted → after ≡ now
    → next ≡ counted + statements_in (item_tree item) → gained ≡ nodes ++ node ∷ []
    → Placing start after items (i + 1) k next gained
placing_step start now after items i k counted next nodes gained item node found h p is stays counts pushed =
    let t = item_tree item in
    let rest = items_of (drop (i + 1) items) in
    let here = item_here items i item found h in
    let can = place_rest now t rest counted (subst (λ (ts : Items). CanPlace now ts counted) here p.can) in
    let total = p.count in
    let same_total = ap (λ (ts : Items). statements_in_all ts) here in
    let others = sources now rest (counted + statements_in t) in
    let before : and_then (nodes_of nodes) (more (source now t counted) others) ≡ sources start (items_of items) k =
    ap (λ (ts : Items). and_then (nodes_of nodes) (sources now ts counted)) (sym here) ∙ p.rest in
    let whole : and_then (nodes_of gained) others ≡ sources start (items_of items) k =
    ap (λ (ns : List Node). and_then (nodes_of ns) others) pushed
    ∙ (nodes_more nodes node others
    ∙ (ap (λ (u : Tree). and_then (nodes_of nodes) (more u others)) is ∙ before)) in
    subst (λ (q : Path). Placing start q items (i + 1) k next gained) (sym stays)
    (subst (λ (m : ℕ). Placing start now items (i + 1) k m gained) (sym counts)
    (record { same = p.same; can = can; count = omega arith; rest = whole }))

pub placing_ends : (start now : Path) (items : List CodeItem) (i k counted : ℕ) (nodes : List Node)
    → drop i items ≡ [] → Placing start now items i k counted nodes
    → (nodes_of nodes ≡ sources start (items_of items) k) × (counted ≡ k + statements_in_all (items_of items))
placing_ends start now items i k counted nodes none_left p =
    let total = p.count in
    let nothing_more = ap (λ (is : List CodeItem). statements_in_all (items_of is)) none_left in (
      sym (and_none (nodes_of nodes))
          ∙ (ap (λ (is : List CodeItem). and_then (nodes_of nodes) (sources now (items_of is) counted)) (sym none_left)
          ∙ p.rest),
      omega arith,
    )

-- within a loop, and within a guard
pub place_within_loop : (path : Path) (head : Head) (body : Items) (k : ℕ)
    → CanPlace path (followed (repeated head body) nothing) k → CanPlace (in_loop path head k) body k
place_within_loop path head body k can =
    let few = can.few in
    record { model = can_loop path head body k can.model; few = omega arith }

pub place_within_guard : (path : Path) (tests : List Comparison) (body : Items) (k : ℕ)
    → CanPlace path (followed (guarded tests body) nothing) k → CanPlace (in_guard path tests) body k
place_within_guard path tests body k can =
    let few = can.few in
    record { model = can_guard path tests body can.model; few = omega arith }

-- what the code asks of a loop's head and of comparisons, and of the numbers of forms
pub can_begin : (path : Path) (head : Head) → CanModel path nothing
    → IsHead (path.parameters + loops_in path.scopes) head
    → CanBegin (variables_at path) (point_at path) head.first head.condition
can_begin path head can is =
    let n = variables_at path in
    let forms = point_at path in
    let first = composed head.first forms n in
    let are = point_forms_are path nothing can in
    let low = are.small in
    let l = length-append forms (first ∷ []) in
    let a = sizes-append forms first in
    let f = size-composed (path.parameters + loops_in path.scopes) 16 (2 ^ 20) n forms head.first is.first in
    let is_first : IsAffine (length forms) head.first =
    subst (λ k. IsAffine k head.first) (sym are.count) is.first in
    let is_condition : IsCondition (length (forms ++ first ∷ [])) head.condition =
    subst (λ k. IsCondition k head.condition) (sym (l ∙ ap (λ k. k + 1) are.count)) is.condition in
    record {
      first_can = can_compose n 16 (2 ^ 20) forms head.first is_first are.sized (omega arith) (omega arith)
          (omega (arith, low));
      condition_can = can_compose n 16 (2 ^ 20 + 1) (forms ++ first ∷ []) head.condition is_condition
          (first_over n forms head are.sized) (omega arith) (omega arith) (omega (arith, a, f, low));
      small = last_small path nothing head can is;
    }

can_test : (path : Path) (test : Comparison) → CanModel path nothing
    → IsComparison (path.parameters + loops_in path.scopes) (test_form test)
    → CanTest (variables_at path) (point_at path) test
can_test path test can is =
    let n = variables_at path in
    let forms = point_at path in
    let are = point_forms_are path nothing can in
    let low = are.small in
    let s = size-composed (path.parameters + loops_in path.scopes) 32 (2 ^ 21 + 1) n forms (test_form test) is in
    let is_here : IsComparison (length forms) (test_form test) =
    subst (λ k. IsComparison k (test_form test)) (sym are.count) is in
    record {
      can = can_compose n 32 (2 ^ 21 + 1) forms (test_form test) is_here are.sized (omega arith) (omega arith)
          (omega (arith, low));
      small = omega (arith, s, low);
    }

pub can_tests : (path : Path) (tests : List CodeTest) → CanModel path nothing
    → All (λ test. IsComparison (path.parameters + loops_in path.scopes) (test_form test)) (map comparison_of tests)
    → All (λ test. CanTest (variables_at path) (point_at path) (comparison_of test)) tests
can_tests path [] can all =
    All-nil (λ (test : CodeTest). CanTest (variables_at path) (point_at path) (comparison_of test))
can_tests path (test ∷ tests) can all =
    let P : Comparison → Type 0 = λ test. IsComparison (path.parameters + loops_in path.scopes) (test_form test) in
    All-cons (λ (test : CodeTest). CanTest (variables_at path) (point_at path) (comparison_of test)) test tests
    (can_test path (comparison_of test) can (All-head P (comparison_of test) (map comparison_of tests) all))
    (can_tests path tests can (All-tail P (comparison_of test) (map comparison_of tests) all))

pub entries_small : (n : ℕ) (xs : List ℤ) → numbers_size xs ≤ n → (k : ℕ) (d : ℤ) → k < length xs
    → unsigned_abs (get_or xs k d) ≤ n
entries_small n [] h k d below = absurd (omega arith)
entries_small n (x ∷ xs) h zero d below = omega arith
entries_small n (x ∷ xs) h (suc k) d below = entries_small n xs (omega arith) k d (omega arith)

-- the first of so many variables, of which those before one are there
pub units_step : (fs next whole : List Affine) (f : Affine) (n count at : ℕ) → at < count
    → fs ++ variables n at (count - at) ≡ whole → f ≡ variable n at → next ≡ fs ++ f ∷ []
    → next ++ variables n (at + 1) (count - (at + 1)) ≡ whole
units_step fs next whole f n count at h so_far is pushed =
    let rest = variables n (at + 1) (count - (at + 1)) in
    let e : count - at ≡ suc (count - (at + 1)) = omega arith in
    let here : variables n at (count - at) ≡ variable n at ∷ rest = ap (variables n at) e in
    ap (λ (gs : List Affine). gs ++ rest) (pushed ∙ ap (λ (g : Affine). fs ++ g ∷ []) is)
    ∙ (append_assoc fs (variable n at ∷ []) rest ∙ (ap (λ (gs : List Affine). fs ++ gs) (sym here) ∙ so_far))

-- a whole kernel
pub root_place : (program : Program) (m : ℕ) (scopes : List Scope) (loops : List ℕ) (ts : Items) → IsKernel program
    → m ≡ length program.parameters → scopes ≡ [] → loops ≡ [] → ts ≡ program.body
    → CanPlace (path_at m scopes loops) ts 0
root_place program m scopes loops ts is count around named body =
    let few = is.few_statements in
    let same = ap (λ (us : Items). statements_in_all us) body in
    record { model = root_can program m scopes loops ts is count around named body; few = omega arith }

pub root_sources : (program : Program) (m : ℕ) (scopes : List Scope) (loops : List ℕ) (ts : Items)
    → m ≡ length program.parameters → scopes ≡ [] → loops ≡ [] → ts ≡ program.body
    → sources (path_at m scopes loops) ts 0 ≡ source_of program
root_sources program m scopes loops ts count around named body =
    ap₂ (λ (k : ℕ) (ss : List Scope). sources (path_at k ss loops) ts 0) count around
    ∙ ap₂ (λ (ls : List ℕ) (us : Items). sources (path_at (length program.parameters) [] ls) us 0) named body
