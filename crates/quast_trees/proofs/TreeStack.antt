-- The stack of trees that nodes in postfix order leave, as nodes are added.
use Rattle.whole_numbers.proofs.Common.{◌≡◌, ℕ, ◌+◌, ◌-◌, ◌≤◌, List, [], ◌∷◌, ◌++◌, length, get_or, take, refl, sym, ap}
use Rattle.whole_numbers.proofs.Common.{ap₂, ◌∙◌, append_assoc, length-append, arith, get_or-append_seam}
use Rattle.whole_numbers.proofs.Common.{take-append_seam, Affine}
use Rattle.quast_trees.specs.Tree.{Tree, initial, leaf, branch, count}
use Rattle.quast_trees.specs.Postfix.{written, built, standing, laid, starts}
use Rattle.quast_trees.specs.Postfix.{IsLeaf, IsStack}
use Rattle.quast_trees.specs.declared.node.Node.{Node}
use Rattle.quast_trees.specs.declared.node.Node.TheVariants as node
use Rattle.quast_trees.proofs.WrittenNodes.{fold-append, length-written}

-- one node more
pub standing-more : (nodes : List Node) (x : Node) → standing (nodes ++ x ∷ []) ≡ built (standing nodes) x
standing-more nodes x = fold-append [] nodes (x ∷ [])

-- as many places as trees
pub length-starts : (stack : List Tree) → length (starts stack) ≡ length stack
length-starts [] = refl
length-starts (t ∷ stack) = simp length-append (omega (arith, length-starts stack))

-- nodes whose stack is known
stacked : (nodes : List Node) (places : List ℕ) (stack : List Tree) → standing nodes ≡ stack
    → nodes ≡ laid stack → places ≡ starts stack
    → IsStack nodes places
stacked nodes places stack e spelled begin =
    record { spelled = spelled ∙ ap laid (sym e); begin = begin ∙ ap starts (sym e) }

-- a leaf's node on top, as a tree of its own
pub started : (nodes : List Node) (places : List ℕ) (x : Node) → IsLeaf x → IsStack nodes places
    → IsStack (nodes ++ x ∷ []) (places ++ length nodes ∷ [])
started nodes places node.Initial leaf-is s =
    stacked (nodes ++ node.Initial ∷ []) (places ++ length nodes ∷ []) (initial ∷ standing nodes)
    (standing-more nodes node.Initial) (ap (λ ns. ns ++ node.Initial ∷ []) s.spelled)
    (ap₂ (λ ps ns. ps ++ length ns ∷ []) s.begin s.spelled)
started nodes places (node.Forms l) leaf-is s =
    stacked (nodes ++ node.Forms l ∷ []) (places ++ length nodes ∷ []) (leaf l ∷ standing nodes)
    (standing-more nodes (node.Forms l)) (ap (λ ns. ns ++ node.Forms l ∷ []) s.spelled)
    (ap₂ (λ ps ns. ps ++ length ns ∷ []) s.begin s.spelled)
started nodes places (node.Branch test n) leaf-is s = absurd leaf-is
started nodes places (node.Bind form divisor) leaf-is s = absurd leaf-is

-- a stack by its top
with_top : (stack : List Tree) → 1 ≤ length stack → (t : Tree) × (rest : List Tree) × (stack ≡ t ∷ rest)
with_top [] h = absurd (omega arith)
with_top (t ∷ rest) h = (t, rest, refl)

-- the place of the tree on top, and the places below it
last_place : (stack : List Tree) (t : Tree) (places : List ℕ) (d : ℕ) → places ≡ starts (t ∷ stack)
    → (get_or places (length places - 1) d ≡ length (laid stack)) × (take (length places - 1) places ≡ starts stack)
last_place stack t places d e =
    let size : length places - 1 ≡ length (starts stack) = rw e (simp length-append (omega arith)) in
    rw (size, e) (
      get_or-append_seam (starts stack) (length (laid stack)) [] d,
      take-append_seam (starts stack)
          (length (laid stack) ∷ []),
    )

-- what a branch of n nodes on its second side makes of the stack
pub record Joins (nodes : List Node) (places : List ℕ) (test : Affine) (d : ℕ) : Type 0 where
  pub inside : get_or places (length places - 1) d ≤ length nodes
  pub stack : IsStack (nodes ++ node.Branch test (length nodes - get_or places (length places - 1) d) ∷ [])
      (take (length places - 1) places)

pub joins : (nodes : List Node) (places : List ℕ) (test : Affine) (d : ℕ) → IsStack nodes places
    → 2 ≤ length (standing nodes) → Joins nodes places test d
joins nodes places test d is h =
    let upper = with_top (standing nodes) (omega arith) in
    let lower = with_top upper.1 (let e = ap length upper.2 in omega arith) in
    by_stack upper.0 lower.0 lower.1 (upper.2 ∙ ap (λ (ts : List Tree). upper.0 ∷ ts) lower.2)
  where
    by_stack : (second first : Tree) (rest : List Tree) → standing nodes ≡ second ∷ first ∷ rest
        → Joins nodes places test d
    by_stack second first rest e =
        let spelled : nodes ≡ (laid rest ++ written first) ++ written second = is.spelled ∙ ap laid e in
        let last = last_place (first ∷ rest) second places d (is.begin ∙ ap starts e) in
        let size : length nodes ≡ length (laid rest ++ written first) + count second =
        ap length spelled ∙ length-append (laid rest ++ written first) (written second)
        ∙ ap (λ (n : ℕ). length (laid rest ++ written first) + n) (length-written second) in
        let n : length nodes - get_or places (length places - 1) d ≡ count second = rw last.0 (omega arith) in
        let x = node.Branch test (length nodes - get_or places (length places - 1) d) in
        let more : standing (nodes ++ x ∷ []) ≡ branch test first second ∷ rest =
        standing-more nodes x ∙ ap (λ (ts : List Tree). built ts x) e in
        record {
          inside = rw last.0 (omega arith);
          stack = stacked (nodes ++ x ∷ []) (take (length places - 1) places) (branch test first second ∷ rest) more
              (rw (n, spelled) (simp append_assoc)) last.1;
        }
