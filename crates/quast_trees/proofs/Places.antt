-- Where a subtree's nodes stand among a tree's, and where its own node is.
use Rattle.whole_numbers.proofs.Common.{◌≡◌, ℕ, ℤ, ◌+◌, ◌-◌, ◌<◌, ◌≤◌, List, [], ◌∷◌, ◌++◌, length, append-nil, get_or}
use Rattle.whole_numbers.proofs.Common.{take, refl, sym, ap, ◌∙◌, append_assoc, length-append, arith}
use Rattle.whole_numbers.proofs.Common.{get_or-append_seam, take-append_seam, Affine}
use Rattle.quast_trees.specs.Tree.{Tree, initial, leaf, branch, bind, count}
use Rattle.quast_trees.specs.Postfix.{written, top, standing}
use Rattle.quast_trees.specs.Place.{IsAt, subtree, place_in}
use Rattle.quast_trees.specs.declared.node.Node.{Node}
use Rattle.quast_trees.specs.declared.node.Node.TheVariants as node
use Rattle.quast_trees.proofs.WrittenNodes.{length-written, fold-append, read-written}

-- a tree's own node
abbrev pub root : Tree → Node
root initial = node.Initial
root (leaf s) = node.Forms s
root (branch test first second) = node.Branch test (count second)
root (bind form divisor body) = node.Bind form divisor

-- the nodes of its sides
abbrev pub sides : Tree → List Node
sides initial = []
sides (leaf s) = []
sides (branch test first second) = written first ++ written second
sides (bind form divisor body) = written body

-- a tree's nodes end with its own
pub written_root : (t : Tree) → written t ≡ sides t ++ root t ∷ []
written_root initial = refl
written_root (leaf s) = refl
written_root (branch test first second) = refl
written_root (bind form divisor body) = refl

-- a tree has nodes
pub count_positive : (t : Tree) → 1 ≤ count t
count_positive initial = omega arith
count_positive (leaf s) = omega arith
count_positive (branch test first second) = omega arith
count_positive (bind form divisor body) = omega arith

-- a tree alone
pub at_end : (t : Tree) (nodes : List Node) → nodes ≡ written t → IsAt nodes (length nodes - 1) t
at_end t nodes e =
    let l : length nodes ≡ count t = ap length e ∙ length-written t in
    let p = count_positive t in
    record { front = []; back = []; split = e ∙ sym (append-nil (written t)); ends = omega arith }

-- the place is within the nodes
pub within : (nodes : List Node) (place : ℕ) (t : Tree) → IsAt nodes place t → place < length nodes
within nodes place t i =
    let l : length nodes ≡ (length i.front + count t) + length i.back =
    ap length i.split ∙ simp (length-append, length-written) in
    let e = i.ends in
    omega arith

-- the node at the place is the tree's own
pub root_at : (nodes : List Node) (place : ℕ) (t : Tree) (d : Node) → IsAt nodes place t
    → get_or nodes place d ≡ root t
root_at nodes place t d i =
    let e : nodes ≡ (i.front ++ sides t) ++ root t ∷ i.back = i.split ∙ rw (written_root t) (simp append_assoc) in
    let c : count t ≡ length (sides t) + 1 = sym (length-written t) ∙ ap length (written_root t)
    ∙ length-append (sides t) (root t ∷ []) in
    let l : place ≡ length (i.front ++ sides t) = simp length-append (let ends = i.ends in omega arith) in
    rw (e, l) (get_or-append_seam (i.front ++ sides t) (root t) i.back d)

-- from a bind to its body
pub at_body : (nodes : List Node) (place : ℕ) (f : Affine) (divisor : ℤ) (body : Tree)
    → IsAt nodes place (bind f divisor body) → IsAt nodes (place - 1) body
at_body nodes place f divisor body i =
    let e = i.ends in
    let p = count_positive body in
    record {
      front = i.front;
      back = node.Bind f divisor ∷ i.back;
      split = i.split ∙ simp append_assoc;
      ends = omega arith;
    }

-- from a branch to its second side
pub at_second : (nodes : List Node) (place : ℕ) (f : Affine) (first second : Tree)
    → IsAt nodes place (branch f first second) → IsAt nodes (place - 1) second
at_second nodes place f first second i =
    let e = i.ends in
    let p = count_positive second in
    record {
      front = i.front ++ written first;
      back = node.Branch f (count second) ∷ i.back;
      split = i.split ∙ simp append_assoc;
      ends = simp (length-append, length-written) (omega arith);
    }

-- from a branch to its first side
pub at_first : (nodes : List Node) (place : ℕ) (f : Affine) (first second : Tree)
    → IsAt nodes place (branch f first second) → IsAt nodes (place - (count second + 1)) first
at_first nodes place f first second i =
    let e = i.ends in
    let p = count_positive first in
    record {
      front = i.front;
      back = written second ++ node.Branch f (count second) ∷ i.back;
      split = i.split ∙ simp append_assoc;
      ends = omega arith;
    }

-- what is read up to a tree's own node leaves the tree on top
pub subtree-is : (nodes : List Node) (place : ℕ) (t : Tree) → IsAt nodes place t
    → subtree (place_in nodes place) ≡ t
subtree-is nodes place t i =
    let size : place + 1 ≡ length (i.front ++ written t) = i.ends ∙ simp (length-append, length-written) refl in
    let e : take (place + 1) nodes ≡ i.front ++ written t =
    ap (λ (xs : List Node). take (place + 1) xs) i.split
    ∙ ap (λ (n : ℕ). take n ((i.front ++ written t) ++ i.back)) size
    ∙ take-append_seam (i.front ++ written t) i.back in
    ap (λ (xs : List Node). top (standing xs)) e
    ∙ ap top (fold-append [] i.front (written t) ∙ read-written t (standing i.front))
