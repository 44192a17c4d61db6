-- The stack of formulas reads a tree's nodes as the tree's formula (`formula-of-written`); how many tokens a tree has.
use Rattle.scop_syntax.proofs.Common.{◌≡◌, ℕ, zero, suc, ◌+◌, ◌<◌, ◌≤◌, List, [], ◌∷◌, ◌++◌, length, drop, fold, get_or}
use Rattle.scop_syntax.proofs.Common.{refl, ap, sym, ◌∙◌, arith, append_assoc, length-append, add-one, drop-cons, ⊤}
use Rattle.std.proofs.lemmas.List.{append-nil}
use Rattle.scop_expressions.specs.Tree.{Tree, constant, name, group, index, bare_call, call, unary, cast, binary}
use Rattle.scop_expressions.specs.Tree.{written, size}
use Rattle.scop_expressions.specs.Op.{Op}
use Rattle.scop_expressions.specs.declared.token.Sign.{Sign}
use Rattle.scop_expressions.specs.Width.{Width}
use Rattle.scop_expressions.specs.declared.node.Node.{Node}
use Rattle.scop_expressions.specs.declared.node.Node.TheVariants as node
use Rattle.scop_roles.specs.Formula as f
use Rattle.scop_roles.specs.Formula.{Formula, Lookup, formula}
use Rattle.scop_roles.specs.Resolving.{built, top, formula_of_nodes, place_of}

-- the nodes of a tree at a place leave its formula on the stack
fold-written : (look : Lookup) (first at p : ℕ) (t : Tree) (stack : List Formula) (rest : List Node) → first + at ≡ p
    → fold (built look first) stack (written at t ++ rest) ≡ fold (built look first) (formula look p t ∷ stack) rest
fold-written look first at p (constant s) stack rest e = rw e refl
fold-written look first at p name stack rest e = rw e refl
fold-written look first at p (group t) stack rest e =
    fold-written look first (at + 1) (p + 1) t stack rest (omega (arith, e))
fold-written look first at p (index t i) stack rest e =
    let x = node.Index (at + size t) in
    let q = p + size t + 1 in
    let flat : written at (index t i) ++ rest ≡ written at t ++ (written (at + size t + 1) i ++ x ∷ rest) =
    simp append_assoc refl in
    ap (fold (built look first) stack) flat
    ∙ (fold-written look first at p t stack (written (at + size t + 1) i ++ x ∷ rest) e
    ∙ fold-written look first (at + size t + 1) q i (formula look p t ∷ stack) (x ∷ rest) (omega (arith, e)))
fold-written look first at p bare_call stack rest e = rw e refl
fold-written look first at p (call t) stack rest e =
    let x = node.Call (at + 1) in
    let flat : written at (call t) ++ rest ≡ node.Name at ∷ (written (at + 1 + 1) t ++ x ∷ rest) =
    simp append_assoc refl in
    let n = f.name (look.meaning p) p in
    ap (fold (built look first) stack) flat
    ∙ (ap (λ (q : ℕ). fold (built look first) (f.name (look.meaning q) q ∷ stack)
    (written (at + 1 + 1) t ++ x ∷ rest)) e
    ∙ fold-written look first (at + 1 + 1) (p + 1 + 1) t (n ∷ stack) (x ∷ rest) (omega (arith, e)))
fold-written look first at p (unary s t) stack rest e =
    let x = node.Unary s at in
    let flat : written at (unary s t) ++ rest ≡ written (at + 1) t ++ x ∷ rest = simp append_assoc refl in
    ap (fold (built look first) stack) flat
    ∙ (fold-written look first (at + 1) (p + 1) t stack (x ∷ rest) (omega (arith, e)) ∙ rw e refl)
fold-written look first at p (cast w t) stack rest e =
    let x = node.Cast w at in
    let flat : written at (cast w t) ++ rest ≡ written (at + 1 + 1 + 1) t ++ x ∷ rest = simp append_assoc refl in
    ap (fold (built look first) stack) flat
    ∙ (fold-written look first (at + 1 + 1 + 1) (p + 1 + 1 + 1) t stack (x ∷ rest) (omega (arith, e)) ∙ rw e refl)
fold-written look first at p (binary o l r) stack rest e =
    let x = node.Binary o (at + size l) in
    let q = p + size l + 1 in
    let flat : written at (binary o l r) ++ rest ≡ written at l ++ (written (at + size l + 1) r ++ x ∷ rest) =
    simp append_assoc refl in
    let place : first + (at + size l) ≡ p + size l = omega (arith, e) in
    ap (fold (built look first) stack) flat
    ∙ (fold-written look first at p l stack (written (at + size l + 1) r ++ x ∷ rest) e
    ∙ (fold-written look first (at + size l + 1) q r (formula look p l ∷ stack) (x ∷ rest) (omega (arith, e))
    ∙ rw place refl))

-- the nodes of a tree make its formula
pub formula-of-written : (look : Lookup) (first : ℕ) (t : Tree)
    → formula_of_nodes look first (written 0 t) ≡ formula look first t
formula-of-written look first t =
    ap (λ (ns : List Node). top (fold (built look first) [] ns)) (sym (append-nil (written 0 t)))
    ∙ ap top (fold-written look first 0 first t [] [] (omega arith))

-- one node more was read
pub read_next : (look : Lookup) (first : ℕ) (old new all : List Formula) (nodes : List Node) (i : ℕ) (d : Node)
    → i < length nodes → new ≡ built look first old (get_or nodes i d)
    → fold (built look first) old (drop i nodes) ≡ all → fold (built look first) new (drop (i + 1) nodes) ≡ all
read_next look first old new all nodes i d less new_is so_far =
    let rest = drop (i + 1) nodes in
    let here : drop i nodes ≡ get_or nodes i d ∷ rest = rw (add-one, drop-cons nodes i d) refl in
    ap (λ fs. fold (built look first) fs rest) new_is ∙ ap (λ xs. fold (built look first) old xs) (sym here) ∙ so_far

-- nodes whose places lie below an end
abbrev pub AreBelow : ℕ → List Node → Type 0
AreBelow end [] = ⊤
AreBelow end (n ∷ ns) = (place_of n < end) × AreBelow end ns

below-append : (end : ℕ) (xs ys : List Node) → AreBelow end xs → AreBelow end ys → AreBelow end (xs ++ ys)
below-append end [] ys h g = g
below-append end (x ∷ xs) ys h g = (h.0, below-append end xs ys h.1 g)

pub place_below : (end : ℕ) (ns : List Node) (i : ℕ) (d : Node) → AreBelow end ns → i < length ns
    → place_of (get_or ns i d) < end
place_below end [] i d h less = absurd (omega arith)
place_below end (n ∷ ns) zero d h less = h.0
place_below end (n ∷ ns) (suc i) d h less = place_below end ns i d h.1 (omega arith)

pub size_group : (t : Tree) → size (group t) ≡ size t + 2
size_group t = simp length-append (omega arith)

pub size_index : (t i : Tree) → size (index t i) ≡ size t + (size i + 2)
size_index t i = simp length-append (omega arith)

pub size_call : (t : Tree) → size (call t) ≡ size t + 3
size_call t = simp length-append (omega arith)

pub size_unary : (s : Sign) (t : Tree) → size (unary s t) ≡ size t + 1
size_unary s t = omega arith

pub size_cast : (w : Width) (t : Tree) → size (cast w t) ≡ size t + 3
size_cast w t = omega arith

pub size_binary : (o : Op) (a b : Tree) → size (binary o a b) ≡ size a + (size b + 1)
size_binary o a b = simp length-append (omega arith)

-- places of nodes lie below the end of their tree
pub places_below : (at end : ℕ) (t : Tree) → at + size t ≤ end → AreBelow end (written at t)
places_below at end (constant c) h = (omega arith, tt)
places_below at end name h = (omega arith, tt)
places_below at end (group t) h =
    let s = size_group t in
    places_below (at + 1) end t (omega arith)
places_below at end (index t i) h =
    let s = size_index t i in
    below-append end (written at t) (written (at + size t + 1) i ++ node.Index (at + size t) ∷ [])
    (places_below at end t (omega arith))
    (below-append end (written (at + size t + 1) i) (node.Index (at + size t) ∷ [])
    (places_below (at + size t + 1) end i (omega arith)) (omega arith, tt))
places_below at end bare_call h = (omega arith, (omega arith, tt))
places_below at end (call t) h =
    let s = size_call t in (
      omega arith,
      below-append end (written (at + 1 + 1) t) (node.Call (at + 1) ∷ [])
          (places_below (at + 1 + 1) end t (omega arith)) (omega arith, tt),
    )
places_below at end (unary s t) h =
    let e = size_unary s t in
    below-append end (written (at + 1) t) (node.Unary s at ∷ []) (places_below (at + 1) end t (omega arith))
    (omega arith, tt)
places_below at end (cast w t) h =
    let e = size_cast w t in
    below-append end (written (at + 1 + 1 + 1) t) (node.Cast w at ∷ [])
    (places_below (at + 1 + 1 + 1) end t (omega arith))
    (omega arith, tt)
places_below at end (binary o a b) h =
    let s = size_binary o a b in
    below-append end (written at a) (written (at + size a + 1) b ++ node.Binary o (at + size a) ∷ [])
    (places_below at end a (omega arith))
    (below-append end (written (at + size a + 1) b) (node.Binary o (at + size a) ∷ [])
    (places_below (at + size a + 1) end b (omega arith)) (omega arith, tt))
