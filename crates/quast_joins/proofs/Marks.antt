-- The nodes of a quast with the numbers of binds round them, as the code goes over them.
use Rattle.quast_joins.proofs.Common.{◌≡◌, ℕ, zero, suc, ◌+◌, ◌<◌, ◌≤◌, ℤ, pos, List, [], ◌∷◌, length, drop, refl, sym}
use Rattle.quast_joins.proofs.Common.{ap, ap₂, subst, ◌∙◌, arith, ◌≤ℤ◌, get_or, length-map, ints, Forms, Tree, leaf}
use Rattle.quast_joins.proofs.Common.{Speaks, written, shifted_leaf, widened, LeavesWithin, leaf_limit, Placed_node, at}
use Rattle.quast_joins.proofs.Common.{pairs, paired, depths, steps, Enough, FitsAt, AllFit}
use Rattle.whole_numbers.proofs.Common.{drop_all}
use Rattle.quast_trees.specs.declared.node.Node.{Node}
use Rattle.quast_joins.specs.Steps.{Takes, IsMarked}
use Rattle.quast_joins.proofs.Variables.{shifted-speaks, widened-speaks}
use Rattle.quast_joins.proofs.Sizes.{forms_shifted}
use Rattle.quast_joins.proofs.Steps.{Step, Builds, paired_fit, paired_nodes, paired_depths, pairs_are}
use Rattle.quast_trees.specs.declared.node.Node.TheVariants as node

limit_up : pos 0 ≤ℤ leaf_limit
limit_up = omega (arith, ints)

-- a leaf that speaks of m variables, by itself
fits_alone : (m : ℕ) (l : Forms) → Speaks m (leaf l) → LeavesWithin leaf_limit (leaf l)
    → FitsAt leaf_limit l.variables (node.Forms l) 0
fits_alone m l s w =
    let same = s.0 in
    let e : m ≡ l.variables + 0 = omega arith in
    let t = subst (λ (i : ℕ). Speaks i (leaf l)) e s in
    (t.0, t.1, w)

-- a leaf over more variables
pub widened_fits : (n k j : ℕ) (l : Forms) → FitsAt leaf_limit n (node.Forms l) k
    → FitsAt leaf_limit (widened j l).variables (node.Forms (widened j l)) 0
widened_fits n k j l s =
    fits_alone ((n + k) + j) (widened j l) (widened-speaks (n + k) j l (s.0, s.1))
    (forms_shifted leaf_limit l.variables j l.forms limit_up s.2)

-- a moved leaf
pub shifted_fits : (n k j : ℕ) (l : Forms) → FitsAt leaf_limit n (node.Forms l) j
    → FitsAt leaf_limit (shifted_leaf n k l).variables (node.Forms (shifted_leaf n k l)) 0
shifted_fits n k j l s =
    fits_alone ((n + k) + j) (shifted_leaf n k l) (shifted-speaks n k j l (s.0, s.1))
    (forms_shifted leaf_limit n k l.forms limit_up s.2)

-- the pair at a place, and those behind it
pairs_at : (xs : List Node) (ks : List ℕ) (i : ℕ) (x : Node) → i < length xs → length ks ≡ length xs
    → x ≡ get_or xs i x → drop i (pairs xs ks) ≡ at (get_or ks i 0) x ∷ drop (i + 1) (pairs xs ks)
pairs_at [] ks i x h l p = absurd (omega arith)
pairs_at (y ∷ xs) [] i x h l p = absurd (omega arith)
pairs_at (y ∷ xs) (m ∷ ks) zero x h l p = ap (λ (z : Node). at m z ∷ pairs xs ks) (sym p)
pairs_at (y ∷ xs) (m ∷ ks) (suc i) x h l p =
    let e : suc i + 1 ≡ suc (i + 1) = omega arith in
    pairs_at xs ks i x (omega arith) (omega arith) p
    ∙ ap (λ (a : ℕ). at (get_or ks i 0) x ∷ drop a (at m y ∷ pairs xs ks)) (sym e)

-- as many pairs as nodes
length-pairs : (xs : List Node) (ks : List ℕ) → length ks ≡ length xs → length (pairs xs ks) ≡ length xs
length-pairs [] ks l = refl
length-pairs (x ∷ xs) [] l = absurd (omega arith)
length-pairs (x ∷ xs) (k ∷ ks) l = ap suc (length-pairs xs ks (omega arith))

-- what all do, the one at a place does
fits_at : (bound : ℤ) (n i : ℕ) (xs : List Placed_node) (x : Placed_node) (rest : List Placed_node)
    → AllFit bound n xs → drop i xs ≡ x ∷ rest → FitsAt bound n x.node x.binds
fits_at bound n i [] x rest s e = no_first i e
  where
    no_first : (i : ℕ) → drop i [] ≡ x ∷ rest → FitsAt bound n x.node x.binds
    no_first zero e = absurd cc
    no_first (suc i) e = absurd cc
fits_at bound n zero (y ∷ xs) x rest s e =
    let same : y ≡ x = cc in subst (λ (z : Placed_node). FitsAt bound n z.node z.binds) same s.0
fits_at bound n (suc i) (y ∷ xs) x rest s e = fits_at bound n i xs x rest s.1 e

-- each node with its number speaks of the variables at its place
marked_fit : (n : ℕ) (xs : List Node) (ks : List ℕ) → IsMarked leaf_limit n xs ks
    → AllFit leaf_limit n (pairs xs ks)
marked_fit n xs ks m =
    let e : n ≡ n + 0 = omega arith in
    subst (AllFit leaf_limit n) (sym m.paired_is)
    (paired_fit leaf_limit n 0 m.tree (subst (λ (i : ℕ). Speaks i m.tree) e m.speaks) m.small)

-- how far the steps have come
pub record Stepped (step : Step) (all : List Placed_node) (start : List Tree) (i : ℕ) (now : List Tree)
    : Type 0 where
  pub rest : steps step now (drop i all) ≡ steps step start all
  pub enough : Enough step now (drop i all)

-- before the first step
pub begun : (step : Step) (n : ℕ) (xs : List Node) (ks : List ℕ) (start : List Tree) (t : Tree)
    (m : IsMarked leaf_limit n xs ks) → Builds step (paired 0 m.tree) t → Stepped step (pairs xs ks) start 0 start
begun step n xs ks start t m builds =
    record { rest = refl; enough = subst (Enough step start) (sym m.paired_is) (builds.enough start) }

-- one step, for the node at a place
pub record Step_at (step : Step) (n : ℕ) (all : List Placed_node) (start : List Tree) (i : ℕ) (now : List Tree)
    (k : ℕ) (x : Node) : Type 0 where
  pub takes : Takes x now
  pub fits : FitsAt leaf_limit n x k
  pub next : (new : List Tree) → new ≡ step now (at k x) → Stepped step all start (i + 1) new

pub step_at : (step : Step) (n : ℕ) (xs : List Node) (ks : List ℕ) (start : List Tree) (i : ℕ) (now : List Tree)
    (x : Node) → IsMarked leaf_limit n xs ks → i < length xs → x ≡ get_or xs i x
    → Stepped step (pairs xs ks) start i now → Step_at step n (pairs xs ks) start i now (get_or ks i 0) x
step_at step n xs ks start i now x m inside p s =
    let all = pairs xs ks in
    let rest = drop (i + 1) all in
    let e = pairs_at xs ks i x inside m.size p in
    let enough = subst (Enough step now) e s.enough in
    record {
      takes = enough.0;
      fits = fits_at leaf_limit n i all (at (get_or ks i 0) x) rest (marked_fit n xs ks m) e;
      next = λ new is. record {
        rest = ap (λ (z : List Tree). steps step z rest) is ∙ (ap (steps step now) (sym e) ∙ s.rest);
        enough = subst (λ (z : List Tree). Enough step z rest) (sym is) enough.1;
      };
    }

-- behind the last step
pub ended : (step : Step) (n : ℕ) (xs : List Node) (ks : List ℕ) (start : List Tree) (i : ℕ) (now : List Tree)
    → IsMarked leaf_limit n xs ks → length xs ≤ i → Stepped step (pairs xs ks) start i now
    → now ≡ steps step start (pairs xs ks)
ended step n xs ks start i now m past s =
    let l = length-pairs xs ks m.size in
    let none : drop i (pairs xs ks) ≡ [] = drop_all i (pairs xs ks) (omega arith) in
    ap (steps step now) (sym none) ∙ s.rest

-- as many numbers as nodes
length-depths : (k : ℕ) (t : Tree) → length (depths k t) ≡ length (written t)
length-depths k t =
    sym (ap length (paired_depths k t)) ∙ (length-map (paired k t) (λ (x : Placed_node). x.binds)
    ∙ (sym (length-map (paired k t) (λ (x : Placed_node). x.node)) ∙ ap length (paired_nodes k t)))

-- a quast's nodes with the numbers of binds round them
pub marked_of : (n m : ℕ) (t : Tree) (xs : List Node) (ks : List ℕ) → xs ≡ written t → ks ≡ depths 0 t → Speaks m t
    → m ≡ n → LeavesWithin leaf_limit t → IsMarked leaf_limit n xs ks
marked_of n m t xs ks p q s e w = record {
  size = ap length q ∙ (length-depths 0 t ∙ ap length (sym p));
  tree = t;
  paired_is = ap₂ pairs p q ∙ pairs_are 0 t;
  speaks = subst (λ (i : ℕ). Speaks i t) e s;
  small = w;
}

-- each of them with its number
pub pairs_written : (t : Tree) (xs : List Node) (ks : List ℕ) → xs ≡ written t → ks ≡ depths 0 t
    → pairs xs ks ≡ paired 0 t
pairs_written t xs ks p q = ap₂ pairs p q ∙ pairs_are 0 t
