-- What holds of each leaf of two trees, and of a leaf whose variables are moved, holds of each leaf of their join.
use Rattle.quast_joins.proofs.Common.{ℕ, suc, Bool, true, false, List, [], ◌∷◌, nat_eq, if◌then◌else◌, Affine, Forms}
use Rattle.quast_joins.proofs.Common.{Tree, initial, leaf, branch, bind, statement_of, loops_of, text, shifted_leaf}
use Rattle.quast_joins.proofs.Common.{widened, test_of, last_leaf, chain, meet, under, moved, join_from, join}
use Rattle.quast_joins.specs.declared.way.Way.{Way}
use Rattle.quast_joins.specs.Leaves.{LeavesAre}

module _ (P : Forms → Type 0) (shifts : (n k : ℕ) (l : Forms) → P l → P (shifted_leaf n k l)) (way : Way) where
  -- a choice of two trees
  either : (b : Bool) (x y : Tree) → LeavesAre P x → LeavesAre P y → LeavesAre P (if b then x else y)
  either true x y h k = h
  either false x y h k = k

  -- the tests over the common loops
  chain_leaves : (a b end : Tree) (ks ls : List ℕ) (fs gs : List Affine) → LeavesAre P a → LeavesAre P b
      → LeavesAre P end → LeavesAre P (chain way a b end ks ls fs gs)
  chain_leaves a b end [] ls fs gs p q r = r
  chain_leaves a b end (i ∷ ks) [] fs gs p q r = r
  chain_leaves a b end (i ∷ ks) (l ∷ ls) [] gs p q r = r
  chain_leaves a b end (i ∷ ks) (l ∷ ls) (f ∷ fs) [] p q r = r
  chain_leaves a b end (i ∷ ks) (l ∷ ls) (f ∷ fs) (g ∷ gs) p q r =
      either (nat_eq i l) (branch (test_of way f g) a (branch (test_of way g f) b (chain way a b end ks ls fs gs))) end
      (p, (q, chain_leaves a b end ks ls fs gs p q r)) r

  -- where two leaves meet
  meet_leaves : (a b : Forms) → P a → P b → LeavesAre P (meet way a b)
  meet_leaves a b p q =
      chain_leaves (leaf a) (leaf b) (last_leaf way a b) (loops_of a.source) (loops_of b.source) a.forms b.forms p q
      (either (text way (statement_of a.source) (statement_of b.source)) (leaf a) (leaf b) p q)

  -- a tree under a leaf
  under_leaves : (n k : ℕ) (a : Forms) (j : ℕ) (b : Tree) → P a → LeavesAre P b → LeavesAre P (under way n k a j b)
  under_leaves n k a j initial h s = shifts a.variables j a h
  under_leaves n k a j (leaf b) h s =
      meet_leaves (widened j a) (shifted_leaf n k b) (shifts a.variables j a h) (shifts n k b s)
  under_leaves n k a j (branch f x y) h s = (under_leaves n k a j x h s.0, under_leaves n k a j y h s.1)
  under_leaves n k a j (bind f d x) h s = under_leaves n k a (suc j) x h s

  -- a tree under the initial value
  moved_leaves : (n k : ℕ) (b : Tree) → LeavesAre P b → LeavesAre P (moved n k b)
  moved_leaves n k initial s = tt
  moved_leaves n k (leaf b) s = shifts n k b s
  moved_leaves n k (branch f x y) s = (moved_leaves n k x s.0, moved_leaves n k y s.1)
  moved_leaves n k (bind f d x) s = moved_leaves n k x s

  -- the join where parameters are bound already
  from_leaves : (n k : ℕ) (a b : Tree) → LeavesAre P a → LeavesAre P b → LeavesAre P (join_from way n k a b)
  from_leaves n k initial b h s = moved_leaves n k b s
  from_leaves n k (leaf a) b h s = under_leaves n k a 0 b h s
  from_leaves n k (branch f x y) b h s = (from_leaves n k x b h.0 s, from_leaves n k y b h.1 s)
  from_leaves n k (bind f d x) b h s = from_leaves n (suc k) x b h s

  -- the join
  pub join_leaves : (n : ℕ) (a b : Tree) → LeavesAre P a → LeavesAre P b → LeavesAre P (join way n a b)
  join_leaves n a b h s = from_leaves n 0 a b h s
