-- What makes a tree visit exactly the points of a predicate, node by node.
use Rattle.std.specs.Prelude.{◌≡◌, ℕ, zero, suc, true, ℤ, pos, ◌<ℤ◌, List, [], ◌∷◌, ◌++◌, length, ◌⊎◌, ⊤}
use Rattle.loop_tree.specs.Tree.{Tree, loop, guard, instance, Trees, none, more}
use Rattle.loop_tree.specs.Walk.{all_hold}
use Rattle.loop_tree.specs.Scans.{Within}

abbrev mutual
  -- x may be the first entry of a key of the tree's visits
  pub Spans : Tree → List ℤ → List ℤ → ℤ → Type 0
  Spans (loop flag lo up body) params outer x = Within lo up (outer ++ params) x
  Spans (guard tests body) params outer x = (all_hold tests (outer ++ params) ≡ true) × SpansAll body params outer x
  Spans (instance n forms) params outer x = x ≡ pos n

  -- or of trees, one after another
  pub SpansAll : Trees → List ℤ → List ℤ → ℤ → Type 0
  SpansAll none params outer x = ⊥
  SpansAll (more t ts) params outer x = Spans t params outer x ⊎ SpansAll ts params outer x

-- the sequence leaves out no first entry of a key
abbrev pub Covers : (List ℤ → Type 0) → Trees → List ℤ → List ℤ → Type 0
Covers P ts params outer = (x : ℤ) (r : List ℤ) → P (x ∷ r) → SpansAll ts params outer x

-- the tree has k loops round each instance; P tells the keys (k values, then a statement) that are to be visited
abbrev mutual
  -- at a loop's value the body leaves out none; an instance belongs to P
  pub Scans : ℕ → (List ℤ → Type 0) → Tree → List ℤ → List ℤ → Type 0
  Scans zero P (loop flag lo up body) params outer = ⊥
  Scans (suc k) P (loop flag lo up body) params outer =
      (x : ℤ) → Within lo up (outer ++ params) x
      → Covers (λ r. P (x ∷ r)) body params (outer ++ x ∷ [])
      × ScansAll k (λ r. P (x ∷ r)) body params (outer ++ x ∷ [])
  Scans k P (guard tests body) params outer =
      all_hold tests (outer ++ params) ≡ true → ScansAll k P body params outer
  Scans zero P (instance n forms) params outer = P (pos n ∷ [])
  Scans (suc k) P (instance n forms) params outer = ⊥

  -- what stands first in a sequence has the less values
  pub ScansAll : ℕ → (List ℤ → Type 0) → Trees → List ℤ → List ℤ → Type 0
  ScansAll k P none params outer = ⊤
  ScansAll k P (more t ts) params outer =
      Scans k P t params outer × ScansAll k P ts params outer
      × ((x y : ℤ) → Spans t params outer x → SpansAll ts params outer y → x <ℤ y)

-- each key has k values and a statement
abbrev pub AreKeys : ℕ → (List ℤ → Type 0) → Type 0
AreKeys k P = (r : List ℤ) → P r → length r ≡ suc k
