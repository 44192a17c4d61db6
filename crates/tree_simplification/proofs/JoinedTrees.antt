-- Trees and others behind them.
use Rattle.tree_simplification.proofs.Common.{◌≡◌, ℕ, List, [], ◌∷◌, ◌++◌, ℤ, ap, sym, ◌∙◌, refl, Program, Instance}
use Rattle.tree_simplification.proofs.Common.{append_assoc, FitsAll, FlatAll, AreFree, AreSerial, NestAllTo, TreesAreOf}
use Rattle.tree_simplification.proofs.Common.{TreesAreOver, TreesAreUpTo, Trees, none, more, nodes_of, tree_of, Visit}
use Rattle.tree_simplification.proofs.Common.{walk, walk_all, joined}
use Rattle.loop_tree.specs.declared.tree.Node.{Node}

pub joined_none : (a : Trees) → joined a none ≡ a
joined_none none = refl
joined_none (more t a) = ap (λ (us : Trees). more t us) (joined_none a)

pub joined_assoc : (a b c : Trees) → joined (joined a b) c ≡ joined a (joined b c)
joined_assoc none b c = refl
joined_assoc (more t a) b c = ap (λ (us : Trees). more t us) (joined_assoc a b c)

pub nodes_joined : (ms ns : List Node) → nodes_of (ms ++ ns) ≡ joined (nodes_of ms) (nodes_of ns)
nodes_joined [] ns = refl
nodes_joined (m ∷ ms) ns = ap (λ (us : Trees). more (tree_of m) us) (nodes_joined ms ns)

pub walk_joined : (a b : Trees) (params outer : List ℤ)
    → walk_all (joined a b) params outer ≡ walk_all a params outer ++ walk_all b params outer
walk_joined none b params outer = refl
walk_joined (more t a) b params outer =
    ap (λ (vs : List Visit). walk t params outer ++ vs) (walk_joined a b params outer)
    ∙ sym (append_assoc (walk t params outer) (walk_all a params outer) (walk_all b params outer))

pub free_joined : (C : Instance → Instance → Type 0) (a b : Trees) (params outer : List ℤ)
    → AreFree C a params outer → AreFree C b params outer → AreFree C (joined a b) params outer
free_joined C none b params outer h k = k
free_joined C (more t a) b params outer h k = (h.0, free_joined C a b params outer h.1 k)

pub fits_joined : (a b : Trees) (params outer : List ℤ) → FitsAll a params outer → FitsAll b params outer
    → FitsAll (joined a b) params outer
fits_joined none b params outer h k = k
fits_joined (more t a) b params outer h k = (h.0, fits_joined a b params outer h.1 k)

pub serial_joined : (a b : Trees) → AreSerial a → AreSerial b → AreSerial (joined a b)
serial_joined none b h k = k
serial_joined (more t a) b h k = (h.0, serial_joined a b h.1 k)

pub flat_joined : (a b : Trees) → FlatAll a → FlatAll b → FlatAll (joined a b)
flat_joined none b h k = k
flat_joined (more t a) b h k = (h.0, flat_joined a b h.1 k)

pub of_joined : (program : Program) (a b : Trees) → TreesAreOf program a → TreesAreOf program b
    → TreesAreOf program (joined a b)
of_joined program none b h k = k
of_joined program (more t a) b h k = (h.0, of_joined program a b h.1 k)

pub over_joined : (n : ℕ) (a b : Trees) → TreesAreOver n a → TreesAreOver n b → TreesAreOver n (joined a b)
over_joined n none b h k = k
over_joined n (more t a) b h k = (h.0, over_joined n a b h.1 k)

pub small_joined : (n : ℕ) (a b : Trees) → TreesAreUpTo n a → TreesAreUpTo n b → TreesAreUpTo n (joined a b)
small_joined n none b h k = k
small_joined n (more t a) b h k = (h.0, small_joined n a b h.1 k)

pub nested_joined : (n : ℕ) (a b : Trees) → NestAllTo n a → NestAllTo n b → NestAllTo n (joined a b)
nested_joined n none b h k = k
nested_joined n (more t a) b h k = (h.0, nested_joined n a b h.1 k)
