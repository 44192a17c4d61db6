-- Trees that a text can have are formed: divisors are at least 1, forms have an entry for each name, and instances are of
-- statements.
use Rattle.scop_syntax.proofs.Common.{◌≡◌, ◌+◌, ℕ, suc, ℤ, pos, negsuc, ◌<ℤ◌, List, [], ◌∷◌, ◌++◌, length, arith, ints}
use Rattle.scop_syntax.proofs.Common.{Affine, Program}
use Rattle.std.proofs.lemmas.List.{length-append}
use Rattle.loop_tree.specs.Fits.{form_in}
use Rattle.loop_tree.specs.Marks.{AreBounds, IsTest, AreTests, Flat, FlatAll}
use Rattle.loop_tree.specs.Tree.{Bounds, only, besides, Test, at_least, equal, multiple, Tree, loop, guard, instance}
use Rattle.loop_tree.specs.Tree.{Trees, none, more}
use Rattle.c_printer.specs.Printable as printable
use Rattle.c_meaning.specs.steps.Law.{IsOver, BoundsAreOver, TestsAreOver, IsFormed, AreFormed}

divisor_positive : (d : ℤ) → printable.IsDivisor d → pos 0 <ℤ d
divisor_positive (pos m) h = let l = h.0 in omega (arith, ints)
divisor_positive (negsuc m) h = absurd h

flat_bounds : (m k : ℕ) (bs : Bounds) → printable.AreBounds m k bs → AreBounds bs
flat_bounds m k (only b) h = divisor_positive b.divisor h.1
flat_bounds m k (besides b bs) h = (divisor_positive b.divisor h.0.1, flat_bounds m k bs h.1)

flat_test : (m k : ℕ) (test : Test) → printable.IsTest m k test → IsTest test
flat_test m k (at_least form) h = tt
flat_test m k (equal form) h = tt
flat_test m k (multiple form d) h = divisor_positive d h.1

flat_tests : (m k : ℕ) (tests : List Test) → printable.AreTests m k tests → AreTests tests
flat_tests m k [] h = tt
flat_tests m k (test ∷ tests) h = (flat_test m k test h.0, flat_tests m k tests h.1)

mutual
  flat_node : (program : Program) (k : ℕ) (t : Tree) → printable.IsNode program k t → Flat t
  flat_node program k (loop flag lo up body) h = (
    flat_bounds (length program.parameters) k lo h.1,
    flat_bounds (length program.parameters) k up h.2,
    flat_nodes program (suc k) body h.3,
  )
  flat_node program k (guard [] body) h = absurd h
  flat_node program k (guard (test ∷ tests) body) h =
      (flat_tests (length program.parameters) k (test ∷ tests) h.0, flat_nodes program k body h.1)
  flat_node program k (instance n turns) h = tt

  pub flat_nodes : (program : Program) (k : ℕ) (ts : Trees) → printable.AreNodes program k ts → FlatAll ts
  flat_nodes program k none h = tt
  flat_nodes program k (more t ts) h = (flat_node program k t h.0, flat_nodes program k ts h.1)

-- how many names there are
abbrev pub Counts : ℕ → ℕ → List ℤ → List ℤ → Type 0
Counts m k params outer = (m ≡ length params) × (k ≡ length outer)

over : (m k : ℕ) (params outer : List ℤ) (form : Affine) → Counts m k params outer → printable.IsTreeForm m k form
    → IsOver params outer form
over m k params outer form (e, f) h = let l = h.entries in omega (arith, e, f, l)

bounds_over : (m k : ℕ) (params outer : List ℤ) (bs : Bounds) → Counts m k params outer → printable.AreBounds m k bs
    → BoundsAreOver params outer bs
bounds_over m k params outer (only b) c h = over m k params outer b.form c h.0
bounds_over m k params outer (besides b bs) c h =
    (over m k params outer b.form c h.0.0, bounds_over m k params outer bs c h.1)

test_over : (m k : ℕ) (params outer : List ℤ) (test : Test) → Counts m k params outer → printable.IsTest m k test
    → IsOver params outer (form_in test)
test_over m k params outer (at_least form) c h = over m k params outer form c h
test_over m k params outer (equal form) c h = over m k params outer form c h
test_over m k params outer (multiple form d) c h = over m k params outer form c h.0

tests_over : (m k : ℕ) (params outer : List ℤ) (tests : List Test) → Counts m k params outer
    → printable.AreTests m k tests → TestsAreOver params outer tests
tests_over m k params outer [] c h = tt
tests_over m k params outer (test ∷ tests) c h =
    (test_over m k params outer test c h.0, tests_over m k params outer tests c h.1)

pub within_count : (k : ℕ) (outer : List ℤ) (x : ℤ) → k ≡ length outer → suc k ≡ length (outer ++ x ∷ [])
within_count k outer x e = let l = length-append outer (x ∷ []) in omega (arith, e, l)

mutual
  formed : (program : Program) (k : ℕ) (t : Tree) (params outer : List ℤ)
      → Counts (length program.parameters) k params outer → printable.IsNode program k t
      → IsFormed program t params outer
  formed program k (loop flag lo up body) params outer c h = (
    bounds_over (length program.parameters) k params outer lo c h.1,
    bounds_over (length program.parameters) k params outer up c h.2,
    λ x. formed_all program (suc k) body params (outer ++ x ∷ []) (c.0, within_count k outer x c.1) h.3,
  )
  formed program k (guard [] body) params outer c h = absurd h
  formed program k (guard (test ∷ tests) body) params outer c h = (
    tests_over (length program.parameters) k params outer (test ∷ tests) c h.0,
    formed_all program k body params outer c h.1,
  )
  formed program k (instance n turns) params outer c h = (h.standing, h.stands)

  pub formed_all : (program : Program) (k : ℕ) (ts : Trees) (params outer : List ℤ)
      → Counts (length program.parameters) k params outer → printable.AreNodes program k ts
      → AreFormed program ts params outer
  formed_all program k none params outer c h = tt
  formed_all program k (more t ts) params outer c h =
      (formed program k t params outer c h.0, formed_all program k ts params outer c h.1)
