-- Flat trees of a program's statements can be printed.
use Rattle.scop_syntax.proofs.Common.{◌≡◌, ◌∙◌, ap, sym, ℕ, zero, suc, ◌+◌, ◌^◌, ◌<◌, ◌≤◌, pos, List, [], ◌∷◌, length}
use Rattle.scop_syntax.proofs.Common.{All, arith, ℤ, negsuc, ◌<ℤ◌, unsigned_abs, ints, All-head, All-tail}
use Rattle.scop_syntax.proofs.Common.{slice_get-map, Affine, Placed, statements_of, Head, Program, Standing, standing}
use Rattle.scop_syntax.proofs.Common.{heads_in, as_many_heads}
use Rattle.std.specs.Prelude.{option_map}
use Rattle.loop_tree.specs.Fits.{form_in}
use Rattle.loop_tree.specs.Marks.{AreBounds as HaveDivisors, IsTest as HasDivisor, AreTests as TestsHaveDivisors}
use Rattle.loop_tree.specs.Marks.{Flat, FlatAll}
use Rattle.loop_tree.specs.Shape.{IsOver, BoundsAreOver, TreeIsOver, TreesAreOver, IsInstanceOf, TreeIsOf, TreesAreOf}
use Rattle.loop_tree.specs.Shape.{IsUpTo, BoundsAreUpTo, TestIsUpTo, TreeIsUpTo, TreesAreUpTo, NestsTo, NestAllTo}
use Rattle.loop_tree.specs.Tree.{Bounds, only, besides, Test, at_least, equal, multiple, Tree, loop, guard, instance}
use Rattle.loop_tree.specs.Tree.{Trees, none, more}
use Rattle.c_printer.specs.Printable.{IsTreeForm, IsDivisor, AreBounds, IsTest, AreTests, AreTurns, IsInstance, IsNode}
use Rattle.c_printer.specs.Printable.{AreNodes}
use Rattle.c_printer.proofs.FormsOver.{at_most_is_narrow, at_most_are_narrow}

-- forms, divisors, bounds and tests whose numbers lie within k, over m loops and parameters
form_printed : (parameters loops m k : ℕ) (f : Affine) → m ≡ loops + parameters → k < 2 ^ 63 → IsOver m f → IsUpTo k f
    → IsTreeForm parameters loops f
form_printed parameters loops m k f e low over up =
    record {
      entries = over ∙ e;
      narrow = rw (at_most_is_narrow f.constant k up.1 low) (at_most_are_narrow f.coefficients k up.0 low);
    }

divisor_printed : (k : ℕ) (d : ℤ) → k < 2 ^ 63 → pos 0 <ℤ d → unsigned_abs d ≤ k → IsDivisor d
divisor_printed k (pos m) low some up = (omega (arith, ints, some), omega (arith, up, low))
divisor_printed k (negsuc m) low some up = absurd (omega (arith, ints, some))

bounds_printed : (parameters loops m k : ℕ) (bs : Bounds) → m ≡ loops + parameters → k < 2 ^ 63 → HaveDivisors bs
    → BoundsAreOver m bs → BoundsAreUpTo k bs → AreBounds parameters loops bs
bounds_printed parameters loops m k (only b) e low d over up = (
  form_printed parameters loops m k b.form e low over up.0,
  divisor_printed k b.divisor low d up.1,
)
bounds_printed parameters loops m k (besides b bs) e low d over up = (
  (form_printed parameters loops m k b.form e low over.0 up.0.0, divisor_printed k b.divisor low d.0 up.0.1),
  bounds_printed parameters loops m k bs e low d.1 over.1 up.1,
)

test_printed : (parameters loops m k : ℕ) (test : Test) → m ≡ loops + parameters → k < 2 ^ 63 → HasDivisor test
    → IsOver m (form_in test) → TestIsUpTo k test → IsTest parameters loops test
test_printed parameters loops m k (at_least f) e low d over up = form_printed parameters loops m k f e low over up
test_printed parameters loops m k (equal f) e low d over up = form_printed parameters loops m k f e low over up
test_printed parameters loops m k (multiple f c) e low d over up =
    (form_printed parameters loops m k f e low over up.0, divisor_printed k c low d up.1)

tests_printed : (parameters loops m k : ℕ) (tests : List Test) → m ≡ loops + parameters → k < 2 ^ 63
    → TestsHaveDivisors tests → All (λ test. IsOver m (form_in test)) tests → All (TestIsUpTo k) tests
    → AreTests parameters loops tests
tests_printed parameters loops m k [] e low d over up = tt
tests_printed parameters loops m k (t ∷ ts) e low d over up = (
  test_printed parameters loops m k t e low d.0 (All-head (λ test. IsOver m (form_in test)) t ts over)
      (All-head (TestIsUpTo k) t ts up),
  tests_printed parameters loops m k ts e low d.1 (All-tail (λ test. IsOver m (form_in test)) t ts over)
      (All-tail (TestIsUpTo k) t ts up),
)

-- a turn for each loop of the source
turns_printed : (parameters loops m k : ℕ) (heads : List Head) (turns : List Affine) → m ≡ loops + parameters
    → k < 2 ^ 63 → length turns ≡ length heads → All (IsOver m) turns → All (IsUpTo k) turns
    → AreTurns parameters loops heads turns
turns_printed parameters loops m k [] [] e low count over up = tt
turns_printed parameters loops m k [] (f ∷ fs) e low count over up = absurd (omega (arith, count))
turns_printed parameters loops m k (head ∷ heads) [] e low count over up = absurd (omega (arith, count))
turns_printed parameters loops m k (head ∷ heads) (f ∷ fs) e low count over up = (
  form_printed parameters loops m k f e low (All-head (IsOver m) f fs over) (All-head (IsUpTo k) f fs up),
  turns_printed parameters loops m k heads fs e low (omega (arith, count)) (All-tail (IsOver m) f fs over)
      (All-tail (IsUpTo k) f fs up),
)

instance_printed : (program : Program) (loops m k n : ℕ) (turns : List Affine) → m ≡ loops + length program.parameters
    → k < 2 ^ 63 → IsInstanceOf program n turns → All (IsOver m) turns → All (IsUpTo k) turns
    → IsInstance program loops n turns
instance_printed program loops m k n turns e low i over up =
    let of : Placed → Standing = λ p. standing (heads_in p.scopes) p.body in
    record {
      standing = of i.statement;
      stands = slice_get-map of (statements_of program) n ∙ ap (option_map of) i.stands;
      turned = turns_printed (length program.parameters) loops m k (heads_in i.statement.scopes) turns e low
          (i.turned ∙ sym (as_many_heads i.statement.scopes)) over up;
    }

mutual
  tree_printed : (program : Program) (loops m k n : ℕ) (t : Tree) → m ≡ loops + length program.parameters
      → k < 2 ^ 63 → loops + n ≤ 2 ^ 63 → Flat t → TreeIsOf program t → TreeIsOver m t → TreeIsUpTo k t → NestsTo n t
      → IsNode program loops t
  tree_printed program loops m k zero (loop flag lo up body) e low few f i over u nests = absurd nests
  tree_printed program loops m k (suc n) (loop flag lo up body) e low few f i over u nests = (
    omega (arith, few),
    bounds_printed (length program.parameters) loops m k lo e low f.0 over.0 u.0,
    bounds_printed (length program.parameters) loops m k up e low f.1 over.1 u.1,
    trees_printed program (suc loops) (suc m) k n body (omega (arith, e)) low (omega (arith, few)) f.2 i over.2 u.2
        nests,
  )
  tree_printed program loops m k n (guard [] body) e low few f i over u nests = absurd f
  tree_printed program loops m k zero (guard (test ∷ tests) body) e low few f i over u nests = (
    tests_printed (length program.parameters) loops m k (test ∷ tests) e low f.0 over.0 u.0,
    trees_printed program loops m k zero body e low few f.1 i over.1 u.1 nests,
  )
  tree_printed program loops m k (suc n) (guard (test ∷ tests) body) e low few f i over u nests = (
    tests_printed (length program.parameters) loops m k (test ∷ tests) e low f.0 over.0 u.0,
    trees_printed program loops m k (suc n) body e low few f.1 i over.1 u.1 nests,
  )
  tree_printed program loops m k n (instance s turns) e low few f i over u nests =
      instance_printed program loops m k s turns e low i over u

  trees_printed : (program : Program) (loops m k n : ℕ) (ts : Trees) → m ≡ loops + length program.parameters
      → k < 2 ^ 63 → loops + n ≤ 2 ^ 63 → FlatAll ts → TreesAreOf program ts → TreesAreOver m ts → TreesAreUpTo k ts
      → NestAllTo n ts → AreNodes program loops ts
  trees_printed program loops m k n none e low few f i over u nests = tt
  trees_printed program loops m k n (more t ts) e low few f i over u nests = (
    tree_printed program loops m k n t e low few f.0 i.0 over.0 u.0 nests.0,
    trees_printed program loops m k n ts e low few f.1 i.1 over.1 u.1 nests.1,
  )

-- a program's flat trees of numbers of 46 bits
pub flat_printed : (program : Program) (n : ℕ) (ts : Trees) → FlatAll ts → TreesAreOf program ts
    → TreesAreOver (length program.parameters) ts → TreesAreUpTo (2 ^ 45) ts → NestAllTo n ts → n < 2 ^ 32
    → AreNodes program 0 ts
flat_printed program n ts f i over u nests few =
    trees_printed program 0 (length program.parameters) (2 ^ 45) n ts (omega arith) (omega arith) (omega (arith, few))
    f i over u nests
