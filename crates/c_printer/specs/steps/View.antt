-- The plain data that parts of a tree stand for which code read.
use Rattle.std.specs.Prelude.{ℤ, Bool, List, map, Option, Some, None, Vec}
use Rattle.std.specs.declared.alloc.Global.{Global}
use Rattle.whole_numbers.specs.Affine.{Affine}
use Rattle.scop_lexer.specs.Bytes.{Text}
use Rattle.loop_tree.specs.Tree.{Bound, Bounds, Test, Tree, Trees}
use Rattle.loop_tree.specs.View.{bounds_in, nodes_of, test_of, tree_of}
use Rattle.loop_tree.specs.declared.tree.Bounds.{Bounds as CodeBounds}
use Rattle.loop_tree.specs.declared.tree.Guard.{Guard as CodeGuard}
use Rattle.loop_tree.specs.declared.tree.Loop.{Loop as CodeLoop}
use Rattle.loop_tree.specs.declared.tree.Node.{Node as CodeNode}
use Rattle.loop_tree.specs.declared.tree.Test.{Test as CodeTest}
use Rattle.c_printer.specs.declared.part.Read.{Read}

-- a part that was read, and what stands behind it
abbrev pub part_in : {A B : Type 0} → (A → B) → Read A → B × Text
part_in view r = (view r.part, r.rest.now)

-- such an answer, if there is one
abbrev pub read_in : {A B : Type 0} → (A → B) → Option (Read A) → Option (B × Text)
read_in view (Some r) = Some (part_in view r)
read_in view None = None

-- a divisor that was read
abbrev pub divisor_in : Option (Read ℤ) → Option (ℤ × Text)
divisor_in r = read_in (λ d. d) r

-- a form
abbrev pub form_part : Read Affine → Affine × Text
form_part r = part_in (λ f. f) r

-- a form, if there is one
abbrev pub form_in : Option (Read Affine) → Option (Affine × Text)
form_in r = read_in (λ f. f) r

-- a bound
abbrev pub bound_part : Read Bound → Bound × Text
bound_part r = part_in (λ b. b) r

-- a bound, if there is one
abbrev pub bound_in : Option (Read Bound) → Option (Bound × Text)
bound_in r = read_in (λ b. b) r

-- the bounds of one side
abbrev pub sides_part : Read CodeBounds → Bounds × Text
sides_part r = part_in bounds_in r

-- the bounds of one side, if they are there
abbrev pub sides_in : Option (Read CodeBounds) → Option (Bounds × Text)
sides_in r = read_in bounds_in r

-- a test
abbrev pub test_part : Read CodeTest → Test × Text
test_part r = part_in test_of r

-- a test, if there is one
abbrev pub test_in : Option (Read CodeTest) → Option (Test × Text)
test_in r = read_in test_of r

-- tests, if they are there
abbrev pub tests_in : Option (Read (Vec CodeTest Global)) → Option (List Test × Text)
tests_in r = read_in (λ v. map test_of v.items) r

-- the tests of a guard, if they are there
abbrev pub condition_in : Option (Read CodeGuard) → Option (List Test × Text)
condition_in r = read_in (λ g. map test_of g.tests.items) r

-- turns
abbrev pub turns_part : Read (Vec Affine Global) → List Affine × Text
turns_part r = part_in (λ v. v.items) r

-- turns, if they are there
abbrev pub turns_in : Option (Read (Vec Affine Global)) → Option (List Affine × Text)
turns_in r = read_in (λ v. v.items) r

-- a node, if there is one
abbrev pub node_in : Option (Read CodeNode) → Option (Tree × Text)
node_in r = read_in tree_of r

-- nodes
abbrev pub body_part : Read (Vec CodeNode Global) → Trees × Text
body_part r = part_in (λ v. nodes_of v.items) r

-- nodes, if they are there
abbrev pub body_in : Option (Read (Vec CodeNode Global)) → Option (Trees × Text)
body_in r = read_in (λ v. nodes_of v.items) r

-- a loop's line
pub record Line : Type 0 where
  pub parallel : Bool
  pub lower : Bounds
  pub upper : Bounds

-- a line of these
abbrev pub line : Bool → Bounds → Bounds → Line
line parallel lower upper = record { parallel = parallel; lower = lower; upper = upper }

-- the line that a value of the code stands for
abbrev pub line_of : CodeLoop → Line
line_of l = line l.parallel (bounds_in l.lower) (bounds_in l.upper)

-- a loop's line, if there is one
abbrev pub line_in : Option (Read CodeLoop) → Option (Line × Text)
line_in r = read_in line_of r
