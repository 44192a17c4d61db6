-- Arrays that are only added to: sums modulo 2^64 may be made in any order, so what writes a cell of such an array adds
-- to it, and loads all that it reads but its own place. A sum that is kept to 32 bits is no such sum.
use Rattle.std.specs.Prelude.{◌≡◌, ◌≢◌, ℕ, ◌+◌, ◌-◌, ◌%◌, ◌^◌, ⊤, Bool, true, false, ℤ, List, [], ◌∷◌, ◌++◌, drop, map}
use Rattle.std.specs.Prelude.{nat_eq, if◌then◌else◌, slice_get, Some}
use Rattle.scop_syntax.specs.Tree.{Access, Operator, plus, minus, Right, assigned, combined, combined_narrow, Statement}
use Rattle.scop_syntax.specs.Tree.{Declaration, Program}
use Rattle.scop_syntax.specs.Members.{In}
use Rattle.scop_syntax.specs.Cells.{reads, reads_of}
use Rattle.scop_syntax.specs.Statements.{Placed, statements_of}
use Rattle.scop_syntax.specs.Walk.{Visit}
use Rattle.scop_syntax.specs.Values.{value_on}

-- whether an array is one of those that are marked
abbrev pub is_marked : List ℕ → ℕ → Bool
is_marked [] a = false
is_marked (m ∷ ms) a = if nat_eq m a then true else is_marked ms a

-- what a statement loads: all that it reads, but not its own place where that lies in a marked array
abbrev pub loads : List ℕ → Statement → List Access
loads marked s = if is_marked marked s.place.array then drop 1 (reads s) else reads s

-- what += and -= add, where the right side has value x, modulo 2^64
abbrev pub addend : Operator → ℕ → ℕ
addend plus x = x
addend minus x = (2 ^ 64 - x) % 2 ^ 64
addend op x = 0

-- what a statement adds to its place, by the values that it has loaded
abbrev pub added_by : Right → List ℤ → List ℕ → ℕ
added_by (combined op e) point xs = addend op (value_on e point xs)
added_by right point xs = 0

-- it is a sum: place += value, place -= value
abbrev pub IsSum : Right → Type 0
IsSum (combined plus e) = ⊤
IsSum (combined minus e) = ⊤
IsSum right = ⊥

-- marked arrays are only added to: what writes one is a sum, and nothing is loaded from one
pub record AreMarked (marked : List ℕ) (visits : List Visit) : Type 0 where
  pub sums : (v : Visit) → In v visits → is_marked marked v.body.place.array ≡ true → IsSum v.body.right
  pub others : (v : Visit) (a : Access) → In v visits → In a (loads marked v.body) → is_marked marked a.array ≡ false

-- what a right side reads beside the place
abbrev pub reads_beside : Right → List Access
reads_beside (assigned e) = reads_of e
reads_beside (combined op e) = reads_of e
reads_beside (combined_narrow op e) = reads_of e
reads_beside right = []

-- a statement only adds to an array: it touches that as the place of += or -= alone, if at all
pub record OnlyAdds (a : ℕ) (s : Statement) : Type 0 where
  pub sum : s.place.array ≡ a → IsSum s.right
  pub beside : (g : Access) → In g (reads_beside s.right) → g.array ≢ a

-- an array of 64 bits that a statement of the program writes, and that each only adds to
pub record IsReduced (program : Program) (a : ℕ) : Type 0 where
  pub declaration : Declaration
  pub declared : slice_get program.arrays a ≡ Some declaration
  pub full : declaration.narrow ≡ false
  pub writer : Placed
  pub among : In writer (statements_of program)
  pub writes : writer.body.place.array ≡ a
  pub adds : (p : Placed) → In p (statements_of program) → OnlyAdds a p.body

-- whether one of the accesses is to the array
abbrev pub names : ℕ → List Access → Bool
names a [] = false
names a (g ∷ gs) = if nat_eq g.array a then true else names a gs

-- whether it is place += value or place -= value
abbrev pub is_sum : Right → Bool
is_sum (combined plus e) = true
is_sum (combined minus e) = true
is_sum right = false

-- whether a statement only adds to the array
abbrev pub only_adds : ℕ → Statement → Bool
only_adds a s =
    if names a (reads_beside s.right) then false else (if nat_eq s.place.array a then is_sum s.right else true)

-- whether one of the statements writes it
abbrev pub is_written : ℕ → List Statement → Bool
is_written a [] = false
is_written a (s ∷ ss) = if nat_eq s.place.array a then true else is_written a ss

-- whether each only adds to it
abbrev pub all_add : ℕ → List Statement → Bool
all_add a [] = true
all_add a (s ∷ ss) = if only_adds a s then all_add a ss else false

-- whether an array is one that these statements only add to
abbrev pub is_reduced : List Statement → ℕ → Declaration → Bool
is_reduced ss a d = if d.narrow then false else (if is_written a ss then all_add a ss else false)

-- those of the arrays, numbered from k on
abbrev pub marks_from : List Statement → ℕ → List Declaration → List ℕ
marks_from ss k [] = []
marks_from ss k (d ∷ ds) = (if is_reduced ss k d then k ∷ [] else []) ++ marks_from ss (k + 1) ds

-- the statements of a program alone
abbrev pub bodies : Program → List Statement
bodies program = map (λ (p : Placed). p.body) (statements_of program)

-- the arrays of a program that are only added to, in rising order
abbrev pub marks : Program → List ℕ
marks program = marks_from (bodies program) 0 program.arrays
