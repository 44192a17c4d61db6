-- Trees whose instances are those of sets, and numbers within a bound that are within a larger one.
use Rattle.scop_syntax.proofs.Common.{◌≡◌, List, ◌∙◌, subst, slice_get, Some, In, Placed, loops_in, statements_of}
use Rattle.scop_syntax.proofs.Common.{Program}
use Rattle.integer_sets.specs.Scanned.{Scanned}
use Rattle.loop_tree.specs.Shape.{TreeIsOf, TreesAreOf}
use Rattle.loop_tree.specs.Tree.{Tree, loop, guard, instance}
use Rattle.loop_tree.specs.Tree.{Trees, none, more}
use Rattle.plain_scan.specs.Scanning.{AreOfSets, IsOfSets}

-- the sets are those of statements of the program, with their iterators
abbrev pub AreOfStatements : Program → List Scanned → Type 0
AreOfStatements program sets =
    (s : Scanned) → In s sets
    → (p : Placed) × (slice_get (statements_of program) s.statement ≡ Some p) × (s.iterators ≡ loops_in p.scopes)

mutual
  pub of_program : (program : Program) (sets : List Scanned) → AreOfStatements program sets → (t : Tree)
      → IsOfSets sets t → TreeIsOf program t
  of_program program sets are (loop flag lo up body) h = all_of_program program sets are body h
  of_program program sets are (guard tests body) h = all_of_program program sets are body h
  of_program program sets are (instance k forms) h =
      let p = are h.0 h.1 in
      record {
        statement = p.0;
        stands = subst (λ n. slice_get (statements_of program) n ≡ Some p.0) h.2 p.1;
        turned = h.3 ∙ p.2;
      }

  pub all_of_program : (program : Program) (sets : List Scanned) → AreOfStatements program sets → (ts : Trees)
      → AreOfSets sets ts → TreesAreOf program ts
  all_of_program program sets are none h = tt
  all_of_program program sets are (more t ts) h =
      (of_program program sets are t h.0, all_of_program program sets are ts h.1)
