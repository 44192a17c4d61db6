-- The instances of a source's loop tree are those of the program's statements.
use Rattle.scop_syntax.proofs.Common.{◌≡◌, ℕ, ◌+◌, List, [], ◌∷◌, ◌++◌, map, length, ap, subst, sym, ◌∙◌, refl, arith}
use Rattle.scop_syntax.proofs.Common.{length-append, slice_get, Some, length-map, map-append, get_behind, Head, Program}
use Rattle.scop_syntax.proofs.Common.{statement, Placed, in_loop_of, in_guard_of, loops_in, placed_all, statements_of}
use Rattle.scop_syntax.proofs.Common.{statements_in, length-placed}
use Rattle.whole_numbers.proofs.Entries.{found_front}
use Rattle.scop_syntax.specs.Tree.{Test as Comparison, Tree as Item, loop as repeated, guard as guarded}
use Rattle.scop_syntax.specs.Tree.{Trees as Items, none as nothing, more as followed}
use Rattle.scop_syntax.specs.Statements.{placed}
use Rattle.iteration_domains.specs.Path.{Path}
use Rattle.iteration_domains.proofs.Surroundings.{length-variables}
use Rattle.loop_tree.specs.Shape.{TreeIsOf, TreesAreOf}
use Rattle.loop_tree.specs.Source.{in_loop, in_guard, source, sources, variables_at}

-- the places of a tree that stands at path: its statements, seen from the whole, are the program's from the k-th on,
-- and each has the loops round the path besides its own
pub record StandAt (program : Program) (path : Path) (ps : List Placed) (k : ℕ) : Type 0 where
  pub whole : Placed → Placed
  pub loops : (p : Placed) → loops_in (whole p).scopes ≡ length path.loops + loops_in p.scopes
  pub places : (j : ℕ) (p : Placed) → slice_get (map whole ps) j ≡ Some p
      → slice_get (statements_of program) (k + j) ≡ Some p

map_twice : (f g : Placed → Placed) (ps : List Placed) → map f (map g ps) ≡ map (λ p. f (g p)) ps
map_twice f g [] = refl
map_twice f g (p ∷ ps) = ap (λ (qs : List Placed). f (g p) ∷ qs) (map_twice f g ps)

stand_in_loop : (program : Program) (path : Path) (head : Head) (ps : List Placed) (k : ℕ)
    → StandAt program path (map (in_loop_of k head) ps) k → StandAt program (in_loop path head k) ps k
stand_in_loop program path head ps k at =
    let f : Placed → Placed = λ p. at.whole (in_loop_of k head p) in
    let one = length-append path.loops (k ∷ []) in
    record {
      whole = f;
      loops = λ p. let l = at.loops (in_loop_of k head p) in omega arith;
      places = λ j p h.
          at.places j p (subst (λ (qs : List Placed). slice_get qs j ≡ Some p)
          (sym (map_twice at.whole (in_loop_of k head) ps)) h);
    }

stand_in_guard : (program : Program) (path : Path) (tests : List Comparison) (ps : List Placed) (k : ℕ)
    → StandAt program path (map (in_guard_of tests) ps) k → StandAt program (in_guard path tests) ps k
stand_in_guard program path tests ps k at =
    record {
      whole = λ p. at.whole (in_guard_of tests p);
      loops = λ p. at.loops (in_guard_of tests p);
      places = λ j p h.
          at.places j p (subst (λ (qs : List Placed). slice_get qs j ≡ Some p)
          (sym (map_twice at.whole (in_guard_of tests) ps)) h);
    }

stand_first : (program : Program) (path : Path) (ps qs : List Placed) (k : ℕ) → StandAt program path (ps ++ qs) k
    → StandAt program path ps k
stand_first program path ps qs k at =
    record {
      whole = at.whole;
      loops = at.loops;
      places = λ j p h.
          at.places j p (subst (λ (rs : List Placed). slice_get rs j ≡ Some p) (sym (map-append at.whole ps qs))
          (found_front (map at.whole ps) (map at.whole qs) j p h));
    }

stand_rest : (program : Program) (path : Path) (ps qs : List Placed) (k m : ℕ) → length ps ≡ m
    → StandAt program path (ps ++ qs) k → StandAt program path qs (k + m)
stand_rest program path ps qs k m count at =
    record {
      whole = at.whole;
      loops = at.loops;
      places = λ j p h.
          let l : length (map at.whole ps) ≡ m = length-map ps at.whole ∙ count in
          let there : slice_get (map at.whole (ps ++ qs)) (length (map at.whole ps) + j) ≡ Some p =
          subst (λ (rs : List Placed). slice_get rs (length (map at.whole ps) + j) ≡ Some p)
          (sym (map-append at.whole ps qs)) (get_behind (map at.whole ps) (map at.whole qs) j ∙ h) in
          let e : k + (length (map at.whole ps) + j) ≡ k + m + j = omega arith in
          subst (λ i. slice_get (statements_of program) i ≡ Some p) e
          (at.places (length (map at.whole ps) + j) p there);
    }

mutual
  pub source_of_statements : (program : Program) (path : Path) (t : Item) (k : ℕ)
      → StandAt program path (placed t k) k → TreeIsOf program (source path t k)
  source_of_statements program path (repeated head body) k at =
      sources_of_statements program (in_loop path head k) body k
      (stand_in_loop program path head (placed_all body k) k at)
  source_of_statements program path (guarded tests body) k at =
      sources_of_statements program (in_guard path tests) body k
      (stand_in_guard program path tests (placed_all body k) k at)
  source_of_statements program path (statement s) k at =
      let p : Placed = record { number = k; loops = []; scopes = []; body = s } in
      let e : k + 0 ≡ k = omega arith in
      let l = at.loops p in
      let v = length-variables (variables_at path) 0 (length path.loops) in
      record {
        statement = at.whole p;
        stands = subst (λ i. slice_get (statements_of program) i ≡ Some (at.whole p)) e (at.places 0 (at.whole p) refl);
        turned = omega arith;
      }

  pub sources_of_statements : (program : Program) (path : Path) (ts : Items) (k : ℕ)
      → StandAt program path (placed_all ts k) k → TreesAreOf program (sources path ts k)
  sources_of_statements program path nothing k at = tt
  sources_of_statements program path (followed t ts) k at =
      let rest = placed_all ts (k + statements_in t) in (
        source_of_statements program path t k (stand_first program path (placed t k) rest k at),
        sources_of_statements program path ts (k + statements_in t)
            (stand_rest program path (placed t k) rest k (statements_in t) (length-placed t k) at),
      )

map_same : (ps : List Placed) → map (λ p. p) ps ≡ ps
map_same [] = refl
map_same (p ∷ ps) = ap (λ (qs : List Placed). p ∷ qs) (map_same ps)

-- a whole program stands at no loop
pub program_stands : (program : Program) (path : Path) → length path.loops ≡ 0
    → StandAt program path (statements_of program) 0
program_stands program path none =
    record {
      whole = λ p. p;
      loops = λ p. omega arith;
      places = λ j p h.
          let e : j ≡ 0 + j = omega arith in
          subst (λ i. slice_get (statements_of program) i ≡ Some p) e
          (subst (λ (qs : List Placed). slice_get qs j ≡ Some p) (map_same (statements_of program)) h);
    }
