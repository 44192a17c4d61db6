-- All forms of a conflict's system are over its variables, and their numbers lie far within 128 bits.
use Rattle.conflict_deps.proofs.Common.{ℕ, zero, suc, ◌+◌, Bool, true, false, List, [], ◌++◌, length, map, inl, inr}
use Rattle.conflict_deps.proofs.Common.{subst, sym, arith, All, All-append, All-weaker, Affine, accesses, In, common}
use Rattle.conflict_deps.proofs.Common.{Access, Placed, Program, Test, at_least, equal, IsKernel, IsPlaced, ranks_of}
use Rattle.conflict_deps.proofs.Common.{statements_of, all_in, in_from_place, in_map, nat_lt, Constraints, tests_of}
use Rattle.conflict_deps.proofs.Common.{Dependence, access_over, model_of, modelled, IsNarrow, After, Side, afters}
use Rattle.conflict_deps.proofs.Common.{cell_rows, conflicts_of, loops_of, map_test, pair_size, parameter_rows}
use Rattle.conflict_deps.proofs.Common.{source_form, source_rows, target_form, target_rows, tests_between}
use Rattle.scop_syntax.proofs.Common.{All-map}
use Rattle.integer_sets.specs.Constraints.{variables_in}
use Rattle.iteration_domains.proofs.NarrowStatements.{IsNarrowStatement, placed_narrow}
use Rattle.conflict_deps.proofs.Shapes.{Fits, FitsTest, cells_fit, equalities_fit, later_fits, length-source}
use Rattle.conflict_deps.proofs.Shapes.{length-target, rows_fit, size-source, size-target, turns_fit, ups_fit}
use Rattle.conflict_deps.proofs.Sides.{IsSide, deps_to}

-- a domain over the variables of a pair
domain_fits : (n k : ℕ) (h : Affine → Affine) (s : Constraints) → ((f : Affine) → IsNarrow n f → Fits k (h f))
    → All (IsNarrow n) s.equalities → All (IsNarrow n) s.rows → All (FitsTest k) (map (map_test h) (tests_of s))
domain_fits n k h s fits es rs =
    let P : Test → Type 0 = λ test. FitsTest k (map_test h test) in
    let Q : Affine → Type 0 = λ f. Fits k (h f) in
    All-map (FitsTest k) (map_test h) (tests_of s)
    (All-append P (map equal s.equalities) (map at_least s.rows)
    (All-map P equal s.equalities (All-weaker (IsNarrow n) Q fits s.equalities es))
    (All-map P at_least s.rows (All-weaker (IsNarrow n) Q fits s.rows rs)))

source_fits : (d e m : ℕ) (f : Affine) → IsNarrow (d + m) f → Fits (d + e + m) (source_form d e f)
source_fits d e m f is =
    let s = size-source d e f in
    let l = is.numbers in
    record { variables = length-source d e m f is.variables; numbers = omega arith }

target_fits : (d e m : ℕ) (f : Affine) → IsNarrow (e + m) f → Fits (d + e + m) (target_form d f)
target_fits d e m f is =
    let s = size-target d f in
    let l = is.numbers in
    record { variables = length-target d e m f is.variables; numbers = omega arith }

-- the order
order_fits : (n d k c : ℕ) (earlier : Bool) (a : After) → In a (afters n d k c earlier) → All (FitsTest n) a.rows
order_fits n d k zero true a (inl e) = subst (λ (z : After). All (FitsTest n) z.rows) (sym e) (turns_fit n d k)
order_fits n d k zero true a (inr h) = absurd h
order_fits n d k zero false a h = absurd h
order_fits n d k (suc c) earlier a (inl e) =
    subst (λ (z : After). All (FitsTest n) z.rows) (sym e) (later_fits n d k)
order_fits n d k (suc c) earlier a (inr h) = order_fits n d (k + 1) c earlier a h

-- an access of a kernel's statement
record IsNarrowSide (m : ℕ) (s : Side) : Type 0 where
  pub statement : IsNarrowStatement m s.statement
  pub subscripts : All (IsNarrow (loops_of s + m)) s.access.subscripts

side_narrow : (m : ℕ) (ps : List Placed) (s : Side) → ((p : Placed) → In p ps → IsNarrowStatement m (modelled m p))
    → IsSide m ps s → IsNarrowSide m s
side_narrow m ps s narrow is =
    let p = is.placed in
    let own = narrow p is.stands in
    let P : Access → Type 0 = λ a. All (IsNarrow ((modelled m p).domain.dimensions + m)) a.subscripts in
    subst (IsNarrowSide m) (sym is.is)
    (record {
      statement = own;
      subscripts = all_in P (modelled m p).accesses (access_over m p is.access) own.accesses
          (in_map (access_over m p) is.access (accesses p.body)
          (in_from_place (accesses p.body) s.number is.access is.is_access));
    })

-- all together
between_fits : (m : ℕ) (s t : Side) (a : After) → IsNarrowSide m s → IsNarrowSide m t
    → All (FitsTest (pair_size m s t)) a.rows → All (FitsTest (pair_size m s t)) (tests_between m s t a)
between_fits m s t a own other order =
    let d = loops_of s in
    let e = loops_of t in
    let n = pair_size m s t in
    let c = cell_rows s t in
    let p = parameter_rows m s t in
    All-append (FitsTest n) (source_rows s t) (target_rows s t ++ (c ++ (a.rows ++ p)))
    (domain_fits (d + m) n (source_form d e) s.statement.domain (source_fits d e m) own.statement.equalities
    own.statement.rows)
    (All-append (FitsTest n) (target_rows s t) (c ++ (a.rows ++ p))
    (domain_fits (e + m) n (target_form d) t.statement.domain (target_fits d e m) other.statement.equalities
    other.statement.rows)
    (All-append (FitsTest n) c (a.rows ++ p)
    (cells_fit d e m s.access.subscripts t.access.subscripts own.subscripts other.subscripts)
    (All-append (FitsTest n) a.rows p order (ups_fit n (d + e) m))))

-- both lists of a dependence
pub record AreFit (dep : Dependence) : Type 0 where
  pub equalities : All (Fits (variables_in dep.system)) dep.system.equalities
  pub rows : All (Fits (variables_in dep.system)) dep.system.rows

pub conflict_fits : (program : Program) (dep : Dependence) → IsKernel program
    → ((p : Placed) → In p (statements_of program) → IsPlaced (ranks_of program) (length program.parameters) p)
    → In dep (conflicts_of (model_of program)) → AreFit dep
conflict_fits program dep is placed among =
    let m = length program.parameters in
    let ps = statements_of program in
    let narrow : (p : Placed) → In p ps → IsNarrowStatement m (modelled m p) =
    λ p h. placed_narrow (ranks_of program) m p is.few_parameters (placed p h) in
    let of = deps_to m ps [] dep among in
    let s = of.from in
    let t = of.to in
    let a = of.order in
    let n = pair_size m s t in
    let tests = between_fits m s t a (side_narrow m ps s narrow of.source) (side_narrow m ps t narrow of.target)
    (order_fits n (loops_of s) 0 (common s.statement.loops t.statement.loops)
    (nat_lt s.statement.number t.statement.number) a of.ordered) in
    subst AreFit (sym of.is)
    (record {
      equalities = equalities_fit n (tests_between m s t a) tests;
      rows = rows_fit n (tests_between m s t a) tests;
    })
