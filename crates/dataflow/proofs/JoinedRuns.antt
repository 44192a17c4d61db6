-- Where no candidate stops, the run gives the join over all (`run_joined`), and keeps what joins keep (`run_keeps`).
use Rattle.dataflow.proofs.Common.{◌≡◌, ℕ, ◌≤◌, Bool, true, false, List, [], ◌∷◌, Result, Ok, Err, inl, inr, refl, sym}
use Rattle.dataflow.proofs.Common.{subst, arith, nat_lt, if◌then◌else◌, In, Tree, count, join, join_count, node_limit}
use Rattle.dataflow.proofs.Common.{join-count, joined, Halt, then_join, sources_run, or_initial}
use Rattle.quast_joins.specs.declared.way.Way.{Way}
use Rattle.dataflow.specs.Runs.{nodes}

passes : {E : Type 0} (b : Bool) (k : ℕ) (rest : Result Tree (Halt E)) (u : Tree)
    → (if b then Err (nodes k) else rest) ≡ Ok u → rest ≡ Ok u
passes true k rest u h = absurd cc
passes false k rest u h = h

solved_first : {E : Type 0} (way : Way) (n : ℕ) (acc : Tree) (r : Result Tree E) (go_on : Tree → Result Tree (Halt E))
    (u : Tree) → then_join way n acc r go_on ≡ Ok u
    → (r ≡ Ok (or_initial r)) × (go_on (join way n acc (or_initial r)) ≡ Ok u)
solved_first way n acc (Err e) go_on u h = absurd cc
solved_first way n acc (Ok t) go_on u h = (
  refl,
  passes (nat_lt 4096 (join_count acc t)) (join_count acc t)
      (go_on (join way n acc t)) u h,
)

pub run_joined : {C E : Type 0} (way : Way) (n : ℕ) (solve : C → Result Tree E) (cs : List C) (acc u : Tree)
    → sources_run way n solve acc cs ≡ Ok u
    → (u ≡ joined way n (λ c. or_initial (solve c)) acc cs) × ((c : C) → In c cs → solve c ≡ Ok (or_initial (solve c)))
run_joined way n solve [] acc u h = (cc, λ c i. absurd i)
run_joined way n solve (c ∷ cs) acc u h =
    let f = solved_first way n acc (solve c) (λ t. sources_run way n solve t cs) u h in
    let r = run_joined way n solve cs (join way n acc (or_initial (solve c))) u f.1 in
    (r.0, λ d i. elim i [ inl e ↦ subst (λ z. solve z ≡ Ok (or_initial (solve z))) (sym e) f.0 | inr j ↦ r.1 d j ])

-- a join that the run goes on from has few nodes
few_nodes : {E : Type 0} (way : Way) (b : Bool) (a t : Tree) (n : ℕ) (rest : Result Tree (Halt E)) (u : Tree)
    → nat_lt node_limit (join_count a t) ≡ b
    → (if b then Err (nodes (join_count a t)) else rest) ≡ Ok u
    → (count (join way n a t) ≤ node_limit) × (rest ≡ Ok u)
few_nodes way true a t n rest u e h = absurd cc
few_nodes way false a t n rest u e h =
    let same = join-count way n a t in
    let few : join_count a t ≤ node_limit = grind arith in
    (omega (arith, same, few), h)

-- what joins keep, of all candidates' trees and the first, the run's tree has
pub run_keeps : {C E : Type 0} (way : Way) (P : Tree → Type 0) (n : ℕ) (solve : C → Result Tree E)
    → ((a b : Tree) → P a → P b → P (join way n a b)) → (cs : List C) (acc u : Tree)
    → ((c : C) (t : Tree) → In c cs → solve c ≡ Ok t → P t) → P acc → count acc ≤ node_limit
    → sources_run way n solve acc cs ≡ Ok u → P u × (count u ≤ node_limit)
run_keeps way P n solve joins [] acc u each first few h =
    let e : acc ≡ u = cc in
    subst (λ t. P t × (count t ≤ node_limit)) e (first, few)
run_keeps {C} {E} way P n solve joins (c ∷ cs) acc u each first few h =
    by_tree (solve c) refl h (λ t e small g.
    run_keeps way P n solve joins cs (join way n acc t) u (λ d v i. each d v (inr i))
    (joins acc t first (each c t (inl refl) e)) small g)
  where
    by_tree : (r : Result Tree E) → solve c ≡ r
        → then_join way n acc r (λ t. sources_run way n solve t cs) ≡ Ok u
        → ((t : Tree) → solve c ≡ Ok t → count (join way n acc t) ≤ node_limit
        → sources_run way n solve (join way n acc t) cs ≡ Ok u → P u × (count u ≤ node_limit))
        → P u × (count u ≤ node_limit)
    by_tree (Err stopped) e g go_on = absurd cc
    by_tree (Ok t) e g go_on =
        let step = few_nodes way (nat_lt node_limit (join_count acc t)) acc t n
        (sources_run way n solve (join way n acc t) cs) u refl g in
        go_on t e step.0 step.1
