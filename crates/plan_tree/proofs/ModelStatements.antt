-- The statements of a kernel's model: each by its number, with at most five loops.
use Rattle.scop_syntax.proofs.Common.{◌≡◌, ◌<◌, ◌≤◌, sym, ◌∙◌, ap, subst, arith, length, length-map, slice_get_within}
use Rattle.scop_syntax.proofs.Common.{In, Placed, loops_in, statements_of, Program, in_map_from, place_of}
use Rattle.scop_syntax.proofs.Statements.{placed_number}
use Rattle.iteration_domains.specs.Model.{Modelled, model_of, modelled}

-- what the laws of the walk say of a program's statements
pub record StatementFacts (program : Program) : Type 0 where
  pub same : (p q : Placed) → In p (statements_of program) → In q (statements_of program) → p.number ≡ q.number
      → p ≡ q
  pub few : (p : Placed) → In p (statements_of program) → loops_in p.scopes ≤ 5

-- a statement's number tells it
pub one_statement : (program : Program) → StatementFacts program → (s t : Modelled)
    → In s (model_of program).statements → In t (model_of program).statements → s.number ≡ t.number → s ≡ t
one_statement program facts s t i j e =
    let make = modelled (length program.parameters) in
    let p = in_map_from make s (statements_of program) i in
    let q = in_map_from make t (statements_of program) j in
    let number : p.0.number ≡ q.0.number =
    sym (ap (λ (z : Modelled). z.number) p.2) ∙ (e ∙ ap (λ (z : Modelled). z.number) q.2) in
    p.2 ∙ (ap make (facts.same p.0 q.0 p.1 q.1 number) ∙ sym q.2)

-- and is a place among them
pub number_inside : (program : Program) (m : Modelled) → In m (model_of program).statements
    → m.number < length (model_of program).statements
number_inside program m i =
    let make = modelled (length program.parameters) in
    let p = in_map_from make m (statements_of program) i in
    let at = place_of (statements_of program) p.0 p.1 in
    let number = ap (λ (z : Modelled). z.number) p.2 ∙ placed_number program.body 0 at.0 p.0 at.1 in
    let within = slice_get_within (statements_of program) at.0 p.0 at.1 in
    let many = length-map (statements_of program) make in
    omega (arith, number, within, many)

-- a statement has at most five loops
pub few_loops : (program : Program) → StatementFacts program → (s : Modelled) → In s (model_of program).statements
    → s.domain.dimensions ≤ 5
few_loops program facts s i =
    let p = in_map_from (modelled (length program.parameters)) s (statements_of program) i in
    subst (λ (z : Modelled). z.domain.dimensions ≤ 5) (sym p.2) (facts.few p.0 p.1)
