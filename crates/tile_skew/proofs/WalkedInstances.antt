-- The instances of a walk have numbers of statements of the model and no negative turns, and at one statement the turns
-- rise from the earlier to the later.
use Rattle.scop_syntax.proofs.Common.{◌≡◌, ◌<◌, ◌↔◌, ℕ, ℤ, List, sym, ◌∙◌, ap, subst, arith, length, Some, slice_get}
use Rattle.scop_syntax.proofs.Common.{length-map, slice_get_within, In, Before, LexLess, Placed, Scope, loops_in, Runs}
use Rattle.scop_syntax.proofs.Common.{statements_of, visit_of, Program, Visit, walk_of, place_of, in_from_place}
use Rattle.fractions.specs.Farkas.{AreNotNegative}
use Rattle.scop_syntax.proofs.Order.{own_order}
use Rattle.scop_syntax.proofs.Statements.{runs_not_negative}
use Rattle.iteration_domains.specs.Model.{model_of, modelled}

-- what the laws of the walk say of its instances: they are those of statements at turns that run
abbrev pub AreRuns : Program → List ℤ → Type 0
AreRuns program params =
    (v : Visit) → In v (walk_of program params) → (p : Placed) × (xs : List ℤ) × In p (statements_of program)
    × Runs p.scopes params xs × (v ≡ visit_of p params xs)

-- no turn of an instance is negative
pub turns_from_0 : (program : Program) (params : List ℤ) (v : Visit) → AreRuns program params
    → In v (walk_of program params) → AreNotNegative v.turns
turns_from_0 program params v found h =
    let f = found v h in
    subst AreNotNegative (sym (ap (λ (z : Visit). z.turns) f.4)) (runs_not_negative f.0.scopes params f.1 f.3)

-- its number is that of a statement
pub number_within : (program : Program) (params : List ℤ) (v : Visit) → AreRuns program params
    → ((k : ℕ) (p : Placed) → slice_get (statements_of program) k ≡ Some p → p.number ≡ k)
    → In v (walk_of program params) → v.number < length (model_of program).statements
number_within program params v found numbered h =
    let f = found v h in
    let at = place_of (statements_of program) f.0 f.2 in
    let place = numbered at.0 f.0 at.1 in
    let within = slice_get_within (statements_of program) at.0 f.0 at.1 in
    let many = length-map (statements_of program) (modelled (length program.parameters)) in
    let own = ap (λ (z : Visit). z.number) f.4 in
    omega arith

-- and besides: statements have numbers of their own, and the instances stand in order
pub record WalkFacts (program : Program) (params : List ℤ) : Type 0 where
  pub found : AreRuns program params
  pub turns : (scopes : List Scope) (ps xs : List ℤ) → Runs scopes ps xs → length xs ≡ loops_in scopes
  pub loops : (p : Placed) → In p (statements_of program) → length p.loops ≡ loops_in p.scopes
  pub same : (p q : Placed) → In p (statements_of program) → In q (statements_of program) → p.number ≡ q.number
      → p ≡ q
  pub order : (i j : ℕ) (v w : Visit) → slice_get (walk_of program params) i ≡ Some v
      → slice_get (walk_of program params) j ≡ Some w → (i < j) ↔ Before v w

pub turns_rise : (program : Program) (params : List ℤ) (i j : ℕ) (v w : Visit) → WalkFacts program params
    → slice_get (walk_of program params) i ≡ Some v → slice_get (walk_of program params) j ≡ Some w → i < j
    → v.number ≡ w.number → (length v.turns ≡ length w.turns) × LexLess v.turns w.turns
turns_rise program params i j v w facts at there less number =
    let f = facts.found v (in_from_place (walk_of program params) i v at) in
    let g = facts.found w (in_from_place (walk_of program params) j w there) in
    let p = f.0 in
    let q = g.0 in
    let one : p ≡ q =
    facts.same p q f.2 g.2 (sym (ap (λ (z : Visit). z.number) f.4) ∙ (number ∙ ap (λ (z : Visit). z.number) g.4)) in
    let loops : v.loops ≡ w.loops =
    ap (λ (z : Visit). z.loops) f.4 ∙ (ap (λ (z : Placed). z.loops) one ∙ sym (ap (λ (z : Visit). z.loops) g.4)) in
    let first = many p f.1 v f.3 f.4 in
    let second = many q g.1 w g.3 g.4 in (
      first ∙ (ap (λ (z : Placed). loops_in z.scopes) one ∙ sym second),
      own_order v w (sized p f.1 v f.2 f.3 f.4) (sized q g.1 w g.2 g.3 g.4) number loops
          ((facts.order i j v w at there).0 less),
    )
  where
    many : (p : Placed) (xs : List ℤ) (v : Visit) → Runs p.scopes params xs → v ≡ visit_of p params xs
        → length v.turns ≡ loops_in p.scopes
    many p xs v r e = ap (λ (z : Visit). length z.turns) e ∙ facts.turns p.scopes params xs r

    sized : (p : Placed) (xs : List ℤ) (v : Visit) → In p (statements_of program) → Runs p.scopes params xs
        → v ≡ visit_of p params xs → length v.loops ≡ length v.turns
    sized p xs v i r e =
        ap (λ (z : Visit). length z.loops) e
        ∙ (facts.loops p i ∙ sym (many p xs v r e))
