use Rattle.scop_syntax.proofs.Common.{◌≡◌, ℕ, List, ◌++◌, map, drop, fold}
use Rattle.scop_roles.specs.Formula.{Formula, argument_of, with_argument}
use Rattle.scop_roles.specs.Values.{read_places}
use Rattle.scop_roles.proofs.Chains.{Makes}
use Rattle.scop_roles.proofs.values.+reading.Given as goal

abbrev pub invariant-push_places-loop-other : goal.invariant-push_places-loop-other
invariant-push_places-loop-other l =
    (f : Formula) (xs : List ℕ) → l.fn.places.items ≡ xs ++ read_places f
    → Makes with_argument (λ q. l.places.items ≡ xs ++ read_places q) (map argument_of (drop l.other-index l.others))
    (fold with_argument f (map argument_of l.others))
