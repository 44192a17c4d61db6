use Rattle.whole_numbers.proofs.Common.{◌≡◌, ◌∙◌, ◌<◌, ℕ, sym, subst}
use Rattle.checked_tableau.proofs.KeptSolutions.{place_within}
use Rattle.pip_solver.proofs.node.Tableau.cut_going.Goals as goal

pub cut_known-requires-in-Some-clause-parameter : goal.cut_known-requires-in-Some-clause-parameter
cut_known-requires-in-Some-clause-parameter c k e =
    let t = c.args.self.now in
    let same : c.in-Some.place ≡ k = cc in
    subst (λ (j : ℕ). j < t.rows.parameters) same
    (place_within _ _ t.rows.parameters t.bounds.items c.in-Some.place c.requires.placed
    (let found = sym c.place_of.ensures ∙ c.in-Some.is in simp c.deref.ensures.value at found))
