use Rattle.contract_callers.proofs.vectors.orthogonal_vectors_are_combinations.Goals as goal

pub returns : goal.returns
returns c = λ n rows vectors v are size orthogonal.
    let spanned = c.kernel_vectors_span_what_is_orthogonal.ensures n rows vectors v are size orthogonal in
    (spanned.factor, spanned.factors, spanned.positive, spanned.sum)
