use Rattle.whole_numbers.proofs.Common.{◌≡◌, [], ℕ, ℤ, List, get_or, take, sym, ◌∙◌, ap, subst, arith, take_all}
use Rattle.whole_numbers.proofs.Common.{All-get_or, All-take}
use Rattle.null_space.specs.Narrowing.{narrowed_by, kernel_vectors}
use Rattle.null_space.specs.Sizes.{AreCoefficients, AreLong, AreNarrow}
use Rattle.null_space.proofs.ListLoops.{views, views_length, kernel_step, kernel_long, long_at}
use Rattle.null_space.proofs.KernelSizes.{kernel_narrow}
use Rattle.null_space.proofs.Echelon.{are_from}
use Rattle.null_space.proofs.vectors.kernel_vectors.Goals.{After-deref}
use Rattle.null_space.proofs.vectors.kernel_vectors.Goals as goal

-- the vectors so far
are : (c : After-deref)
    → views c.deref.result.now ≡ kernel_vectors c.args.columns (take c.loop-at.at (views c.args.rows.now))
are c = ap views c.deref.ensures.value ∙ c.loop-at.invariant

pub narrowed_by-requires-clause-sizes : goal.narrowed_by-requires-clause-sizes
narrowed_by-requires-clause-sizes c =
    subst AreNarrow (sym (are c))
    (kernel_narrow c.args.columns (take c.loop-at.at (views c.args.rows.now)) c.requires.columns
    (All-take AreCoefficients c.loop-at.at (views c.args.rows.now) c.requires.coefficients))

pub narrowed_by-requires-clause-lengths : goal.narrowed_by-requires-clause-lengths
narrowed_by-requires-clause-lengths c =
    let e = views_length c.args.rows.now in
    let n = long_at c.args.columns c.loop-at.at
    (views c.args.rows.now) c.vector_at.result.now c.vector_at.ensures (omega arith) c.requires.lengths in
    subst (λ (n : ℕ). AreLong n (views c.deref.result.now)) (sym n)
    (subst (AreLong c.args.columns) (sym (are c))
    (kernel_long c.args.columns (take c.loop-at.at (views c.args.rows.now))))

pub narrowed_by-requires-clause-few : goal.narrowed_by-requires-clause-few
narrowed_by-requires-clause-few c =
    let e = views_length c.args.rows.now in
    let n = long_at c.args.columns c.loop-at.at
    (views c.args.rows.now) c.vector_at.result.now c.vector_at.ensures (omega arith) c.requires.lengths in
    let few = c.requires.columns in
    omega (arith, n, few)

pub narrowed_by-requires-clause-coefficients : goal.narrowed_by-requires-clause-coefficients
narrowed_by-requires-clause-coefficients c =
    let e = views_length c.args.rows.now in
    subst AreCoefficients (sym c.vector_at.ensures)
    (All-get_or AreCoefficients (views c.args.rows.now) c.loop-at.at [] (omega arith) c.requires.coefficients)

pub loop-at-preserved : goal.loop-at-preserved
loop-at-preserved c =
    let n = c.args.columns in
    let i = c.loop-at.at in
    let rows = views c.args.rows.now in
    let e = views_length c.args.rows.now in
    let so_far : views c.deref.result.now ≡ kernel_vectors n (take i rows) =
    ap views c.deref.ensures.value ∙ c.loop-at.invariant in
    c.in_ok-vectors-2.ensures
    ∙ (ap (λ (r : List ℤ). narrowed_by r (views c.deref.result.now)) c.vector_at.ensures
    ∙ (ap (narrowed_by (get_or rows i [])) so_far ∙ kernel_step n rows i (omega arith)))

pub returns-clause-narrowed : goal.returns-clause-narrowed
returns-clause-narrowed c =
    let rows = views c.args.rows.now in
    let e = views_length c.args.rows.now in
    c.loop-at.invariant ∙ ap (kernel_vectors c.args.columns) (take_all c.loop-at.at rows (omega arith))

pub returns-clause-are : goal.returns-clause-are
returns-clause-are c =
    let rows = views c.args.rows.now in
    let e = views_length c.args.rows.now in
    are_from c.args.columns rows (views c.loop-at.vectors.items) (c.loop-at.invariant
    ∙ ap (kernel_vectors c.args.columns) (take_all c.loop-at.at rows (omega arith)))
