-- The matching is formed, part by part.
use Rattle.whole_numbers.proofs.Common.{◌≡◌, ℕ, suc, ◌+◌, ◌≤◌, List, ◌++◌, length, sym, ◌∙◌, ap, ap₂, subst, All, arith}
use Rattle.whole_numbers.proofs.Common.{append_assoc, Result, Ok, Err, Affine}
use Rattle.wide_math.specs.declared.Wide.{Wide}
use Rattle.wide_math.specs.Checked.{◌>>=◌}
use Rattle.affine_forms.specs.declared.stop.FormStop.{FormStop}
use Rattle.affine_forms.specs.declared.stop.FormStop.TheVariants as form_stop
use Rattle.affine_forms.specs.Gives.{Fails}
use Rattle.affine_forms.specs.Parts.{variables_of}
use Rattle.fractions.specs.Farkas.{own_rows, matched_from}
use Rattle.integer_sets.specs.Constraints.{Constraints, IsSized, system_of}
use Rattle.farkas.specs.declared.claim.Claim.{Claim}
use Rattle.iteration_domains.specs.declared.dep.DepEnd.{DepEnd}
use Rattle.farkas.specs.declared.layout.Layout.{Layout}
use Rattle.iteration_domains.specs.Dependence.{binds_between}
use Rattle.farkas.specs.Unknowns.{layout_of}
use Rattle.farkas.specs.Claims.{target_factor, source_factor, bound_factor, iterators, nones, parameters, linear}
use Rattle.farkas.specs.Claims.{constant}
use Rattle.farkas.specs.Matching.{coefficients_run, matching_run, multipliers_of}
use Rattle.farkas.specs.Run.{◌>>◌, formed, posed, posed_run}
use Rattle.farkas.specs.Gives.{Halts}
use Rattle.farkas.specs.steps.Questions.{with_more, Gains, stuck_of_form}
use Rattle.farkas.specs.Meaning.{rows_of}
use Rattle.farkas.proofs.Chains.{halts-then, halts-formed}
use Rattle.farkas.proofs.Columns.{matching_is, multipliers_are, matched_sized, own_rows_speak}
use Rattle.farkas.proofs.ClaimedForms.{linear_sized, constant_length, iterators_length, nones_length}
use Rattle.farkas.proofs.Steps.{coefficients_append, with_more-ok}

-- three runs, what they give put together
abbrev pub together : Result (List Affine) Wide → Result (List Affine) Wide → Result (List Affine) Wide
    → Result (List Affine) Wide
together a b c = a >>= λ fs. (b >>= λ gs. c >>= λ hs. Ok (gs ++ hs)) >>= λ gs. Ok (fs ++ gs)

-- the equalities of the source's iterators, of the target's, and of the parameters
abbrev pub source_run : Claim → DepEnd → Layout → Constraints → Result (List Affine) Wide
source_run claim source l s =
    coefficients_run 0 (iterators l.unknowns l.source (source_factor claim) source.loops) s

abbrev pub target_run : Claim → DepEnd → DepEnd → Layout → Constraints → Result (List Affine) Wide
target_run claim source target l s =
    coefficients_run source.loops (iterators l.unknowns l.target (target_factor claim) target.loops) s

abbrev pub bound_run : Claim → DepEnd → DepEnd → Layout → Constraints → Result (List Affine) Wide
bound_run claim source target l s =
    coefficients_run (source.loops + target.loops)
    (nones l.unknowns (binds_between source target s) ++ parameters l.unknowns 0 (bound_factor claim) s.parameters) s

pub linear_run : (claim : Claim) (source target : DepEnd) (l : Layout) (s : Constraints)
    → l ≡ layout_of s.parameters source target → source.loops + target.loops ≤ s.dimensions
    → coefficients_run 0 (linear claim source target (binds_between source target s) s.parameters) s
    ≡ together (source_run claim source l s) (target_run claim source target l s) (bound_run claim source target l s)
unfolding linear
linear_run claim source target l s is dims =
    let m = layout_of s.parameters source target in
    let first = iterators m.unknowns m.source (source_factor claim) source.loops in
    let second = iterators m.unknowns m.target (target_factor claim) target.loops in
    let third = nones m.unknowns (binds_between source target s)
    ++ parameters m.unknowns 0 (bound_factor claim) s.parameters in
    let a = coefficients_append 0 first (second ++ third) s in
    let b = coefficients_append source.loops second third s in
    let at : 0 + length first ≡ source.loops = omega (
      arith,
      iterators_length m.unknowns m.source (source_factor
          claim) source.loops,
    ) in
    let behind : source.loops + length second ≡ source.loops + target.loops =
    omega (arith, iterators_length m.unknowns m.target (target_factor claim) target.loops) in
    let whole = a
    ∙ ap (λ (i : ℕ). coefficients_run 0 first s >>= λ fs. coefficients_run i (second ++ third) s >>= λ gs. Ok (fs ++
    gs)) at
    ∙ ap (λ (r : Result (List Affine) Wide). coefficients_run 0 first s >>= λ fs. r >>= λ gs. Ok (fs ++ gs)) b
    ∙ ap (λ (i : ℕ). together (coefficients_run 0 first s) (coefficients_run source.loops second s) (coefficients_run
    i third s)) behind in
    subst (λ (k : Layout). coefficients_run 0 (first ++ (second ++ third)) s
    ≡ together (source_run claim source k s) (target_run claim source target k s) (bound_run claim source target k s))
    (sym is) whole

-- two runs, what they give put together
abbrev pub both : Result (List Affine) Wide → Result (List Affine) Wide → Result (List Affine) Wide
both a b = a >>= λ fs. b >>= λ gs. Ok (fs ++ gs)

pub rest_run : (claim : Claim) (source target : DepEnd) (n : ℕ) (s : Constraints)
    → source.loops + target.loops ≤ s.dimensions
    → coefficients_run (source.loops + target.loops)
    (nones n (binds_between source target s) ++ parameters n 0 (bound_factor claim) s.parameters) s
    ≡ both (coefficients_run (source.loops + target.loops) (nones n (binds_between source target s)) s)
    (coefficients_run s.dimensions (parameters n 0 (bound_factor claim) s.parameters) s)
rest_run claim source target n s within =
    let d = source.loops + target.loops in
    let b = binds_between source target s in
    let last = parameters n 0 (bound_factor claim) s.parameters in
    let at : d + length (nones n b) ≡ s.dimensions = let k = nones_length n b in omega arith in
    coefficients_append d (nones n b) last s
    ∙ ap (λ (i : ℕ). both (coefficients_run d (nones n b) s) (coefficients_run i last s)) at

pub fails-both : (stop : FormStop) (a b : Result (List Affine) Wide) → Fails stop a → Fails stop (both a b)
fails-both (form_stop.Wide w) a b h = ap (λ (r : Result (List Affine) Wide). both r b) h
fails-both form_stop.NoMemory a b h = tt

pub gains-both : {U : Type 0} (old mid new : List Affine) (a b : Result (List Affine) Wide) (result : Result U FormStop)
    → with_more old a ≡ Ok mid → Gains mid new result b → Gains old new result (both a b)
gains-both old mid new a b (Ok x) first second =
    let m = with_more-ok old mid a first in
    let n = with_more-ok mid new b second in
    ap₂ (λ (q r : Result (List Affine) Wide). with_more old (both q r)) m.1 n.1
    ∙ ap (λ (fs : List Affine). Ok fs)
    (sym (append_assoc old m.0 n.0) ∙ ap (λ (fs : List Affine). fs ++ n.0) (sym m.2) ∙ sym n.2)
gains-both old mid new a b (Err (form_stop.Wide w)) first second =
    let m = with_more-ok old mid a first in
    ap₂ (λ (q r : Result (List Affine) Wide). both q r) m.1 second
gains-both old mid new a b (Err form_stop.NoMemory) first second = tt

pub fails-same : (stop : FormStop) (r q : Result (List Affine) Wide) → r ≡ q → Fails stop r → Fails stop q
fails-same (form_stop.Wide w) r q same h = sym same ∙ h
fails-same form_stop.NoMemory r q same h = tt

pub fails-first : (stop : FormStop) (a b c : Result (List Affine) Wide) → Fails stop a → Fails stop (together a b c)
fails-first (form_stop.Wide w) a b c h = ap (λ (r : Result (List Affine) Wide). together r b c) h
fails-first form_stop.NoMemory a b c h = tt

pub fails-second : (stop : FormStop) (old mid : List Affine) (a b c : Result (List Affine) Wide)
    → with_more old a ≡ Ok mid
    → Fails stop b → Fails stop (together a b c)
fails-second (form_stop.Wide w) old mid a b c first h =
    let m = with_more-ok old mid a first in
    ap₂ (λ (q r : Result (List Affine) Wide). together q r c) m.1 h
fails-second form_stop.NoMemory old mid a b c first h = tt

pub gains-together : {U : Type 0} (old mid late new : List Affine) (a b c : Result (List Affine) Wide) (result :
    Result U FormStop)
    → with_more old a ≡ Ok mid → with_more mid b ≡ Ok late → Gains late new result c
    → Gains old new result (together a b c)
gains-together old mid late new a b c (Ok x) first second third =
    let m = with_more-ok old mid a first in
    let n = with_more-ok mid late b second in
    let o = with_more-ok late new c third in
    let joined : old ++ (m.0 ++ (n.0 ++ o.0)) ≡ new =
    sym (append_assoc old m.0 (n.0 ++ o.0)) ∙ ap (λ (fs : List Affine). fs ++ (n.0 ++ o.0)) (sym m.2)
    ∙ sym (append_assoc mid n.0 o.0) ∙ ap (λ (fs : List Affine). fs ++ o.0) (sym n.2) ∙ sym o.2 in
    ap₂ (λ (q r : Result (List Affine) Wide). with_more old (together q r c)) m.1 n.1
    ∙ ap (λ (r : Result (List Affine) Wide). with_more old (together (Ok m.0) (Ok n.0) r)) o.1
    ∙ ap (λ (fs : List Affine). Ok fs) joined
gains-together old mid late new a b c (Err (form_stop.Wide w)) first second third =
    let m = with_more-ok old mid a first in
    let n = with_more-ok mid late b second in
    ap₂ (λ (q r : Result (List Affine) Wide). together q r c) m.1 n.1
    ∙ ap (λ (r : Result (List Affine) Wide). together (Ok m.0) (Ok n.0) r) third
gains-together old mid late new a b c (Err form_stop.NoMemory) first second third = tt

pub gains-same : {U : Type 0} (old new : List Affine) (r q : Result (List Affine) Wide) (result : Result U FormStop)
    → r ≡ q → Gains old new result r → Gains old new result q
gains-same old new r q (Ok x) same h = ap (λ (s : Result (List Affine) Wide). with_more old s) (sym same) ∙ h
gains-same old new r q (Err (form_stop.Wide w)) same h = sym same ∙ h
gains-same old new r q (Err form_stop.NoMemory) same h = tt

-- the posed system
pub posed-halts : (budget : ℕ) (claim : Claim) (source target : DepEnd) (s : Constraints) (stop : FormStop)
    → Fails stop (matching_run (linear claim source target (binds_between source target s) s.parameters)
    (constant claim source target s.parameters) s)
    → Halts budget (stuck_of_form stop) (posed_run claim source target s)
unfolding posed_run
posed-halts budget claim source target s stop h =
    let run = matching_run (linear claim source target (binds_between source target s) s.parameters)
    (constant claim source target s.parameters) s in
    halts-then budget (stuck_of_form stop) (formed run)
    (λ (es : List Affine). Ok (posed (layout_of s.parameters source target).unknowns (multipliers_of s) es))
    (halts-formed budget stop run h)

pub posed-sized : (claim : Claim) (source target : DepEnd) (s : Constraints) (es rows : List Affine) (n k all : ℕ)
    → n ≡ (layout_of s.parameters source target).unknowns → k ≡ multipliers_of s → all ≡ n + k
    → matching_run (linear claim source target (binds_between source target s) s.parameters)
    (constant claim source target s.parameters) s ≡ Ok es
    → own_rows n k ≡ rows → IsSized (all + 0) es rows
posed-sized claim source target s es rows n k all unknowns count total formed own =
    let owns = linear claim source target (binds_between source target s) s.parameters in
    let last = constant claim source target s.parameters in
    let size : n + k ≡ all + 0 = omega arith in
    let many : k ≡ suc (length (rows_of s)) = count ∙ multipliers_are s in
    let each = subst (λ (m : ℕ). All (λ l. length l ≡ m) owns) (sym unknowns)
    (linear_sized claim source target (binds_between source target s) s.parameters) in
    let matched = matched_sized n k 0 owns last (rows_of s) each (constant_length claim source target s.parameters ∙
    sym unknowns) many in
    record {
      equalities_sized = subst (λ (fs : List Affine). All (λ f. variables_of f ≡ all + 0) fs) (sym (matching_is owns
          last s es formed))
          (subst (λ (m : ℕ). All (λ f. variables_of f ≡ m) (matched_from 0 owns last (rows_of s))) size matched);
      rows_sized = subst (λ (fs : List Affine). All (λ f. variables_of f ≡ all + 0) fs) own (own_rows_speak n k (all
          + 0) size);
    }

pub posed-gives : (claim : Claim) (source target : DepEnd) (s t : Constraints) (es rows : List Affine) (n k all : ℕ)
    → n ≡ (layout_of s.parameters source target).unknowns → k ≡ multipliers_of s → all ≡ n + k
    → matching_run (linear claim source target (binds_between source target s) s.parameters)
    (constant claim source target s.parameters) s ≡ Ok es
    → own_rows n k ≡ rows → t ≡ system_of all 0 es rows → posed_run claim source target s ≡ Ok t
unfolding posed_run
posed-gives claim source target s t es rows n k all unknowns count total run own is =
    let made : posed n k es ≡ t =
    ap₂ (λ (m : ℕ) (fs : List Affine). system_of m 0 es fs) (sym total) own ∙ sym is in
    ap (λ (r : Result (List Affine) Wide). formed r >> λ (fs : List Affine).
    Ok (posed (layout_of s.parameters source target).unknowns (multipliers_of s) fs)) run
    ∙ ap₂ (λ (m j : ℕ). Ok (posed m j es)) (sym unknowns) (sym count) ∙ ap (λ (u : Constraints). Ok u) made
