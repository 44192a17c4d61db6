-- Eliminations, one after another.
use Rattle.whole_numbers.proofs.Common.{◌≡◌, ℕ, suc, ◌+◌, ◌-◌, ◌<◌, List, sym, ◌∙◌, ap, ap₂, subst, arith, ◌≤◌, Result}
use Rattle.whole_numbers.proofs.Common.{Ok, Err, IfOk, Affine}
use Rattle.integer_sets.specs.Constraints.{Constraints, IsSized, system_of, variables_in}
use Rattle.fm_projection.specs.declared.stop.FmStop.{FmStop}
use Rattle.fm_projection.specs.Gives.{Eliminates}
use Rattle.farkas.specs.declared.claim.Claim.{Claim}
use Rattle.iteration_domains.specs.declared.dep.DepEnd.{DepEnd}
use Rattle.farkas.specs.declared.stuck.Stuck.TheVariants as stuck
use Rattle.iteration_domains.specs.Dependence.{IsOne}
use Rattle.iteration_domains.specs.Dependence.{binds_between}
use Rattle.farkas.specs.Unknowns.{layout_of}
use Rattle.farkas.specs.Claims.{linear, constant}
use Rattle.farkas.specs.Matching.{matching_run, multipliers_of}
use Rattle.farkas.specs.Run.{Halt, ◌>>◌, formed, eliminating, kept_from, dropped_run, without_column, narrowing}
use Rattle.farkas.specs.Run.{left_run, posed, posed_run, rows_run}
use Rattle.farkas.specs.Gives.{Halts, Follows}
use Rattle.farkas.specs.steps.Questions.{stuck_of_elimination}
use Rattle.farkas.specs.Meaning.{IsFarkas}
use Rattle.farkas.proofs.Chains.{then-ok, halts-then, halts-after, halts-same, eliminating-ok, halts-eliminating}
use Rattle.farkas.proofs.Meaning.{rows-farkas}

-- one elimination without its column
pub narrowing-halts : (budget n i : ℕ) (s : Constraints) (stop : FmStop) → Eliminates i s (Err stop)
    → Halts budget (stuck_of_elimination stop) (narrowing n i s)
narrowing-halts budget n i s stop h =
    halts-then budget (stuck_of_elimination stop) (eliminating i s) (λ (t : Constraints). Ok (without_column n i t))
    (halts-eliminating budget i s stop h)

pub narrowing-gives : (n i : ℕ) (s t u : Constraints) → Eliminates i s (Ok t) → u ≡ without_column n i t
    → narrowing n i s ≡ Ok u
narrowing-gives n i s t u h is =
    ap (λ (r : Result Constraints Halt). r >> λ t. Ok (without_column n i t)) (eliminating-ok i s t h.0 h.1)
    ∙ ap (λ (w : Constraints). Ok w) (sym is)

pub narrowing-shape : (n i : ℕ) (s t : Constraints) → narrowing n i s ≡ Ok t → (t.dimensions ≡ n) × (t.parameters ≡ 0)
narrowing-shape n i s t h =
    let c = then-ok (eliminating i s) (λ (e : Constraints). Ok (without_column n i e)) t h in
    let is : without_column n i c.0 ≡ t = cc (c.2) in
    (sym (ap (λ (u : Constraints). u.dimensions) is), sym (ap (λ (u : Constraints). u.parameters) is))

dropped-shape : (budget k : ℕ) (s t : Constraints) → dropped_run budget k s ≡ Ok t
    → (t.dimensions ≡ s.dimensions) × (t.parameters ≡ 0)
unfolding dropped_run
dropped-shape budget k s t h =
    let c = then-ok (kept_from budget s k) (λ (rows : List Affine). Ok (system_of s.dimensions 0 s.equalities rows))
    t h in
    let is : system_of s.dimensions 0 s.equalities c.0 ≡ t = cc (c.2) in
    (sym (ap (λ (u : Constraints). u.dimensions) is), sym (ap (λ (u : Constraints). u.parameters) is))

left_first : (budget u : ℕ) (s : Constraints) → u < s.dimensions
    → left_run budget u (s.dimensions - u) s
    ≡ (narrowing (s.dimensions - 1) u s >> λ t. dropped_run budget (s.dimensions - 1 - u) t >> λ kept.
    left_run budget u (s.dimensions - 1 - u) kept)
left_first budget u s inside =
    let k = s.dimensions - 1 - u in
    let count : s.dimensions - u ≡ suc k = omega arith in
    let size : u + k ≡ s.dimensions - 1 = omega arith in
    ap (λ (j : ℕ). left_run budget u j s) count
    ∙ ap (λ (n : ℕ). narrowing n u s >> λ t. dropped_run budget k t >> λ kept. left_run budget u k kept) size

pub left-halts-first : (budget u : ℕ) (s : Constraints) (e : stuck.the_data) (run : Result Constraints Halt)
    → u < s.dimensions
    → left_run budget u (s.dimensions - u) s ≡ run → Halts budget e (narrowing (s.dimensions - 1) u s)
    → Halts budget e run
left-halts-first budget u s e run inside same h =
    let k = s.dimensions - 1 - u in
    let more : Constraints → Result Constraints Halt = λ t. dropped_run budget k t >> λ kept. left_run budget u k
    kept in
    halts-same budget e (narrowing (s.dimensions - 1) u s >> more) run (sym (left_first budget u s inside) ∙ same)
    (halts-then budget e (narrowing (s.dimensions - 1) u s) more h)

pub left-halts-second : (budget u : ℕ) (s t : Constraints) (e : stuck.the_data) (own : ℕ) (run : Result Constraints
    Halt)
    → u < s.dimensions → left_run budget u (s.dimensions - u) s ≡ run → narrowing (s.dimensions - 1) u s ≡ Ok t
    → own ≡ t.dimensions - u → Halts budget e (dropped_run budget own t) → Halts budget e run
left-halts-second budget u s t e own run inside same first is h =
    let k = s.dimensions - 1 - u in
    let shape = narrowing-shape (s.dimensions - 1) u s t first in
    let dims = shape.0 in
    let count : own ≡ k = omega arith in
    let more : Constraints → Result Constraints Halt = λ t. dropped_run budget k t >> λ kept. left_run budget u k
    kept in
    let asked = subst (λ (j : ℕ). Halts budget e (dropped_run budget j t)) count h in
    halts-same budget e (narrowing (s.dimensions - 1) u s >> more) run (sym (left_first budget u s inside) ∙ same)
    (halts-after budget e (narrowing (s.dimensions - 1) u s) t more first
    (halts-then budget e (dropped_run budget k t) (λ kept. left_run budget u k kept) asked))

pub record Left (budget u : ℕ) (s kept : Constraints) : Type 0 where
  pub run : left_run budget u (kept.dimensions - u) kept ≡ left_run budget u (s.dimensions - u) s
  pub flat : kept.parameters ≡ 0
  pub less : suc kept.dimensions ≡ s.dimensions

pub left-step : (budget u : ℕ) (s t kept : Constraints) (own : ℕ) → u < s.dimensions
    → narrowing (s.dimensions - 1) u s ≡ Ok t → own ≡ t.dimensions - u → dropped_run budget own t ≡ Ok kept
    → Left budget u s kept
left-step budget u s t kept own inside first is second =
    let k = s.dimensions - 1 - u in
    let shape = narrowing-shape (s.dimensions - 1) u s t first in
    let dims = shape.0 in
    let count : own ≡ k = omega arith in
    let run = subst (λ (j : ℕ). dropped_run budget j t ≡ Ok kept) count second in
    let end = dropped-shape budget k t kept run in
    let size = end.0 in
    let left : kept.dimensions - u ≡ k = omega arith in
    record {
      run = ap (λ (j : ℕ). left_run budget u j kept) left
          ∙ sym (left_first budget u s inside
          ∙ ap (λ (r : Result Constraints Halt). r >> λ t. dropped_run budget k t >> λ kept. left_run budget u k
          kept) first
          ∙ ap (λ (r : Result Constraints Halt). r >> λ kept. left_run budget u k kept) run);
      flat = end.1;
      less = omega arith;
    }

-- all rows
pub posed-shape : (claim : Claim) (source target : DepEnd) (s t : Constraints) → posed_run claim source target s ≡ Ok t
    → (t.dimensions ≡ (layout_of s.parameters source target).unknowns + multipliers_of s) × (t.parameters ≡ 0)
unfolding posed_run
posed-shape claim source target s t h =
    let n = (layout_of s.parameters source target).unknowns in
    let k = multipliers_of s in
    let c = then-ok (formed (matching_run (linear claim source target (binds_between source target s) s.parameters)
    (constant claim source target s.parameters) s))
    (λ (es : List Affine). Ok (posed n k es)) t h in
    let is : posed n k c.0 ≡ t = cc (c.2) in
    (sym (ap (λ (u : Constraints). u.dimensions) is), sym (ap (λ (u : Constraints). u.parameters) is))

pub rows-halt : (budget : ℕ) (claim : Claim) (source target : DepEnd) (s : Constraints) (e : stuck.the_data)
    → Halts budget e (posed_run claim source target s) → Halts budget e (rows_run budget claim source target s)
unfolding rows_run
rows-halt budget claim source target s e h =
    halts-then budget e (posed_run claim source target s)
    (λ (all : Constraints). left_run budget (layout_of s.parameters source target).unknowns (multipliers_of s) all) h

pub rows-left : (budget : ℕ) (claim : Claim) (source target : DepEnd) (s t : Constraints) (n : ℕ)
    → posed_run claim source target s ≡ Ok t → n ≡ (layout_of s.parameters source target).unknowns
    → left_run budget n (t.dimensions - n) t ≡ rows_run budget claim source target s
unfolding rows_run
rows-left budget claim source target s t n h is =
    let shape = posed-shape claim source target s t h in
    let dims = shape.0 in
    let u = (layout_of s.parameters source target).unknowns in
    let count : t.dimensions - n ≡ multipliers_of s = omega arith in
    ap₂ (λ (m k : ℕ). left_run budget m k t) is count
    ∙ sym (ap (λ (r : Result Constraints Halt). r >> λ (all : Constraints). left_run budget u (multipliers_of s) all) h)

pub follows-same : (budget : ℕ) (result : Result Constraints stuck.the_data) (r q : Result Constraints Halt) → r ≡ q
    → Follows {X = Constraints} {Y = Constraints} (λ s. s) budget result r
    → Follows {X = Constraints} {Y = Constraints} (λ s. s) budget result q
follows-same budget (Ok t) r q same h = sym same ∙ h
follows-same budget (Err e) r q same h = halts-same budget e r q same h

pub follows-farkas : (budget : ℕ) (claim : Claim) (source target : DepEnd) (s : Constraints)
    (result : Result Constraints stuck.the_data) → IsSized (variables_in s) s.equalities s.rows
    → source.loops + target.loops ≤ s.dimensions → IsOne source target
    → Follows {X = Constraints} {Y = Constraints} (λ s. s) budget result (rows_run budget claim source target s)
    → IfOk result (IsFarkas claim source target s)
follows-farkas budget claim source target s (Ok t) sized iterators one h =
    rows-farkas budget claim source target s t sized iterators one h
follows-farkas budget claim source target s (Err e) sized iterators one h = tt

pub if_ok : {P Q : Constraints → Type 0} (result : Result Constraints stuck.the_data) → ((t : Constraints) → P t → Q t)
    → IfOk result P → IfOk result Q
if_ok (Ok t) leads h = leads t h
if_ok (Err e) leads h = tt
