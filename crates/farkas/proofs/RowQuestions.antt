-- Questions of rows, one after another.
use Rattle.whole_numbers.proofs.Common.{◌≡◌, ℕ, zero, suc, ◌+◌, ◌<◌, ◌≤◌, Bool, true, false, List, [], ◌∷◌, ◌++◌}
use Rattle.whole_numbers.proofs.Common.{length, get_or, take, drop, refl, sym, ◌∙◌, ap, ap₂, subst, All, arith, inl}
use Rattle.whole_numbers.proofs.Common.{inr, ◌⊎◌, add-one, drop-cons, ◌-◌, negsuc, if◌then◌else◌, Result, Ok, Err}
use Rattle.whole_numbers.proofs.Common.{take_all, take-append_seam, All-cons, All-nil, All-append, All-tail, All-take}
use Rattle.whole_numbers.proofs.Common.{All-drop, Affine, length-multiples}
use Rattle.std.proofs.lemmas.List.{length-append}
use Rattle.std.proofs.Math.ListN.{drop_of_length-le}
use Rattle.affine_forms.specs.declared.stop.FormStop.{FormStop}
use Rattle.affine_forms.specs.Gives.{Fails}
use Rattle.affine_forms.specs.Parts.{variables_of}
use Rattle.integer_sets.specs.Constraints.{Constraints, IsSized, system_of, variables_in}
use Rattle.pip_solver.specs.Nodes.{opposite_run}
use Rattle.pip_solver.specs.declared.stop.Stop.TheVariants as solver
use Rattle.pip_solver.specs.Promises.{Empties}
use Rattle.farkas.specs.declared.stuck.Stuck.TheVariants as stuck
use Rattle.farkas.specs.Run.{Halt, ◌>>◌, formed, emptiness, implied_run, kept_run, others, kept_from}
use Rattle.farkas.specs.Run.{dropped_run}
use Rattle.farkas.specs.steps.Questions.{asking, settled, stuck_of_form, stuck_of_solver}
use Rattle.farkas.specs.Gives.{Halts}
use Rattle.farkas.proofs.Chains.{halts-then, halts-after, halts-same, halts-formed, emptiness-ok, halts-emptiness}
use Rattle.farkas.proofs.DroppedRows.{opposite_is}

-- the negation of the row is too wide
pub implied-unformed : (budget n : ℕ) (es rest : List Affine) (row : Affine) (stop : FormStop)
    → Fails stop (opposite_run row)
    → Halts budget (stuck_of_form stop) (implied_run budget n es rest row)
unfolding implied_run
implied-unformed budget n es rest row stop h =
    halts-then budget (stuck_of_form stop) (formed (opposite_run row))
    (λ g. emptiness budget (system_of n 0 es (rest ++ g ∷ []))) (halts-formed budget stop (opposite_run row) h)

-- the question stops
pub implied-unanswered : (budget n : ℕ) (es rest : List Affine) (row negation : Affine) (question : Constraints)
    (stop : solver.the_data) → opposite_run row ≡ Ok negation → question ≡ system_of n 0 es (rest ++ negation ∷ [])
    → Empties (Err stop) budget question → Halts budget (stuck_of_solver stop) (implied_run budget n es rest row)
unfolding implied_run
implied-unanswered budget n es rest row negation question stop made is h =
    halts-after budget (stuck_of_solver stop) (formed (opposite_run row)) negation
    (λ g. emptiness budget (system_of n 0 es (rest ++ g ∷ []))) (ap (λ r. formed r) made)
    (halts-emptiness budget (system_of n 0 es (rest ++ negation ∷ [])) stop
    (subst (λ (s : Constraints). Empties (Err stop) budget s) is h))

-- the question is answered
pub implied-gives : (budget n : ℕ) (es rest : List Affine) (row negation : Affine) (question : Constraints) (lost :
    Bool)
    → opposite_run row ≡ Ok negation → question ≡ system_of n 0 es (rest ++ negation ∷ [])
    → Empties (Ok lost) budget question → implied_run budget n es rest row ≡ Ok lost
unfolding implied_run
implied-gives budget n es rest row negation question lost made is h =
    ap (λ r. formed r >> λ g. emptiness budget (system_of n 0 es (rest ++ g ∷ []))) made
    ∙ emptiness-ok budget (system_of n 0 es (rest ++ negation ∷ [])) lost
    (subst (λ (s : Constraints). Empties (Ok lost) budget s) is h)

-- sizes
others_all : (P : Affine → Type 0) (rows : List Affine) (at : ℕ) → All P rows → All P (others rows at)
others_all P [] zero all = all
others_all P [] (suc at) all = all
others_all P (r ∷ rows) zero all = All-tail P r rows all
others_all P (r ∷ rows) (suc at) all =
    All-cons P r (others rows at) (all 0 r (omega arith)) (others_all P rows at (All-tail P r rows all))

pub question-sized : (s : Constraints) (at : ℕ) (es rows new : List Affine) (row negation : Affine)
    → IsSized (variables_in s) es rows → s.parameters ≡ 0 → at < length rows → row ≡ get_or rows at row
    → opposite_run row ≡ Ok negation → new ≡ others rows at ++ negation ∷ [] → IsSized (s.dimensions + 0) es new
question-sized s at es rows new row negation sized flat inside is made all =
    let n = s.dimensions in
    let whole : variables_in s ≡ n + 0 = omega arith in
    let Sized : Affine → Type 0 = λ f. variables_of f ≡ n + 0 in
    let rest = subst (λ (m : ℕ). All (λ f. variables_of f ≡ m) rows) whole sized.rows_sized in
    let own : variables_of row ≡ n + 0 =
    subst (λ (f : Affine). variables_of f ≡ n + 0) (sym is) (rest at row inside) in
    let turned : variables_of negation ≡ n + 0 =
    ap (λ (f : Affine). variables_of f) (opposite_is row negation made)
    ∙ length-multiples (negsuc 0) row.coefficients ∙ own in
    record {
      equalities_sized = subst (λ (m : ℕ). All (λ f. variables_of f ≡ m) es) whole sized.equalities_sized;
      rows_sized = subst (λ (fs : List Affine). All Sized fs) (sym all)
          (All-append Sized (others rows at) (negation ∷ []) (others_all Sized rows at rest)
          (All-cons Sized negation [] turned (All-nil Sized)));
    }

pub settled-sized : (q : Constraints) (n count at : ℕ) (es rows rest new : List Affine) (row : Affine)
    → n ≡ q.dimensions → q.parameters ≡ 0 → IsSized (variables_in q) es rows → variables_of row ≡ q.dimensions
    → rest ≡ take count rows → new ≡ take at rest ++ row ∷ drop at rest → IsSized (n + 0) es new
settled-sized q n count at es rows rest new row own flat sized size first is =
    let whole : variables_in q ≡ n + 0 = omega arith in
    let Sized : Affine → Type 0 = λ f. variables_of f ≡ n + 0 in
    let all = subst (λ (m : ℕ). All (λ f. variables_of f ≡ m) rows) whole sized.rows_sized in
    let left = subst (λ (fs : List Affine). All Sized fs) (sym first) (All-take Sized count rows all) in
    let fits : variables_of row ≡ n + 0 = omega arith in
    record {
      equalities_sized = subst (λ (m : ℕ). All (λ f. variables_of f ≡ m) es) whole sized.equalities_sized;
      rows_sized = subst (λ (fs : List Affine). All Sized fs) (sym is)
          (All-append Sized (take at rest) (row ∷ drop at rest) (All-take Sized at rest left)
          (All-cons Sized row (drop at rest) fits (All-drop Sized at rest left)));
    }

-- the others in front of one more
others_length : (rows : List Affine) (at : ℕ) → at < length rows → suc (length (others rows at)) ≡ length rows
others_length [] at inside = absurd (omega arith)
others_length (r ∷ rows) zero inside = refl
others_length (r ∷ rows) (suc at) inside = ap suc (others_length rows at (omega arith))

others_taken : (rest : List Affine) (f : Affine) (count : ℕ) → count ≡ length rest
    → take count (rest ++ f ∷ []) ≡ rest
others_taken rest f count h = ap (λ (n : ℕ). take n (rest ++ f ∷ [])) h ∙ take-append_seam rest (f ∷ [])

-- the row put back
put_back : (rows : List Affine) (at : ℕ) (row : Affine) → at < length rows → row ≡ get_or rows at row
    → take at (others rows at) ++ row ∷ drop at (others rows at) ≡ rows
put_back [] at row inside is = absurd (omega arith)
put_back (r ∷ rows) zero row inside is = ap (λ (f : Affine). f ∷ rows) is
put_back (r ∷ rows) (suc at) row inside is = ap (λ (fs : List Affine). r ∷ fs) (put_back rows at row (omega arith) is)

-- what a question leaves of the system
pub asked-inside : (s q : Constraints) (at : ℕ) (f : Affine) → at < length s.rows → q ≡ asking s at f
    → at < length q.rows
asked-inside s q at f inside is =
    let rest = others s.rows at in
    let size : length (rest ++ f ∷ []) ≡ length rest + 1 = length-append rest (f ∷ []) in
    let more = others_length s.rows at inside in
    let all : at < length (rest ++ f ∷ []) = omega arith in
    subst (λ (u : Constraints). at < length u.rows) (sym is) all

pub settled-is : (s q : Constraints) (at : ℕ) (f row : Affine) (lost : Bool) → at < length s.rows
    → row ≡ get_or s.rows at row → q ≡ asking s at f
    → settled q at lost row ≡ system_of s.dimensions 0 s.equalities (if lost then others s.rows at else s.rows)
settled-is s q at f row lost inside is question =
    ap (λ (u : Constraints). settled u at lost row) question
    ∙ ap (λ (fs : List Affine). system_of s.dimensions 0 s.equalities (if lost then fs else take at fs ++ row ∷ drop at
    fs))
    (others_taken (others s.rows at) f (length (others s.rows at ++ f ∷ []) - 1) (more (others s.rows at)))
    ∙ ap (λ (fs : List Affine). system_of s.dimensions 0 s.equalities (if lost then others s.rows at else fs))
    (put_back s.rows at row inside is)
  where
    more : (rest : List Affine) → length (rest ++ f ∷ []) - 1 ≡ length rest
    more rest = let size : length (rest ++ f ∷ []) ≡ length rest + 1 = length-append rest (f ∷ []) in omega arith

others_front : (rows : List Affine) (at : ℕ) → at < length rows → take at (others rows at) ≡ take at rows
others_front [] at inside = absurd (omega arith)
others_front (r ∷ rows) zero inside = refl
others_front (r ∷ rows) (suc at) inside = ap (λ (fs : List Affine). r ∷ fs) (others_front rows at (omega arith))

others_back : (rows : List Affine) (at : ℕ) → at < length rows → drop at (others rows at) ≡ drop (suc at) rows
others_back [] at inside = absurd (omega arith)
others_back (r ∷ rows) zero inside = refl
others_back (r ∷ rows) (suc at) inside = others_back rows at (omega arith)

front_more : (rows : List Affine) (at : ℕ) (d : Affine) → at < length rows
    → take at rows ++ get_or rows at d ∷ [] ≡ take (suc at) rows
front_more [] at d inside = absurd (omega arith)
front_more (r ∷ rows) zero d inside = refl
front_more (r ∷ rows) (suc at) d inside = ap (λ (fs : List Affine). r ∷ fs) (front_more rows at d (omega arith))

-- a question more
asked_first : (budget : ℕ) (s : Constraints) (at : ℕ) (d : Affine) → at < length s.rows
    → kept_from budget s at
    ≡ (implied_run budget s.dimensions s.equalities (others s.rows at) (get_or s.rows at d) >> λ (drops : Bool).
    kept_run budget s.dimensions s.equalities
    (if drops then take at s.rows else take at s.rows ++ get_or s.rows at d ∷ []) (drop (suc at) s.rows))
asked_first budget s at d inside =
    ap (λ (fs : List Affine). kept_run budget s.dimensions s.equalities (take at s.rows) fs) (drop-cons s.rows at d
    inside)

pub asked-halts : (budget : ℕ) (s : Constraints) (at : ℕ) (d : Affine) (e : stuck.the_data) → at < length s.rows
    → Halts budget e (implied_run budget s.dimensions s.equalities (others s.rows at) (get_or s.rows at d))
    → Halts budget e (kept_from budget s at)
asked-halts budget s at d e inside h =
    let more : Bool → Result (List Affine) Halt = λ (drops : Bool). kept_run budget s.dimensions s.equalities
    (if drops then take at s.rows else take at s.rows ++ get_or s.rows at d ∷ []) (drop (suc at) s.rows) in
    let run = implied_run budget s.dimensions s.equalities (others s.rows at) (get_or s.rows at d) in
    halts-same budget e (run >> more) (kept_from budget s at) (sym (asked_first budget s at d inside))
    (halts-then budget e run more h)

pub dropped-halts : (budget : ℕ) (s : Constraints) (first : ℕ) (e : stuck.the_data)
    → Halts budget e (kept_from budget s first)
    → Halts budget e (dropped_run budget first s)
unfolding dropped_run
dropped-halts budget s first e h =
    halts-then budget e (kept_from budget s first)
    (λ (rows : List Affine). Ok (system_of s.dimensions 0 s.equalities rows)) h

-- what a question leaves
pub record Went (budget : ℕ) (s t : Constraints) (at : ℕ) : Type 0 where
  pub flat : t.parameters ≡ 0
  pub dimensions : t.dimensions ≡ s.dimensions
  pub equalities : t.equalities ≡ s.equalities
  pub goes : ((length t.rows ≡ length s.rows) × (kept_from budget t (at + 1) ≡ kept_from budget s at))
      ⊎ ((suc (length t.rows) ≡ length s.rows) × (kept_from budget t at ≡ kept_from budget s at))

pub went : (budget : ℕ) (s t : Constraints) (at : ℕ) (d : Affine) (lost : Bool) → at < length s.rows
    → implied_run budget s.dimensions s.equalities (others s.rows at) (get_or s.rows at d) ≡ Ok lost
    → t ≡ system_of s.dimensions 0 s.equalities (if lost then others s.rows at else s.rows)
    → Went budget s t at
went budget s t at d true inside answered is = record {
  flat = ap (λ (u : Constraints). u.parameters) is;
  dimensions = ap (λ (u : Constraints). u.dimensions) is;
  equalities = ap (λ (u : Constraints). u.equalities) is;
  goes = inr (
    ap (λ (u : Constraints). suc (length u.rows)) is ∙ others_length s.rows at inside,
    ap (λ (u : Constraints). kept_from budget u at) is
        ∙ ap₂ (λ (fs gs : List Affine). kept_run budget s.dimensions s.equalities fs gs) (others_front s.rows at inside)
        (others_back s.rows at inside)
        ∙ sym (asked_first budget s at d inside ∙ ap (λ (r : Result Bool Halt). r >> λ (drops : Bool).
        kept_run budget s.dimensions s.equalities
        (if drops then take at s.rows else take at s.rows ++ get_or s.rows at d ∷ []) (drop (suc at) s.rows)) answered),
  );
}
went budget s t at d false inside answered is = record {
  flat = ap (λ (u : Constraints). u.parameters) is;
  dimensions = ap (λ (u : Constraints). u.dimensions) is;
  equalities = ap (λ (u : Constraints). u.equalities) is;
  goes = inl (
    ap (λ (u : Constraints). length u.rows) is,
    ap (λ (u : Constraints). kept_from budget u (at + 1)) is
        ∙ ap (λ (i : ℕ). kept_run budget s.dimensions s.equalities (take i s.rows) (drop i s.rows)) (add-one at)
        ∙ sym (asked_first budget s at d inside ∙ ap (λ (r : Result Bool Halt). r >> λ (drops : Bool).
        kept_run budget s.dimensions s.equalities
        (if drops then take at s.rows else take at s.rows ++ get_or s.rows at d ∷ []) (drop (suc at) s.rows)) answered
        ∙ ap (λ (fs : List Affine). kept_run budget s.dimensions s.equalities fs (drop (suc at) s.rows))
        (front_more s.rows at d inside)),
  );
}

pub went-on : (budget : ℕ) (s t : Constraints) (at : ℕ) → Went budget s t at → length t.rows ≡ length s.rows
    → kept_from budget t (at + 1) ≡ kept_from budget s at
went-on budget s t at w same = by_case w.goes
  where
    by_case : (((length t.rows ≡ length s.rows) × (kept_from budget t (at + 1) ≡ kept_from budget s at))
        ⊎ ((suc (length t.rows) ≡ length s.rows) × (kept_from budget t at ≡ kept_from budget s at)))
        → kept_from budget t (at + 1) ≡ kept_from budget s at
    by_case (inl h) = h.1
    by_case (inr h) = let less = h.0 in absurd (omega arith)

pub went-less : (budget : ℕ) (s t : Constraints) (at : ℕ) → Went budget s t at → (length t.rows ≡ length s.rows → ⊥)
    → (suc (length t.rows) ≡ length s.rows) × (kept_from budget t at ≡ kept_from budget s at)
went-less budget s t at w other = by_case w.goes
  where
    by_case : (((length t.rows ≡ length s.rows) × (kept_from budget t (at + 1) ≡ kept_from budget s at))
        ⊎ ((suc (length t.rows) ≡ length s.rows) × (kept_from budget t at ≡ kept_from budget s at)))
        → (suc (length t.rows) ≡ length s.rows) × (kept_from budget t at ≡ kept_from budget s at)
    by_case (inl h) = absurd (other h.0)
    by_case (inr h) = h

-- behind the last row
pub dropped-ends : (budget : ℕ) (s t : Constraints) (first at : ℕ) → length t.rows ≤ at → t.parameters ≡ 0
    → t.dimensions ≡ s.dimensions → t.equalities ≡ s.equalities → kept_from budget t at ≡ kept_from budget s first
    → dropped_run budget first s ≡ Ok t
unfolding dropped_run
dropped-ends budget s t first at past flat dimensions equalities kept =
    let ends : kept_from budget t at ≡ Ok t.rows =
    ap₂ (λ (fs gs : List Affine). kept_run budget t.dimensions t.equalities fs gs) (take_all at t.rows past)
    (drop_of_length-le t.rows past) in
    ap (λ (r : Result (List Affine) Halt). r >> λ rows. Ok (system_of s.dimensions 0 s.equalities rows)) (sym kept ∙
    ends)
    ∙ ap (λ (n : ℕ). Ok (system_of n 0 s.equalities t.rows)) (sym dimensions)
    ∙ ap (λ (es : List Affine). Ok (system_of t.dimensions 0 es t.rows)) (sym equalities)
    ∙ ap (λ (n : ℕ). Ok (system_of t.dimensions n t.equalities t.rows)) (sym flat)
