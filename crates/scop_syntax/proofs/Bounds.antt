-- What the limits of the language give for a run of a kernel.
use Rattle.whole_numbers.proofs.Common.{◌≡◌, ℕ, zero, suc, ◌+◌, ◌^◌, ◌<◌, ◌≤◌, ℤ, pos, negsuc, List, [], ◌∷◌, length}
use Rattle.whole_numbers.proofs.Common.{map, get_or, inl, inr, subst, sym, ◌∙◌, refl, arith, mul-le-mul, mul-one}
use Rattle.whole_numbers.proofs.Common.{one-mul, ◌≤ℤ◌, ◌<ℤ◌, All, unsigned_abs, ints, length-map, All-nil, All-cons}
use Rattle.whole_numbers.proofs.Common.{All-head, All-tail, Affine, value_of}
use Rattle.scop_syntax.specs.Tree.{Access, Expression, read, constant, affine, negated, complemented, cast, binary}
use Rattle.scop_syntax.specs.Tree.{shifted_left, shifted_right, narrowed, Right, assigned, combined, moved_left}
use Rattle.scop_syntax.specs.Tree.{moved_right, combined_narrow, moved_left_narrow, Statement, Declaration, Program}
use Rattle.scop_syntax.specs.Members.{In}
use Rattle.scop_syntax.specs.Walk.{Visit, walk_of}
use Rattle.scop_syntax.specs.Cells.{Cell, accesses, reads_of, reads_with, values}
use Rattle.scop_syntax.specs.Execution.{IsCell, size_of, layout, cell_count, total_cells, cell_number}
use Rattle.scop_syntax.specs.Failures.{IsRanked, VisitsAreRanked}
use Rattle.scop_syntax.specs.Fits.{FitsAll}
use Rattle.scop_syntax.specs.Kernel.{AreAtMost, IsAffine, IsAccess, IsExpression, IsRight, IsStatement, AreTrees}
use Rattle.scop_syntax.specs.Kernel.{IsKernel, AreScopes, ranks_of}
use Rattle.scop_syntax.specs.Limits.{HasParameters, WithinLimits}
use Rattle.scop_syntax.specs.Statements.{Scope, round, under, Placed, Runs, loops_in, point_of, statements_of}
use Rattle.scop_syntax.specs.Walk.{turn_point}
use Rattle.scop_syntax.proofs.Members.{in_append}
use Rattle.scop_syntax.proofs.Sizes.{size, grown_more, five, point_within, value_within, turns_within, params_size}
use Rattle.scop_syntax.proofs.Fits.{fits_all}
use Rattle.scop_syntax.proofs.Statements.{found_at}
use Rattle.scop_syntax.proofs.Kernels.{kernel_placed}
use Rattle.scop_syntax.proofs.Numbers.{number_below}

pub kernel_fits : (program : Program) (params : List ℤ) → HasParameters program params → FitsAll program.body params
kernel_fits program params w =
    let m = grown_more 5 (size params) (2 ^ 18) (params_size program params w) in
    let f = five 5 (omega arith) in
    fits_all (ranks_of program) 5 16 program.body params
    (subst (λ n. AreTrees (ranks_of program) n 5 16 program.body) (sym w.count) w.kernel.body) (omega arith)

scopes_at : (program : Program) (params : List ℤ) (p : Placed) → HasParameters program params
    → In p (statements_of program) → AreScopes (length params) p.scopes × (loops_in p.scopes ≤ 5)
scopes_at program params p w h =
    let is = kernel_placed program p w.kernel h in
    (subst (λ n. AreScopes n p.scopes) (sym w.count) is.scopes, is.few_loops)

entries_at_most : (k : ℕ) (xs : List ℤ) → size xs ≤ k → AreAtMost k xs
entries_at_most k [] h = tt
entries_at_most k (x ∷ xs) h = (omega arith, entries_at_most k xs (omega arith))

pub point_small : (program : Program) (params xs : List ℤ) (p : Placed) → HasParameters program params
    → In p (statements_of program) → Runs p.scopes params xs → AreAtMost (2 ^ 40) (point_of p.scopes params xs)
point_small program params xs p w h runs =
    let s = scopes_at program params p w h in
    entries_at_most (2 ^ 40) (point_of p.scopes params xs)
    (point_within p.scopes params xs s.0 runs s.1 (params_size program params w))

pub value_small : (program : Program) (params xs : List ℤ) (p : Placed) (n : ℕ) (form : Affine)
    → HasParameters program params → In p (statements_of program) → Runs p.scopes params xs → IsAffine n form
    → unsigned_abs (value_of form (point_of p.scopes params xs)) ≤ 2 ^ 45
value_small program params xs p n form w h runs is =
    let s = scopes_at program params p w h in
    value_within n form p.scopes params xs is s.0 runs s.1 (params_size program params w)

turns_from : (scopes : List Scope) (point xs : List ℤ) → Runs scopes point xs → AreAtMost (2 ^ 45) xs
    → All (λ x. (pos 0 ≤ℤ x) × (x <ℤ pos (2 ^ 46))) xs
turns_from [] point [] runs small = All-nil (λ x. (pos 0 ≤ℤ x) × (x <ℤ pos (2 ^ 46)))
turns_from [] point (x ∷ xs) runs small = absurd runs
turns_from (under tests ∷ scopes) point xs runs small = turns_from scopes point xs runs.1 small
turns_from (round head ∷ scopes) point [] runs small = absurd runs
turns_from (round head ∷ scopes) point (x ∷ xs) runs small =
    All-cons (λ x. (pos 0 ≤ℤ x) × (x <ℤ pos (2 ^ 46))) x xs (runs.0, turn_below x runs.0 small.0)
    (turns_from scopes (turn_point head point x) xs runs.2 small.1)
  where
    turn_below : (x : ℤ) → pos 0 ≤ℤ x → unsigned_abs x ≤ 2 ^ 45 → x <ℤ pos (2 ^ 46)
    turn_below (pos n) low small = omega (arith, ints)
    turn_below (negsuc n) low small = absurd (omega (arith, ints))

pub turns_small : (program : Program) (params xs : List ℤ) (p : Placed) → HasParameters program params
    → In p (statements_of program) → Runs p.scopes params xs → All (λ x. (pos 0 ≤ℤ x) × (x <ℤ pos (2 ^ 46))) xs
turns_small program params xs p w h runs =
    let s = scopes_at program params p w h in
    turns_from p.scopes params xs runs (turns_within p.scopes params xs s.0 runs s.1 (params_size program params w))

-- what is read is well formed
read_is : (rs : List ℕ) (n : ℕ) (e : Expression) (a : Access) → IsExpression rs n e → In a (reads_of e)
    → IsAccess rs n a
read_is rs n (read b) a is (inl h) = subst (IsAccess rs n) (sym h) is
read_is rs n (read b) a is (inr h) = absurd h
read_is rs n (constant c) a is h = absurd h
read_is rs n (affine f) a is h = absurd h
read_is rs n (negated e) a is h = read_is rs n e a is h
read_is rs n (complemented e) a is h = read_is rs n e a is h
read_is rs n (cast e) a is h = read_is rs n e a is h
read_is rs n (binary op e f) a is h = elim (in_append a (reads_of e) (reads_of f) h) [
  | inl g ↦ read_is rs n e a is.0 g
  | inr g ↦ read_is rs n f a is.1 g
]
read_is rs n (shifted_left e k) a is h = read_is rs n e a is.1 h
read_is rs n (shifted_right e k) a is h = read_is rs n e a is.1 h
read_is rs n (narrowed w e) a is h = read_is rs n e a is.1 h

reads_are : (rs : List ℕ) (n : ℕ) (place : Access) (r : Right) (a : Access) → IsAccess rs n place → IsRight rs n r
    → In a (reads_with place r) → IsAccess rs n a
reads_are rs n place (assigned e) a at is h = read_is rs n e a is h
reads_are rs n place (combined op e) a at is (inl h) = subst (IsAccess rs n) (sym h) at
reads_are rs n place (combined op e) a at is (inr h) = read_is rs n e a is h
reads_are rs n place (moved_left k) a at is (inl h) = subst (IsAccess rs n) (sym h) at
reads_are rs n place (moved_left k) a at is (inr h) = absurd h
reads_are rs n place (moved_right k) a at is (inl h) = subst (IsAccess rs n) (sym h) at
reads_are rs n place (moved_right k) a at is (inr h) = absurd h
reads_are rs n place (combined_narrow op e) a at is (inl h) = subst (IsAccess rs n) (sym h) at
reads_are rs n place (combined_narrow op e) a at is (inr h) = read_is rs n e a is h
reads_are rs n place (moved_left_narrow k) a at is (inl h) = subst (IsAccess rs n) (sym h) at
reads_are rs n place (moved_left_narrow k) a at is (inr h) = absurd h

pub access_is : (rs : List ℕ) (n : ℕ) (s : Statement) (a : Access) → IsStatement rs n s → In a (accesses s)
    → IsAccess rs n a
access_is rs n s a is (inl h) = subst (IsAccess rs n) (sym h) is.place
access_is rs n s a is (inr h) = reads_are rs n s.place s.right a is.place is.right h

-- the ranks are those of the layout
rank_is : (arrays : List Declaration) (params : List ℤ) (i : ℕ)
    → get_or (map (λ (d : Declaration). length d.extents) arrays) i 0 ≡ length
    (get_or (map (λ (d : Declaration). map size_of (values d.extents params)) arrays) i [])
rank_is [] params i = refl
rank_is (d ∷ ds) params zero =
    sym (length-map (values d.extents params) size_of ∙ length-map d.extents (λ form. value_of form params))
rank_is (d ∷ ds) params (suc i) = rank_is ds params i

access_ranked : (program : Program) (params : List ℤ) (n : ℕ) (a : Access) → IsAccess (ranks_of program) n a
    → IsRanked (layout program params) a
access_ranked program params n a is =
    let l = length-map program.arrays (λ (d : Declaration). length d.extents) in
    let m = length-map program.arrays (λ (d : Declaration). map size_of (values d.extents params)) in
    record { array = let h = is.array in omega arith; rank = is.rank ∙ rank_is program.arrays params a.array }

pub kernel_ranked : (program : Program) (params : List ℤ) → IsKernel program
    → length params ≡ length program.parameters → VisitsAreRanked (layout program params) (walk_of program params)
kernel_ranked program params is count v h a g =
    let f = found_at program.body 0 params v h in
    let p = f.0 in
    let body : In a (accesses p.body) = subst (λ (u : Visit). In a (accesses u.body)) f.4 g in
    let placed = kernel_placed program p is f.2 in
    access_ranked program params (length program.parameters + loops_in p.scopes) a
    (access_is (ranks_of program) (length program.parameters + loops_in p.scopes) p.body a placed.body body)

-- extents and counts
size_at_least : (z : ℤ) → pos 1 ≤ℤ z → 1 ≤ size_of z
size_at_least (pos n) h = omega (arith, ints)
size_at_least (negsuc n) h = absurd (omega (arith, ints))

sizes_at_least : (params : List ℤ) (forms : List Affine) → All (λ form. pos 1 ≤ℤ value_of form params) forms
    → All (λ e. 1 ≤ e) (map size_of (values forms params))
sizes_at_least params [] all = All-nil (λ (e : ℕ). 1 ≤ e)
sizes_at_least params (f ∷ fs) all =
    All-cons (λ e. 1 ≤ e) (size_of (value_of f params)) (map size_of (values fs params))
    (size_at_least (value_of f params) (All-head (λ form. pos 1 ≤ℤ value_of form params) f fs all))
    (sizes_at_least params fs (All-tail (λ form. pos 1 ≤ℤ value_of form params) f fs all))

count_at_least : (es : List ℕ) → All (λ e. 1 ≤ e) es → 1 ≤ cell_count es
count_at_least [] all = omega arith
count_at_least (e ∷ es) all =
    mul-le-mul (All-head (λ e. 1 ≤ e) e es all) (count_at_least es (All-tail (λ e. 1 ≤ e) e es all))

-- an extent is at most the number of cells
extents_within : (k : ℕ) (es : List ℕ) → All (λ e. 1 ≤ e) es → cell_count es ≤ k → All (λ e. (1 ≤ e) × (e ≤ k)) es
extents_within k [] all few = All-nil (λ (e : ℕ). (1 ≤ e) × (e ≤ k))
extents_within k (e ∷ es) all few =
    let h = All-head (λ e. 1 ≤ e) e es all in
    let t = All-tail (λ e. 1 ≤ e) e es all in
    let c = count_at_least es t in
    let same : e ≤ e = omega arith in
    let here = mul-le-mul same c in
    let there = mul-le-mul h (let s : cell_count es ≤ cell_count es = omega arith in s) in
    let one = mul-one e in
    let one' = one-mul (cell_count es) in
    All-cons (λ e. (1 ≤ e) × (e ≤ k)) e es (h, omega arith) (extents_within k es t (omega arith))

counts_within : (k : ℕ) (ess : List (List ℕ)) → total_cells ess ≤ k → All (λ es. cell_count es ≤ k) ess
counts_within k [] few = All-nil (λ (es : List ℕ). cell_count es ≤ k)
counts_within k (es ∷ ess) few =
    All-cons (λ es. cell_count es ≤ k) es ess (omega arith) (counts_within k ess (omega arith))

layout_within : (k : ℕ) (params : List ℤ) (arrays : List Declaration)
    → All (λ (d : Declaration). All (λ form. pos 1 ≤ℤ value_of form params) d.extents) arrays
    → All (λ es. cell_count es ≤ k) (map (λ (d : Declaration). map size_of (values d.extents params)) arrays)
    → All (λ es. All (λ e. (1 ≤ e) × (e ≤ k)) es)
    (map (λ (d : Declaration). map size_of (values d.extents params)) arrays)
layout_within k params [] all few = All-nil (λ (es : List ℕ). All (λ e. (1 ≤ e) × (e ≤ k)) es)
layout_within k params (d ∷ ds) all few =
    let P : Declaration → Type 0 = λ d. All (λ form. pos 1 ≤ℤ value_of form params) d.extents in
    let row = map size_of (values d.extents params) in
    let rows = map (λ (d : Declaration). map size_of (values d.extents params)) ds in
    All-cons (λ es. All (λ e. (1 ≤ e) × (e ≤ k)) es) row rows
    (extents_within k row (sizes_at_least params d.extents (All-head P d ds all))
    (All-head (λ es. cell_count es ≤ k) row rows few))
    (layout_within k params ds (All-tail P d ds all) (All-tail (λ es. cell_count es ≤ k) row rows few))

pub kernel_counts : (program : Program) (params : List ℤ) → WithinLimits program params
    → All (λ extents. cell_count extents ≤ 2 ^ 22) (layout program params)
kernel_counts program params w = counts_within (2 ^ 22) (layout program params) w.cells

pub kernel_extents : (program : Program) (params : List ℤ) → WithinLimits program params
    → All (λ extents. All (λ e. (1 ≤ e) × (e ≤ 2 ^ 22)) extents) (layout program params)
kernel_extents program params w =
    layout_within (2 ^ 22) params program.arrays w.extents (kernel_counts program params w)

pub kernel_numbers : (program : Program) (params : List ℤ) (c : Cell) → WithinLimits program params
    → IsCell (layout program params) c → cell_number (layout program params) c < 2 ^ 22
kernel_numbers program params c w is =
    let n = number_below (layout program params) c is in
    let few = w.cells in
    omega arith

pub ruleset bound_laws = (
  point_small,
  value_small,
  turns_small,
  kernel_ranked,
  kernel_counts,
  kernel_extents,
  kernel_numbers,
)
