-- Parts of a node, cut by the rows of one set after another.
use Rattle.scop_syntax.proofs.Common.{◌≡◌, ℕ, zero, suc, ◌+◌, ◌<◌, Bool, true, false, ℤ, pos, negsuc, List, [], ◌∷◌}
use Rattle.scop_syntax.proofs.Common.{◌++◌, length, take, get_or, ◌⊎◌, inl, inr, refl, sym, ap, subst, ◌∙◌, All, arith}
use Rattle.scop_syntax.proofs.Common.{◌≤ℤ◌, ◌<ℤ◌, not, IsTrue, ints, All-append, All-cons, All-head, All-nil, All-tail}
use Rattle.scop_syntax.proofs.Common.{Affine, complement, value_of, value_of-complement, le_or_lt, get_or-multiples}
use Rattle.scop_syntax.proofs.Common.{length-multiples, mul_neg_left, mul_one_left}
use Rattle.fractions.specs.Elimination.{coefficient_of}
use Rattle.integer_sets.specs.Scanned.{Scanned}
use Rattle.plain_scan.specs.Between.{HasSmallNumbers}
use Rattle.plain_scan.specs.Sets.{IsKeyOf, Keys}
use Rattle.plain_scan.specs.steps.Serving.{AllAtLeast}
use Rattle.plain_scan.specs.declared.outline.Shadow.{Shadow}
use Rattle.plain_scan.specs.declared.set_outline.Outline.{Outline}
use Rattle.plain_scan.specs.Hulls.{IsAlike, sets_in}
use Rattle.plain_scan.proofs.CodeBounds.{take_next}
use Rattle.plain_scan.proofs.Pieces.{all_append}
use Rattle.plain_scan.proofs.HullLoops.{row_holds}
use Rattle.scop_syntax.specs.Limits.{AreInRange}
use Rattle.split_scan.specs.steps.Questions.{IsCut, IsVoid}
use Rattle.split_scan.specs.steps.Parts.{Goes, HasMarks, Implies, InPart, IsCell, IsHeld, IsNext, IsPart, Keeps}
use Rattle.split_scan.specs.steps.Parts.{staying}
use Rattle.split_scan.specs.declared.part.Part.{Part}

-- the keys of the sets that stay are keys of all
pub keys_of_all : (bs : List Bool) (sets : List Scanned) (params r : List ℤ) → Keys (staying bs sets) params r
    → Keys sets params r
keys_of_all [] sets params r h = h
keys_of_all (b ∷ bs) [] params r h = h
keys_of_all (true ∷ bs) (s ∷ sets) params r (inl h) = inl h
keys_of_all (true ∷ bs) (s ∷ sets) params r (inr h) = inr (keys_of_all bs sets params r h)
keys_of_all (false ∷ bs) (s ∷ sets) params r h = inr (keys_of_all bs sets params r h)

-- one mark more: the set stays
pub staying_true : (bs : List Bool) (sets : List Scanned) → staying (bs ++ true ∷ []) sets ≡ staying bs sets
staying_true [] [] = refl
staying_true [] (s ∷ sets) = refl
staying_true (b ∷ bs) [] = refl
staying_true (true ∷ bs) (s ∷ sets) = ap (λ (ss : List Scanned). s ∷ ss) (staying_true bs sets)
staying_true (false ∷ bs) (s ∷ sets) = staying_true bs sets

-- or it goes, and only its keys are lost
pub staying_false : (bs : List Bool) (sets : List Scanned) (s : Scanned) (params r : List ℤ) → IsNext bs sets s
    → (IsKeyOf params s r → ⊥) → Keys (staying bs sets) params r → Keys (staying (bs ++ false ∷ []) sets) params r
staying_false [] [] s params r next never h = absurd next
staying_false [] (t ∷ sets) s params r next never (inl h) = absurd (never (subst (λ q. IsKeyOf params q r) next h))
staying_false [] (t ∷ sets) s params r next never (inr h) = h
staying_false (b ∷ bs) [] s params r next never h = absurd next
staying_false (true ∷ bs) (t ∷ sets) s params r next never (inl h) = inl h
staying_false (true ∷ bs) (t ∷ sets) s params r next never (inr h) = inr (staying_false bs sets s params r next never h)
staying_false (false ∷ bs) (t ∷ sets) s params r next never h = staying_false bs sets s params r next never h

-- a row or its complement holds
pub one_side : (f : Affine) (point : List ℤ) → (pos 0 ≤ℤ value_of f point) ⊎ (pos 0 ≤ℤ value_of (complement f) point)
one_side f point = by_order (le_or_lt (pos 0) (value_of f point))
  where
    by_order : (pos 0 ≤ℤ value_of f point) ⊎ (value_of f point <ℤ pos 0)
        → (pos 0 ≤ℤ value_of f point) ⊎ (pos 0 ≤ℤ value_of (complement f) point)
    by_order (inl h) = inl h
    by_order (inr h) = let e = value_of-complement f point in inr (omega (arith, ints, h, e))

pub complement_cut : (m n : ℕ) (f : Affine) → IsCut m n f → HasSmallNumbers (complement f) → IsCut m n (complement f)
complement_cut m n f is small = record {
  sized = length-multiples (negsuc 0) f.coefficients ∙ is.sized;
  small = small;
  bounds = λ e.
      let g = get_or-multiples (negsuc 0) f.coefficients m in
      let t = mul_neg_left (pos 1) (coefficient_of m f) in
      let o = mul_one_left (coefficient_of m f) in
      is.bounds (omega (arith, ints, e, g, t, o));
}

-- a cell more
pub one_cell : (m n : ℕ) (old new : List Part) (p : Part) → new ≡ old ++ p ∷ [] → IsCell m n p
    → All (IsCell m n) old → All (IsCell m n) new
one_cell m n old new p is one olds =
    subst (All (IsCell m n)) (sym is)
    (All-append (IsCell m n) old (p ∷ []) olds (All-cons (IsCell m n) p [] one (All-nil (IsCell m n))))

-- parts one behind another
pub in_front_part : (ps qs : List Part) (point : List ℤ) → InPart ps point → InPart (ps ++ qs) point
in_front_part [] qs point h = absurd h
in_front_part (p ∷ ps) qs point (inl h) = inl h
in_front_part (p ∷ ps) qs point (inr h) = inr (in_front_part ps qs point h)

pub in_back_part : (ps qs : List Part) (point : List ℤ) → InPart qs point → InPart (ps ++ qs) point
in_back_part [] qs point h = h
in_back_part (p ∷ ps) qs point h = inr (in_back_part ps qs point h)

pub in_part_append : (ps qs : List Part) (point : List ℤ) → InPart (ps ++ qs) point → InPart ps point ⊎ InPart qs point
in_part_append [] qs point h = inr h
in_part_append (p ∷ ps) qs point (inl h) = inl (inl h)
in_part_append (p ∷ ps) qs point (inr h) = elim (in_part_append ps qs point h) [
  | inl g ↦ inl (inr g)
  | inr g ↦ inr g
]

-- a cell is cut by a row of a set
pub cell_more : (m n : ℕ) (row : Affine) (cuts : List Affine) (old new : List Part) (p : Part) → IsCut m n row
    → HasSmallNumbers (complement row) → p.cuts.items ≡ cuts ++ complement row ∷ [] → new ≡ old ++ p ∷ []
    → All (IsCut m n) cuts → All (IsCell m n) old → All (IsCell m n) new
cell_more m n row cuts old new p is small cuts_is new_is h olds =
    let far = complement row in
    one_cell m n old new p new_is (subst (All (IsCut m n)) (sym cuts_is) (All-append (IsCut m n) cuts (far ∷ []) h
    (All-cons (IsCut m n) far [] (complement_cut m n row is small) (All-nil (IsCut m n))))) olds

pub goes_more : (m : ℕ) (inside : List Affine) (row : Affine) (cuts less : List Affine) (old new : List Part) (p : Part)
    → less ≡ cuts ++ row ∷ [] → p.cuts.items ≡ cuts ++ complement row ∷ [] → new ≡ old ++ p ∷ []
    → Goes m inside cuts old less new
goes_more m inside row cuts less old new p less_is cuts_is new_is params outer x at held = by_side held
  where
    point : List ℤ
    point = outer ++ x ∷ params

    cut_at : AllAtLeast cuts point → (pos 0 ≤ℤ value_of row point) ⊎ (pos 0 ≤ℤ value_of (complement row) point)
        → IsHeld less new point
    cut_at h (inl a) = inl (subst (λ fs. AllAtLeast fs point) (sym less_is) (all_append cuts (row ∷ []) point h
        (a, tt)))
    cut_at h (inr a) =
        inr (subst (λ ps. InPart ps point) (sym new_is) (in_back_part old (p ∷ []) point
        (inl (subst (λ fs. AllAtLeast fs point) (sym cuts_is) (all_append cuts (complement row ∷ []) point h
        (a, tt))))))

    by_side : IsHeld cuts old point → IsHeld less new point
    by_side (inl h) = cut_at h (one_side row point)
    by_side (inr h) = inr (subst (λ ps. InPart ps point) (sym new_is) (in_front_part old (p ∷ []) point h))

-- all rows that no point of the set leaves
pub implied_at : (m : ℕ) (s : Scanned) (rows : List Affine) → All (Implies m s) rows → (params outer r : List ℤ) (x : ℤ)
    → AreInRange params → length outer ≡ m → IsKeyOf params s (outer ++ x ∷ r)
    → AllAtLeast rows (outer ++ x ∷ params)
implied_at m s [] implies params outer r x range size key = tt
implied_at m s (f ∷ rows) implies params outer r x range size key = (
  All-head (Implies m s) f rows implies params outer x r range size key,
  implied_at m s rows (All-tail (Implies m s) f rows implies) params outer r x range size key,
)

-- a mark more: the set goes where it has no points
pub keeps_mark : (m : ℕ) (inside : List Affine) (all : List Scanned) (s : Scanned) (rows cuts : List Affine)
    (stays : List Bool) (none : Bool) → (IsTrue none → IsVoid m inside (cuts ++ rows)) → IsNext stays all s
    → All (Implies m s) rows → Keeps m inside all stays cuts → Keeps m inside all (stays ++ not none ∷ []) cuts
keeps_mark m inside all s rows cuts stays false void next implies keeps params outer x at hold r key =
    subst (λ ss. Keys ss params (outer ++ x ∷ r)) (sym (staying_true stays all)) (keeps params outer x at hold r key)
keeps_mark m inside all s rows cuts stays true void next implies keeps params outer x at hold r key =
    staying_false stays all s params (outer ++ x ∷ r) next
    (λ is. void refl params outer x at (all_append cuts rows (outer ++ x ∷ params) hold
    (implied_at m s rows implies params outer r x at.parameters at.size is))) (keeps params outer x at hold r key)

-- parts of cells, one by one
pub part_more : (m n : ℕ) (inside : List Affine) (all : List Scanned) (cuts : List Affine) (old new : List Part)
    (p : Part) → p.cuts.items ≡ cuts → new ≡ old ++ p ∷ [] → All (IsCut m n) cuts
    → Keeps m inside all p.stays.items cuts → All (IsPart m n inside all) old → All (IsPart m n inside all) new
part_more m n inside all cuts old new p cuts_is new_is rows keeps olds =
    let P = IsPart m n inside all in
    subst (All P) (sym new_is) (All-append P old (p ∷ []) olds (All-cons P p [] (record {
      cuts = subst (All (IsCut m n)) (sym cuts_is) rows;
      keeps = subst (Keeps m inside all p.stays.items) (sym cuts_is) keeps;
    }) (All-nil P)))

pub marks_more : (i : ℕ) (old new : List Part) (p : Part) → new ≡ old ++ p ∷ [] → HasMarks i p
    → All (HasMarks i) old → All (HasMarks i) new
marks_more i old new p is one olds =
    subst (All (HasMarks i)) (sym is)
    (All-append (HasMarks i) old (p ∷ []) olds (All-cons (HasMarks i) p [] one (All-nil (HasMarks i))))

pub near_goes : (cuts : List Affine) (old new : List Part) (p : Part) (point : List ℤ) → p.cuts.items ≡ cuts
    → new ≡ old ++ p ∷ [] → IsHeld cuts old point → InPart new point
near_goes cuts old new p point cuts_is new_is (inl h) =
    subst (λ ps. InPart ps point) (sym new_is) (in_back_part old (p ∷ []) point
    (inl (subst (λ fs. AllAtLeast fs point) (sym cuts_is) h)))
near_goes cuts old new p point cuts_is new_is (inr h) =
    subst (λ ps. InPart ps point) (sym new_is) (in_front_part old (p ∷ []) point h)

-- parts one by one
pub held_next : (ps : List Part) (k : ℕ) (p : Part) (old : List Part) (point : List ℤ) → p ≡ get_or ps k p
    → k < length ps → (InPart (take k ps) point → InPart old point) → InPart (take (k + 1) ps) point
    → IsHeld p.cuts.items old point
held_next ps k p old point is inside before h =
    by_side (in_part_append (take k ps) (p ∷ []) point (subst (λ qs. InPart qs point) (take_next ps k p is inside) h))
  where
    by_side : InPart (take k ps) point ⊎ InPart (p ∷ []) point → IsHeld p.cuts.items old point
    by_side (inl a) = inr (before a)
    by_side (inr (inl a)) = inl a
    by_side (inr (inr a)) = absurd a

-- sets one by one
pub next_at : (os : List Outline) (i : ℕ) (o : Outline) → o ≡ get_or os i o → i < length os → (stays : List Bool)
    → length stays ≡ i → IsNext stays (sets_in os) o.set.now
next_at [] i o is inside stays size = absurd (omega (arith, inside))
next_at (p ∷ os) zero o is inside [] size = sym (ap (λ (q : Outline). q.set.now) is)
next_at (p ∷ os) (suc i) o is inside [] size = absurd (omega (arith, size))
next_at (p ∷ os) zero o is inside (b ∷ stays) size = absurd (omega (arith, size))
next_at (p ∷ os) (suc i) o is inside (b ∷ stays) size =
    next_at os i o is (omega (arith, inside)) stays (omega (arith, size))

-- no point of a set leaves the rows of its shadow
pub implied_rows : (depth m n : ℕ) (o : Outline) (d : Shadow) (rows : List Affine) → IsAlike depth n o
    → o.set.now.system.dimensions ≡ m + suc depth → rows ≡ (get_or o.shadows.items depth d).rows.items
    → All (Implies m o.set.now) rows
implied_rows depth m n o d rows alike dims is =
    subst (All (Implies m o.set.now)) (sym is) (λ k e inside params outer x r range size key.
    row_holds depth m (get_or (get_or o.shadows.items depth d).rows.items k e) o dims
    ((o.are.each depth d alike.inside).rows k e inside).holds params outer x r range size key)
