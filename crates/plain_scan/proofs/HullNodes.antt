-- Nodes of hulls: each set under all its constraints behind the last loop, and a loop round a node.
use Rattle.scop_syntax.proofs.Common.{◌≡◌, ℕ, zero, suc, ◌+◌, ◌-◌, ◌<◌, Bool, pos, negsuc, List, [], ◌∷◌, get_or, map}
use Rattle.scop_syntax.proofs.Common.{sym, subst, ◌∙◌, All, arith, ints, ◌^◌, eqb, option_eq, Option, Some}
use Rattle.scop_syntax.proofs.Common.{All-cons, All-head, All-nil, All-tail, Affine}
use Rattle.fm_projection.specs.Alone.{place_form}
use Rattle.integer_sets.specs.Constraints.{variables_in}
use Rattle.integer_sets.specs.Scanned.{Scanned}
use Rattle.loop_tree.specs.Fits.{IsSmall}
use Rattle.loop_tree.specs.Tree.{Trees, loop, more, none}
use Rattle.plain_scan.specs.declared.set_outline.Outline.{Outline}
use Rattle.plain_scan.specs.Sets.{HasIterators, NumbersRise, leaves, IsShaped}
use Rattle.plain_scan.specs.Hulls.{IsHull, own_leaf, sets_in}
use Rattle.plain_scan.specs.steps.Pieces.{hull_piece, loops_of}
use Rattle.plain_scan.specs.steps.Nodes.{IsNode}
use Rattle.plain_scan.specs.Rows.{low_bounds, high_bounds}
use Rattle.plain_scan.specs.Sorting.{lows_in, highs_in}
use Rattle.plain_scan.proofs.HullLoops.{dims_in, hull_step, own_coefficient, own_end, sets_are_small, small_forms}
use Rattle.plain_scan.proofs.ScannedTrees.{IsRowOver, hull_rows, leaves_shaped, loop_shaped}
use Rattle.plain_scan.proofs.Shape.{flat_highs, flat_leaves, flat_lows, marks_leaves}
use Rattle.plain_scan.proofs.Smallness.{high_is_number, is_small, leaves_small, loop_small, low_is_number}
use Rattle.plain_scan.proofs.SortedRows.{highs_are_high, highs_of, lows_are_low, lows_of}
use Rattle.plain_scan.proofs.VisitIterators.{leaves_give, loop_gives}

-- all of the sets of outlines
pub over_outlines : (P : Scanned → Type 0) (os : List Outline) → All P (sets_in os) → All (λ o. P o.set.now) os
over_outlines P [] h = All-nil (λ o. P o.set.now)
over_outlines P (o ∷ os) h =
    All-cons (λ o. P o.set.now) o os (All-head P o.set.now (sets_in os) h)
    (over_outlines P os (All-tail P o.set.now (sets_in os) h))

-- the shape of a node's sets
pub dimensions_are : (n p : ℕ) (os : List Outline) → All (IsShaped n p) (sets_in os)
    → All (λ o. o.set.now.system.dimensions ≡ n) os
dimensions_are n p os shaped k o inside = (over_outlines (IsShaped n p) os shaped k o inside).dimensions

pub few_variables : (place left p : ℕ) (os : List Outline) → All (IsShaped (place + left) p) (sets_in os)
    → place + left + p < 2 ^ 32 → All (λ o. variables_in o.set.now.system < 2 ^ 32) os
few_variables place left p os shaped few k d inside =
    let s = over_outlines (IsShaped (place + left) p) os shaped k d inside in
    let n = s.dimensions in
    let q = s.parameters in
    omega (arith, n, q, few)

-- behind the last loop
pub node_end : (left place p : ℕ) (mark : Option ℕ) (os : List Outline) (context : List Affine) (ts : Trees)
    → left ≡ 0 → All (IsShaped (place + left) p) (sets_in os) → NumbersRise (sets_in os)
    → ts ≡ leaves (map own_leaf (sets_in os)) → IsNode left place (place + p) mark (sets_in os) context ts
node_end left place p mark os context ts end shaped rise is =
    subst (λ k. IsNode k place (place + p) mark sets context ts) (sym end)
    (subst (IsNode zero place (place + p) mark sets context) (sym is) (record {
      serves = λ params outer at. own_end place sets (dims_in place os dims) rise params outer (record {
        parameters = at.parameters;
        size = at.size;
        inside = tt;
      });
      turns = leaves_give sets place (λ k d inside. subst (λ m. HasIterators m (get_or sets k d)) same
          (shaped k d inside).iterators);
      small = leaves_small sets (sets_are_small os);
      shaped = leaves_shaped (place + p) os count;
      flat = flat_leaves sets;
      marks = marks_leaves (map own_leaf sets);
    }))
  where
    sets : List Scanned
    sets = sets_in os

    same : place + left ≡ place
    same = omega (arith, end)

    count : All (λ o. variables_in o.set.now.system ≡ place + p) os
    count k d inside =
        let s = over_outlines (IsShaped (place + left) p) os shaped k d inside in
        let a = s.dimensions in
        let b = s.parameters in
        omega (arith, a, b, end)

    dims : All (λ o. o.set.now.system.dimensions ≡ place) os
    dims k d inside = (over_outlines (IsShaped (place + left) p) os shaped k d inside).dimensions ∙ same

-- a loop between a hull's rows round a node
loop_node : (depth place p : ℕ) (mark : Option ℕ) (os : List Outline) (fs : List Affine)
    (h : IsHull depth place (place + 1 + p) os fs) → All (λ o. o.set.now.system.dimensions ≡ place + suc depth) os
    → (flag : Bool) (body : Trees) → flag ≡ option_eq eqb mark (Some place)
    → IsNode depth (suc place) (suc (place + p)) mark (sets_in os) [] body
    → IsNode (suc depth) place (place + p) mark (sets_in os) []
    (loops_of place (hull_piece depth place (place + 1 + p) os fs h flag body ∷ []))
loop_node depth place p mark os fs h dims flag body told inner =
    let v = place + 1 + p in
    let inside : place < v = omega arith in
    let low = place_form v place (pos 1) h.low in
    let high = place_form v place (negsuc 0) h.high in
    let lows = lows_in place h.others in
    let highs = highs_in place h.others in
    let a = own_coefficient v place (pos 1) h.low inside in
    let b = own_coefficient v place (negsuc 0) h.high inside in
    let all = subst (All IsSmall) h.is (λ k d i. is_small (get_or fs k d) (h.rows k d i).small) in
    let rest = All-tail IsSmall low (high ∷ h.others) all in
    let others = All-tail IsSmall high h.others rest in
    let first = All-head IsSmall low (high ∷ h.others) all in
    let second = All-head IsSmall high h.others rest in
    let one : v ≡ suc (place + p) = omega arith in
    record {
      serves = hull_step depth place v os fs h inside dims flag body inner.serves;
      turns = loop_gives place (sets_in os) flag (low_bounds place low lows) (high_bounds place high highs) body
          inner.turns;
      small = loop_small depth place flag low high lows highs body first second
          (small_forms lows (lows_of IsSmall place h.others others))
          (small_forms highs (highs_of IsSmall place h.others others))
          (low_is_number v place h.low first.constant a) (high_is_number v place h.high second.constant b) inner.small;
      shaped = loop_shaped place (place + p) (sets_in os) flag low high h.others body (omega arith)
          (subst (λ k. All (IsRowOver k) (low ∷ high ∷ h.others)) one
          (subst (All (IsRowOver v)) h.is (hull_rows depth v os fs h.rows))) inner.shaped;
      flat = (
        (
          flat_lows place low lows (omega (arith, ints, a), lows_are_low place h.others),
          flat_highs place high highs (omega (arith, ints, b), highs_are_high place h.others),
          inner.flat,
        ),
        tt,
      );
      marks = ((told, inner.marks), tt);
    }

pub next_node : (depth place n p : ℕ) (mark : Option ℕ) (os : List Outline) (fs rows : List Affine)
    (h : IsHull depth place (place + 1 + p) os fs) → rows ≡ fs → depth < n → place ≡ n - 1 - depth
    → All (λ o. o.set.now.system.dimensions ≡ n) os → (flag : Bool) (body ts : Trees)
    → flag ≡ option_eq eqb mark (Some place)
    → IsNode depth (n - depth) (n - depth + p) mark (sets_in os) [] body
    → ((low high : Affine) (others : List Affine) → rows ≡ low ∷ high ∷ others
    → ts ≡ more (loop flag (low_bounds place low (lows_in place others))
    (high_bounds place high (highs_in place others)) body) none)
    → IsNode (depth + 1) (n - (depth + 1)) (n - (depth + 1) + p) mark (sets_in os) [] ts
next_node depth place n p mark os fs rows h same less at dims flag body ts told inner made =
    let v = place + 1 + p in
    let sets = sets_in os in
    let here : n - depth ≡ suc place = omega (arith, less, at) in
    let round : n - depth + p ≡ suc (place + p) = omega (arith, less, at) in
    let all : All (λ o. o.set.now.system.dimensions ≡ place + suc depth) os = λ k d i. dims k d i
    ∙ omega (arith, less, at) in
    let step = loop_node depth place p mark os fs h all flag body told
    (subst (λ q. IsNode depth (suc place) q mark sets [] body) round
    (subst (λ m. IsNode depth m (n - depth + p) mark sets [] body) here inner)) in
    let tree = made (place_form v place (pos 1) h.low) (place_form v place (negsuc 0) h.high) h.others (same ∙ h.is) in
    let one : suc depth ≡ depth + 1 = omega arith in
    let two : place ≡ n - (depth + 1) = omega (arith, less, at) in
    subst (λ k. IsNode k (n - (depth + 1)) (n - (depth + 1) + p) mark sets [] ts) one
    (subst (λ m. IsNode (suc depth) m (m + p) mark sets [] ts) two
    (subst (IsNode (suc depth) place (place + p) mark sets []) (sym tree) step))
