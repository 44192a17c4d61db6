-- From the hull of the sets that are kept to the scan of all.
use Rattle.scop_syntax.proofs.Common.{◌≡◌, ℕ, zero, ◌+◌, ◌<◌, List, [], ◌∷◌, ◌++◌, length, get_or, take, refl, sym}
use Rattle.scop_syntax.proofs.Common.{◌∙◌, ap, subst, All, arith, ◌^◌, All-head}
use Rattle.integer_sets.specs.Scanned.{Scanned}
use Rattle.scop_syntax.proofs.Sizes.{size_params}
use Rattle.loop_tree.specs.Tree.{Trees, none}
use Rattle.loop_tree.specs.Fits.{AreSmallTrees}
use Rattle.loop_tree.specs.Marks.{MarksAll}
use Rattle.loop_tree.specs.Shape.{NestAllTo, TreesAreOver}
use Rattle.loop_tree.proofs.Fits.{small_fits_all}
use Rattle.loop_tree.proofs.LargerBounds.{nested_all}
use Rattle.plain_scan.specs.declared.set_outline.Outline.{Outline}
use Rattle.plain_scan.specs.declared.outlined_sets.Outlines.{Outlines}
use Rattle.plain_scan.specs.Sets.{IsShaped}
use Rattle.plain_scan.specs.steps.Serving.{HaveDimensions}
use Rattle.plain_scan.specs.Hulls.{sets_in}
use Rattle.plain_scan.specs.Scanning.{flags, AreScanned, IsScan, IsScanned, dimensions_of, mark_of, parameters_of}
use Rattle.plain_scan.specs.Leaving.{LeavesOut}
use Rattle.plain_scan.specs.Outlined.{AreOutlined}
use Rattle.plain_scan.specs.steps.Nodes.{AreNodesOf}
use Rattle.plain_scan.specs.Outlines.{HasNoPoint}
use Rattle.plain_scan.proofs.CodeBounds.{take_next}
use Rattle.plain_scan.proofs.HullLoops.{dims_in}
use Rattle.plain_scan.proofs.HullNodes.{dimensions_are}
use Rattle.plain_scan.proofs.OmittedSets.{all_keys, keeps_more, kept_all, kept_in, kept_keys, leaves_more}
use Rattle.plain_scan.proofs.Pieces.{scanned_exact}
use Rattle.plain_scan.proofs.ScannedTrees.{all_of_more}

-- sets gone through one by one, each kept or left out
pub sets_more : (os : List Outline) (o : Outline) → sets_in (os ++ o ∷ []) ≡ sets_in os ++ o.set.now ∷ []
sets_more [] o = refl
sets_more (p ∷ os) o = ap (λ ss. p.set.now ∷ ss) (sets_more os o)

pub kept_next : (sets : List Scanned) (i : ℕ) (s : Scanned) (old new : List Outline) (o : Outline) → s ≡ get_or sets i s
    → i < length sets → o.set.now ≡ s → new ≡ old ++ o ∷ [] → LeavesOut (take i sets) (sets_in old)
    → LeavesOut (take (i + 1) sets) (sets_in new)
kept_next sets i s old new o is inside own made left =
    let more = keeps_more (take i sets) (sets_in old) s left in
    let kept : sets_in new ≡ sets_in old ++ s ∷ [] =
    ap sets_in made ∙ sets_more old o ∙ ap (λ q. sets_in old ++ q ∷ []) own in
    subst (λ ss. LeavesOut ss (sets_in new)) (sym (take_next sets i s is inside))
    (subst (LeavesOut (take i sets ++ s ∷ [])) (sym kept) more)

pub left_next : (sets : List Scanned) (i : ℕ) (s : Scanned) (kept : List Scanned) → s ≡ get_or sets i s
    → i < length sets → HasNoPoint s.system → LeavesOut (take i sets) kept → LeavesOut (take (i + 1) sets) kept
left_next sets i s kept is inside empty left =
    subst (λ ss. LeavesOut ss kept) (sym (take_next sets i s is inside)) (leaves_more (take i sets) kept s empty left)

-- those kept have the shape of all
pub shaped : (sets : List Scanned) (os : List Outline) (n p : ℕ) → n ≡ dimensions_of sets → p ≡ parameters_of sets
    → AreScanned sets → LeavesOut sets (sets_in os) → All (IsShaped n p) (sets_in os)
shaped sets os n p dims params are left k s inside =
    let P = IsScanned (dimensions_of sets) (parameters_of sets) (mark_of sets) in
    one (get_or (sets_in os) k s) (kept_all P sets (sets_in os) left are k s inside)
  where
    one : (s : Scanned) → IsScanned (dimensions_of sets) (parameters_of sets) (mark_of sets) s → IsShaped n p s
    one s h =
        let d = h.dimensions in
        let i = h.iterators in record {
          dimensions = d ∙ sym dims;
          parameters = h.parameters ∙ sym params;
          iterators = (omega (arith, d, i, dims), omega (arith, d, dims));
        }

-- where one is kept their variables are few
pub few_kept : (sets : List Scanned) (os : List Outline) (n p : ℕ) → n ≡ dimensions_of sets → p ≡ parameters_of sets
    → AreScanned sets → LeavesOut sets (sets_in os) → 0 < length os → n + p < 2 ^ 32
few_kept sets [] n p dims params are left some = absurd (omega (arith, some))
few_kept sets (o ∷ os) n p dims params are left some =
    let P = IsScanned (dimensions_of sets) (parameters_of sets) (mark_of sets) in
    let few = (All-head P o.set.now (sets_in os) (kept_all P sets (sets_in (o ∷ os)) left are)).few in
    omega (arith, few, dims, params)

-- of no set none is kept
none_kept : (sets : List Scanned) (os : List Outline) → LeavesOut sets (sets_in os) → 0 < length os → sets ≡ [] → ⊥
none_kept sets [] left some e = absurd (omega (arith, some))
none_kept sets (o ∷ os) left some e = subst (λ ss. LeavesOut ss (sets_in (o ∷ os))) e left

-- where none is kept, no tree scans the sets
pub none_scans : (sets : List Scanned) → LeavesOut sets [] → IsScan sets none
none_scans sets left =
    record {
      exact = λ params range. record {
        rising = tt;
        none_else = λ v i. absurd i;
        all = λ r k. absurd (all_keys sets [] params left range r k);
      };
      iterators = λ params range v i. absurd i;
      fits = λ params range count. tt;
      small = tt;
      numbers = tt;
      over = tt;
      nested = tt;
      instances = tt;
      flat = tt;
      marks = tt;
      empty = λ e. refl;
    }

-- and those of the outlines do
pub nodes_scan : (sets : List Scanned) (all : Outlines) (ts : Trees) → AreOutlined sets all → AreNodesOf all ts
    → IsScan sets ts
nodes_scan sets all ts is node =
    record {
      exact = λ params range.
          let e = scanned_exact n kept ts params sized node.serves range in record {
            rising = e.rising;
            none_else = λ v i. kept_keys sets kept params is.kept _ (e.none_else v i);
            all = λ r k. e.all r (all_keys sets kept params is.kept range r k);
          };
      iterators = λ params range v i.
          let g = node.turns params [] refl v i in (g.0, kept_in sets kept is.kept g.0 g.1, g.2, g.3);
      fits = λ params range count.
          let s = size_params params range in
          let few = all.few in
          let same = is.parameters in
          small_fits_all n ts params [] node.small (omega (arith, few, s, count, same));
      small = node.shaped.small;
      numbers = subst (λ k. AreSmallTrees k ts) is.dimensions node.small;
      over = subst (λ k. TreesAreOver k ts) is.parameters node.shaped.over;
      nested = subst (λ k. NestAllTo k ts) is.dimensions (nested_all n ts node.small);
      instances = all_of_more kept sets ts (kept_in sets kept is.kept) node.shaped.instances;
      flat = node.flat;
      marks = subst (λ k. MarksAll (flags (mark_of sets) zero k) ts) is.dimensions
          (subst (λ m. MarksAll (flags m zero n) ts) is.parallel node.marks);
      empty = λ e. absurd (none_kept sets all.outlines.items is.kept all.some e);
    }
  where
    n : ℕ
    n = all.dimensions

    kept : List Scanned
    kept = sets_in all.outlines.items

    sized : HaveDimensions n kept
    sized = dims_in n all.outlines.items (dimensions_are n all.parameters all.outlines.items all.sets)
