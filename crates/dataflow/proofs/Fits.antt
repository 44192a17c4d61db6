-- Leaves whose numbers fit.
use Rattle.dataflow.proofs.Common.{◌≡◌, ℕ, Bool, true, false, ℤ, List, [], ◌∷◌, ◌++◌, length, Option, Some, None}
use Rattle.dataflow.proofs.Common.{Result, Ok, Err, refl, sym, ap, ap₂, subst, ◌∙◌, arith, All, if◌then◌else◌, neg_ℤ}
use Rattle.dataflow.proofs.Common.{◌≤ℤ◌, ints, Affine, both, Source, Tree, leaf, branch, bind, count, LeavesHave, Suits}
use Rattle.dataflow.proofs.Common.{leaf_limit, IsWithin, AreWithin, IsFormWithin, AreFormsWithin, LeavesWithin}
use Rattle.dataflow.proofs.Common.{numbers_fit, forms_fit, leaves_fit, fitting, all_below, nodes_fit}
use Rattle.scop_syntax.proofs.Common.{le_z, holds_le_z}
use Rattle.wide_math.specs.declared.Wide.{Wide}
use Rattle.quast_trees.specs.Tree.{initial, named}
use Rattle.quast_trees.specs.Postfix.{written}
use Rattle.quast_trees.specs.declared.node.Node.{Node}
use Rattle.dataflow.specs.WriterRuns.{number_fits, form_fits}
use Rattle.dataflow.specs.steps.Steps.{node_fits}
use Rattle.dataflow.proofs.ResolvedWriters.{size-below}
use Rattle.quast_trees.specs.declared.node.Node.TheVariants as node

-- numbers that fit are within the bound
number_within : (most z : ℤ) → number_fits most z ≡ true → IsWithin most z
number_within most z h =
    let b = both (le_z (neg_ℤ most) z) (le_z z most) h in
    let low : neg_ℤ most ≤ℤ z = holds_le_z (neg_ℤ most) z b.0 in
    (omega (arith, ints), holds_le_z z most b.1)

numbers_within : (most : ℤ) (zs : List ℤ) → numbers_fit most zs ≡ true → AreWithin most zs
numbers_within most [] h = tt
numbers_within most (z ∷ zs) h =
    let b = both (number_fits most z) (numbers_fit most zs) h in
    (number_within most z b.0, numbers_within most zs b.1)

form_within : (most : ℤ) (f : Affine) → form_fits most f ≡ true → IsFormWithin most f
form_within most f h =
    let b = both (numbers_fit most f.coefficients) (number_fits most f.constant) h in
    (numbers_within most f.coefficients b.0, number_within most f.constant b.1)

forms_within : (most : ℤ) (fs : List Affine) → forms_fit most fs ≡ true → AreFormsWithin most fs
forms_within most [] h = tt
forms_within most (f ∷ fs) h =
    let b = both (form_fits most f) (forms_fit most fs) h in
    (form_within most f b.0, forms_within most fs b.1)

pub leaves_within : (most : ℤ) (t : Tree) → leaves_fit most t ≡ true → LeavesWithin most t
leaves_within most initial h = tt
leaves_within most (leaf l) h = forms_within most l.forms h
leaves_within most (branch f x y) h =
    let b = both (leaves_fit most x) (leaves_fit most y) h in
    (leaves_within most x b.0, leaves_within most y b.1)
leaves_within most (bind f d x) h = leaves_within most x h

-- a source changes no number
pub named_within : (most : ℤ) (s : Source) (t : Tree) → LeavesWithin most t → LeavesWithin most (named s t)
named_within most s initial h = tt
named_within most s (leaf l) h = h
named_within most s (branch f x y) h = (named_within most s x h.0, named_within most s y h.1)
named_within most s (bind f d x) h = named_within most s x h

-- a tree that fits is the tree
pub fitting_is : (r : Result Tree Wide) (t : Tree) → fitting r ≡ Some t → (r ≡ Ok t) × LeavesWithin leaf_limit t
fitting_is (Err w) t h = absurd cc
fitting_is (Ok u) t h = by_fit (leaves_fit leaf_limit u) refl h
  where
    by_fit : (b : Bool) → leaves_fit leaf_limit u ≡ b → (if b then Some u else None) ≡ Some t
        → (◌≡◌ {A = Result Tree Wide} (Ok u) (Ok t)) × LeavesWithin leaf_limit t
    by_fit true e h = let same : u ≡ t = cc in (
      ap Ok same,
      subst (LeavesWithin leaf_limit) same
          (leaves_within leaf_limit u e),
    )
    by_fit false e h = absurd cc

-- the nodes of a tree, one by one
nodes_fit-append : (most : ℤ) (xs ys : List Node)
    → nodes_fit most (xs ++ ys) ≡ (if nodes_fit most xs then nodes_fit most ys else false)
nodes_fit-append most [] ys = refl
nodes_fit-append most (x ∷ xs) ys = by_head (node_fits most x) (nodes_fit-append most xs ys)
  where
    by_head : (b : Bool) → nodes_fit most (xs ++ ys) ≡ (if nodes_fit most xs then nodes_fit most ys else false)
        → (if b then nodes_fit most (xs ++ ys) else false)
        ≡ (if (if b then nodes_fit most xs else false) then nodes_fit most ys else false)
    by_head true e = e
    by_head false e = refl

last_fits : (b : Bool) → (if b then true else false) ≡ b
last_fits true = refl
last_fits false = refl

pub nodes_fit-written : (most : ℤ) (t : Tree) → nodes_fit most (written t) ≡ leaves_fit most t
nodes_fit-written most initial = refl
nodes_fit-written most (leaf l) = last_fits (forms_fit most l.forms)
nodes_fit-written most (branch f x y) =
    nodes_fit-append most (written x ++ written y) (node.Branch f (count y) ∷ [])
    ∙ (last_fits (nodes_fit most (written x ++ written y))
    ∙ (nodes_fit-append most (written x) (written y)
    ∙ ap₂ (λ (b c : Bool). if b then c else false) (nodes_fit-written most x) (nodes_fit-written most y)))
nodes_fit-written most (bind f d x) =
    nodes_fit-append most (written x) (node.Bind f d ∷ [])
    ∙ (last_fits (nodes_fit most (written x)) ∙ nodes_fit-written most x)

-- the forms of a map suit a tree whose leaves have as many
pub suits_below : (most : ℤ) (d : ℕ) (t : Tree) → LeavesHave d t → Suits (all_below most d 0 d) t
suits_below most d initial h = tt
suits_below most d (leaf l) h =
    subst (λ (n : ℕ). All (λ f. length f.coefficients ≡ n) (all_below most d 0 d)) (sym h) (size-below most d 0 d)
suits_below most d (branch f x y) h = (suits_below most d x h.0, suits_below most d y h.1)
suits_below most d (bind f e x) h = suits_below most d x h

-- a mapped tree whose nodes fit, and one whose nodes do not
pub fitting_yes : (r : Result Tree Wide) (t : Tree) → r ≡ Ok t → nodes_fit leaf_limit (written t) ≡ true
    → Some t ≡ fitting r
fitting_yes r t e h = sym (ap fitting e ∙ rw (sym (nodes_fit-written leaf_limit t) ∙ h) refl)

pub fitting_no : (r : Result Tree Wide) (t : Tree) → r ≡ Ok t → nodes_fit leaf_limit (written t) ≡ false
    → ◌≡◌ {A = Option Tree} None (fitting r)
fitting_no r t e h = sym (ap fitting e ∙ rw (sym (nodes_fit-written leaf_limit t) ∙ h) refl)
