-- What a place's own node says of its tree and of the places of its sides.
use Rattle.whole_numbers.proofs.Common.{◌≡◌, ℕ, ℤ, ◌+◌, ◌-◌, ◌≤◌, List, refl, sym, ap, ap₂, ◌∙◌, subst, arith, Affine}
use Rattle.quast_trees.specs.Source.{Forms}
use Rattle.quast_trees.specs.Tree.{Tree, initial, leaf, branch, bind, count}
use Rattle.quast_trees.specs.Place.{IsAt, subtree, place_in, IsPlace}
use Rattle.quast_trees.specs.declared.node.Node.{Node}
use Rattle.quast_trees.specs.declared.node.Node.TheVariants as node
use Rattle.quast_trees.proofs.Places.{root, count_positive, at_body, at_first, at_second, subtree-is}

-- a tree's place is one
pub is_place : (nodes : List Node) (p : ℕ) (t : Tree) → IsAt nodes p t → IsPlace (place_in nodes p)
is_place nodes p t i = subst (λ (u : Tree). IsAt nodes p u) (sym (subtree-is nodes p t i)) i

pub initial_at : (t : Tree) → root t ≡ node.Initial → t ≡ initial
initial_at initial e = refl
initial_at (leaf _) e = absurd (cc)
initial_at (branch _ _ _) e = absurd (cc)
initial_at (bind _ _ _) e = absurd (cc)

pub forms_at : (t : Tree) (l : Forms) → root t ≡ node.Forms l → t ≡ leaf l
forms_at initial l e = absurd (cc)
forms_at (leaf k) l e = let same : k ≡ l = cc in ap leaf same
forms_at (branch _ _ _) l e = absurd (cc)
forms_at (bind _ _ _) l e = absurd (cc)

-- where the own node is a branch
pub record BranchAt (nodes : List Node) (p : ℕ) (f : Affine) (n : ℕ) (t : Tree) : Type 0 where
  pub room : n + 1 ≤ p
  pub first : IsPlace (place_in nodes (p - (n + 1)))
  pub second : IsPlace (place_in nodes (p - 1))
  pub tree : t ≡ branch f (subtree (place_in nodes (p - (n + 1)))) (subtree (place_in nodes (p - 1)))

pub branch_at : (nodes : List Node) (p : ℕ) (f : Affine) (n : ℕ) (t : Tree) → IsAt nodes p t
    → root t ≡ node.Branch f n → BranchAt nodes p f n t
branch_at nodes p f n initial i e = absurd (cc)
branch_at nodes p f n (leaf _) i e = absurd (cc)
branch_at nodes p f n (bind _ _ _) i e = absurd (cc)
branch_at nodes p f n (branch test a b) i e =
    let same : test ≡ f = cc in
    let counted : count b ≡ n = cc in
    let one = at_first nodes p test a b i in
    let two = at_second nodes p test a b i in
    let x = subtree-is nodes (p - (count b + 1)) a one in
    let y = subtree-is nodes (p - 1) b two in
    subst (λ (m : ℕ). BranchAt nodes p f m (branch test a b)) counted
    (record {
      room = let ends = i.ends in let k = count_positive a in omega arith;
      first = is_place nodes (p - (count b + 1)) a one;
      second = is_place nodes (p - 1) b two;
      tree = ap₂ (λ (u v : Tree). branch test u v) (sym x) (sym y)
          ∙ ap (λ (g : Affine). branch g (subtree (place_in nodes (p - (count b + 1))))
          (subtree (place_in nodes (p - 1)))) same;
    })

-- where it is a bind
pub record BindAt (nodes : List Node) (p : ℕ) (f : Affine) (divisor : ℤ) (t : Tree) : Type 0 where
  pub room : 1 ≤ p
  pub body : IsPlace (place_in nodes (p - 1))
  pub tree : t ≡ bind f divisor (subtree (place_in nodes (p - 1)))

pub bind_at : (nodes : List Node) (p : ℕ) (f : Affine) (divisor : ℤ) (t : Tree) → IsAt nodes p t
    → root t ≡ node.Bind f divisor
    → BindAt nodes p f divisor t
bind_at nodes p f divisor initial i e = absurd (cc)
bind_at nodes p f divisor (leaf _) i e = absurd (cc)
bind_at nodes p f divisor (branch _ _ _) i e = absurd (cc)
bind_at nodes p f divisor (bind g k body) i e =
    let same : g ≡ f = cc in
    let by : k ≡ divisor = cc in
    let one = at_body nodes p g k body i in
    record {
      room = let ends = i.ends in let m = count_positive body in omega arith;
      body = is_place nodes (p - 1) body one;
      tree = ap (λ (u : Tree). bind g k u) (sym (subtree-is nodes (p - 1) body one))
          ∙ ap₂ (λ (h : Affine) (d : ℤ). bind h d (subtree (place_in nodes (p - 1)))) same by;
    }
