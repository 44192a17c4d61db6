-- What has two parts reads an array where the first reads it, or else the second.
use Rattle.whole_numbers.proofs.Common.{◌≡◌, ℕ, Bool, true, false, List, [], ◌∷◌, ◌++◌, ap, ap₂, sym, refl, ◌∙◌, Box}
use Rattle.whole_numbers.proofs.Common.{nat_eq, if◌then◌else◌}
use Rattle.scop_syntax.specs.Cells.{reads_of}
use Rattle.scop_syntax.specs.Reductions.{names}
use Rattle.scop_syntax.specs.Tree.{Access, Expression}
use Rattle.scop_syntax.specs.View.{expression_of}
use Rattle.scop_syntax.specs.declared.tree.Expr.{Expr}
use Rattle.scop_syntax.specs.declared.tree.Expr.TheVariants.{Binary}
use Rattle.scop_syntax.specs.declared.tree.Operator.{Operator}
use Rattle.scop_syntax.proofs.Views.{expression_binary}

joined : (b c d : Bool) → (if b then true else (if c then true else d)) ≡ (if (if b then true else c) then true else d)
joined true c d = refl
joined false c d = refl

names_append : (a : ℕ) (gs hs : List Access) → names a (gs ++ hs) ≡ (if names a gs then true else names a hs)
names_append a [] hs = refl
names_append a (g ∷ gs) hs =
    ap (λ (b : Bool). if nat_eq g.array a then true else b) (names_append a gs hs)
    ∙ joined (nat_eq g.array a) (names a gs) (names a hs)

-- whether the expression reads the array
abbrev pub reads : ℕ → Expr → Bool
reads a e = names a (reads_of (expression_of e))

module _ (a : ℕ) (whole first second : Expr) (op : Operator) (left right : Box Expr) (is : whole ≡ Binary op left right)
    (is_first : first ≡ left.value) (is_second : second ≡ right.value) where
  either_part : reads a whole ≡ (if reads a first then true else reads a second)
  either_part =
      ap (λ (e : Expression). names a (reads_of e)) (ap expression_of is ∙ expression_binary op left right)
      ∙ (names_append a (reads_of (expression_of left.value)) (reads_of (expression_of right.value))
      ∙ ap₂ (λ (e f : Expr). if reads a e then true else reads a f) (sym is_first) (sym is_second))

  pub first_reads : reads a first ≡ true → reads a whole ≡ true
  first_reads there = either_part ∙ ap (λ (b : Bool). if b then true else reads a second) there

  pub second_reads : reads a first ≡ false → reads a whole ≡ reads a second
  second_reads absent = either_part ∙ ap (λ (b : Bool). if b then true else reads a second) absent
