-- Each access of a well-formed statement names an array.
use Rattle.scop_syntax.proofs.Common.{◌≡◌, ◌∙◌, ◌+◌, ◌<◌, inl, inr, ℕ, zero, suc, ℤ, Bool, true, false, List, [], ◌∷◌}
use Rattle.scop_syntax.proofs.Common.{length, map, Some, drop, refl, subst, sym, arith, slice_get, length-map, accesses}
use Rattle.scop_syntax.proofs.Common.{reads, reads_of, reads_with, values, layout, size_of, IsExpression, IsKernel}
use Rattle.scop_syntax.proofs.Common.{IsPlaced, IsRight, IsStatement, ranks_of, WithinLimits, In, Placed, loops_in}
use Rattle.scop_syntax.proofs.Common.{statements_of, Access, Expression, read, affine, negated, complemented, cast}
use Rattle.scop_syntax.proofs.Common.{binary, shifted_left, shifted_right, narrowed, Right, assigned, combined}
use Rattle.scop_syntax.proofs.Common.{moved_left, moved_right, combined_narrow, moved_left_narrow, Declaration, Program}
use Rattle.scop_syntax.proofs.Common.{Statement, in_append, in_from_place, in_map_from, Standing, heads_in, standing}
use Rattle.scop_syntax.proofs.Common.{standings_of, as_many_heads}
use Rattle.scop_meaning.specs.Instances.{AreLayout}
use Rattle.scop_syntax.specs.Tree.{constant}
use Rattle.tile_table.specs.Tables.{touched}
use Rattle.tile_table.specs.steps.Forms.{CanForm}

abbrev Names : List ℕ → Access → Type 0
Names ranks a = a.array < length ranks

read_named : (ranks : List ℕ) (n : ℕ) (e : Expression) (a : Access) → IsExpression ranks n e → In a (reads_of e)
    → Names ranks a
read_named ranks n (read b) a is (inl h) = subst (Names ranks) (sym h) is.array
read_named ranks n (read b) a is (inr h) = absurd h
read_named ranks n (constant c) a is h = absurd h
read_named ranks n (affine f) a is h = absurd h
read_named ranks n (negated e) a is h = read_named ranks n e a is h
read_named ranks n (complemented e) a is h = read_named ranks n e a is h
read_named ranks n (cast e) a is h = read_named ranks n e a is h
read_named ranks n (binary op e f) a is h = elim (in_append a (reads_of e) (reads_of f) h) [
  | inl g ↦ read_named ranks n e a is.0 g
  | inr g ↦ read_named ranks n f a is.1 g
]
read_named ranks n (shifted_left e k) a is h = read_named ranks n e a is.1 h
read_named ranks n (shifted_right e k) a is h = read_named ranks n e a is.1 h
read_named ranks n (narrowed w e) a is h = read_named ranks n e a is.1 h

reads_named : (ranks : List ℕ) (n : ℕ) (place : Access) (r : Right) (a : Access) → Names ranks place
    → IsRight ranks n r → In a (reads_with place r) → Names ranks a
reads_named ranks n place (assigned e) a at is h = read_named ranks n e a is h
reads_named ranks n place (combined op e) a at is (inl h) = subst (Names ranks) (sym h) at
reads_named ranks n place (combined op e) a at is (inr h) = read_named ranks n e a is h
reads_named ranks n place (moved_left k) a at is (inl h) = subst (Names ranks) (sym h) at
reads_named ranks n place (moved_left k) a at is (inr h) = absurd h
reads_named ranks n place (moved_right k) a at is (inl h) = subst (Names ranks) (sym h) at
reads_named ranks n place (moved_right k) a at is (inr h) = absurd h
reads_named ranks n place (combined_narrow op e) a at is (inl h) = subst (Names ranks) (sym h) at
reads_named ranks n place (combined_narrow op e) a at is (inr h) = read_named ranks n e a is h
reads_named ranks n place (moved_left_narrow k) a at is (inl h) = subst (Names ranks) (sym h) at
reads_named ranks n place (moved_left_narrow k) a at is (inr h) = absurd h

access_named : (ranks : List ℕ) (n : ℕ) (s : Statement) (a : Access) → IsStatement ranks n s → In a (accesses s)
    → a.array < length ranks
access_named ranks n s a is (inl h) = subst (Names ranks) (sym h) is.place.array
access_named ranks n s a is (inr h) = reads_named ranks n s.place s.right a is.place.array is.right h

-- so the forms of each statement of a kernel within the limits can be made
pub can_form : (program : Program) (params : List ℤ) (p : Placed) → WithinLimits program params
    → AreLayout (layout program params) → IsPlaced (ranks_of program) (length program.parameters) p
    → CanForm (layout program params) params (standing (heads_in p.scopes) p.body)
can_form program params p limits laid is =
    let heads = as_many_heads p.scopes in
    let few = is.few_loops in
    let four = limits.kernel.few_parameters in
    let count = limits.count in
    let ranks = length-map program.arrays (λ (d : Declaration). length d.extents) in
    let arrays = length-map program.arrays (λ (d : Declaration). map size_of (values d.extents params)) in
    record {
      layout = laid;
      loops = omega (arith, heads, few);
      room = omega (arith, heads, few, four, count);
      few_reads = is.body.few_reads;
      arrays = λ a access at.
          let named = access_named (ranks_of program)
          (length program.parameters + loops_in p.scopes) p.body access is.body
          (in_from_place (accesses p.body) a access at) in
          omega (arith, named, ranks, arrays);
    }

-- each of the standings of a program is such a statement
pub can_form_at : (program : Program) (params : List ℤ) (k : ℕ) (s : Standing) → WithinLimits program params
    → AreLayout (layout program params)
    → ((p : Placed) → IsKernel program → In p (statements_of program)
    → IsPlaced (ranks_of program) (length program.parameters) p)
    → slice_get (standings_of program) k ≡ Some s → CanForm (layout program params) params s
can_form_at program params k s limits laid placed at =
    let from = in_map_from (λ (p : Placed). standing (heads_in p.scopes) p.body) s (statements_of program)
    (in_from_place (standings_of program) k s at) in
    subst (CanForm (layout program params) params) (sym from.2)
    (can_form program params from.0 limits laid (placed from.0 limits.kernel from.1))

-- what a statement touches is one of its accesses
drop_one : {A : Type 0} (xs : List A) (a : ℕ) → slice_get (drop 1 xs) a ≡ slice_get xs (suc a)
drop_one [] a = refl
drop_one (x ∷ xs) a = refl

pub touched_access : (adds : Bool) (s : Statement) (a : ℕ) (access : Access)
    → slice_get (touched adds s) a ≡ Some access → (b : ℕ) × (slice_get (accesses s) b ≡ Some access)
touched_access false s a access at = (a, at)
touched_access true s zero access at = (zero, at)
touched_access true s (suc a) access at = (suc (suc a), sym (drop_one (reads s) a) ∙ at)
