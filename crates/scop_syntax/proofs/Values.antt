-- Values lie below 2^64.
use Rattle.whole_numbers.proofs.Common.{ℕ, ◌+◌, ◌-◌, ◌*◌, ◌/◌, ◌%◌, ◌^◌, ◌<◌, ℤ, pos, negsuc, List, [], ◌∷◌, length}
use Rattle.whole_numbers.proofs.Common.{drop, get_or, arith, All, mod_below, div-le_self, All-head, All-drop, value_of}
use Rattle.std.specs.Int.Bits.{and_lt}
use Rattle.std.proofs.lemmas.Nat.{xor_lt, or_lt}
use Rattle.scop_syntax.specs.Tree.{Operator, plus, minus, times, bits_and, bits_or, bits_xor, Expression, read}
use Rattle.scop_syntax.specs.Tree.{constant, affine, negated, complemented, cast, binary, shifted_left, shifted_right}
use Rattle.scop_syntax.specs.Tree.{narrowed, Right, assigned, combined, moved_left, moved_right, combined_narrow}
use Rattle.scop_syntax.specs.Tree.{moved_left_narrow}
use Rattle.scop_syntax.specs.Cells.{reads_of}
use Rattle.scop_syntax.specs.Kernel.{IsExpression, IsRight}
use Rattle.scop_syntax.specs.Values.{wrapped, applied, value_on, stored_by}

wrapped_below : (z : ℤ) → wrapped z < 2 ^ 64
wrapped_below (pos n) = mod_below n (2 ^ 64) (omega arith)
wrapped_below (negsuc n) = omega arith

applied_below : (op : Operator) (a b : ℕ) → a < 2 ^ 64 → b < 2 ^ 64 → applied op a b < 2 ^ 64
applied_below plus a b h k = mod_below (a + b) (2 ^ 64) (omega arith)
applied_below minus a b h k = mod_below (a + (2 ^ 64 - b)) (2 ^ 64) (omega arith)
applied_below times a b h k = mod_below (a * b) (2 ^ 64) (omega arith)
applied_below bits_and a b h k = and_lt 64 a b h k
applied_below bits_or a b h k = or_lt 64 a b h k
applied_below bits_xor a b h k = xor_lt 64 a b h k

first_below : (vs : List ℕ) → All (λ v. v < 2 ^ 64) vs → get_or vs 0 0 < 2 ^ 64
first_below [] all = omega arith
first_below (v ∷ vs) all = All-head (λ v. v < 2 ^ 64) v vs all

shifted_below : (v k : ℕ) → v < 2 ^ 64 → v / 2 ^ k < 2 ^ 64
shifted_below v k h = let d = div-le_self v (2 ^ k) in omega arith

kept_below : (v : ℕ) → v % 2 ^ 32 < 2 ^ 64
kept_below v = let b = mod_below v (2 ^ 32) (omega arith) in omega arith

value_below : (rs : List ℕ) (n : ℕ) (e : Expression) (point : List ℤ) (vs : List ℕ)
    → IsExpression rs n e → All (λ v. v < 2 ^ 64) vs → value_on e point vs < 2 ^ 64
value_below rs n (read a) point vs is all = first_below vs all
value_below rs n (constant c) point vs is all = is
value_below rs n (affine f) point vs is all = wrapped_below (value_of f point)
value_below rs n (negated e) point vs is all = mod_below (2 ^ 64 - value_on e point vs) (2 ^ 64) (omega arith)
value_below rs n (complemented e) point vs is all = omega arith
value_below rs n (cast e) point vs is all = value_below rs n e point vs is all
value_below rs n (binary op e f) point vs is all =
    applied_below op (value_on e point vs) (value_on f point (drop (length (reads_of e)) vs))
    (value_below rs n e point vs is.0 all)
    (value_below rs n f point (drop (length (reads_of e)) vs) is.1
    (All-drop (λ v. v < 2 ^ 64) (length (reads_of e)) vs all))
value_below rs n (shifted_left e k) point vs is all = mod_below (value_on e point vs * 2 ^ k) (2 ^ 64) (omega arith)
value_below rs n (shifted_right e k) point vs is all =
    shifted_below (value_on e point vs) k (value_below rs n e point vs is.1 all)
value_below rs n (narrowed w e) point vs is all = kept_below (value_on e point vs)

pub stored_below : (rs : List ℕ) (n : ℕ) (right : Right) (point : List ℤ) (vs : List ℕ)
    → IsRight rs n right → All (λ v. v < 2 ^ 64) vs → stored_by right point vs < 2 ^ 64
stored_below rs n (assigned e) point vs is all = value_below rs n e point vs is all
stored_below rs n (combined op e) point vs is all =
    applied_below op (get_or vs 0 0) (value_on e point (drop 1 vs)) (first_below vs all)
    (value_below rs n e point (drop 1 vs) is (All-drop (λ v. v < 2 ^ 64) 1 vs all))
stored_below rs n (moved_left k) point vs is all = mod_below (get_or vs 0 0 * 2 ^ k) (2 ^ 64) (omega arith)
stored_below rs n (moved_right k) point vs is all = shifted_below (get_or vs 0 0) k (first_below vs all)
stored_below rs n (combined_narrow op e) point vs is all =
    kept_below (applied op (get_or vs 0 0) (value_on e point (drop 1 vs)))
stored_below rs n (moved_left_narrow k) point vs is all = kept_below (get_or vs 0 0 * 2 ^ k)
