-- A value of uint32_t is below 2^32.
use Rattle.scop_syntax.proofs.Common.{◌≡◌, ℕ, ◌-◌, ◌*◌, ◌%◌, ◌^◌, ◌<◌, ℤ, List, arith, mod_below, div-le_self, Operator}
use Rattle.scop_syntax.proofs.Common.{plus, minus, times, bits_and, bits_or, bits_xor, Cell}
use Rattle.scop_expressions.specs.Op.TheVariants as op
use Rattle.scop_expressions.specs.declared.token.Sign.TheVariants as sign
use Rattle.scop_expressions.specs.Suffix.TheVariants as suffix
use Rattle.scop_expressions.specs.Width.TheVariants as width
use Rattle.scop_roles.specs.declared.formula.Meaning.{Meaning}
use Rattle.scop_roles.specs.declared.formula.Meaning.TheVariants as meaning
use Rattle.scop_roles.specs.Formula.{Formula, constant, name, index, unary, cast, binary}
use Rattle.scop_syntax.proofs.NarrowValues.{made_below}
use Rattle.scop_arithmetic.specs.Arithmetic.{narrow, name_class, class, word, joined, HoldTypes}

pub joined_below : (k : Operator) (a b : ℕ) → joined narrow k a b < 2 ^ 32
joined_below k a b =
    made_below k (a % 2 ^ 32) (b % 2 ^ 32) (mod_below a (2 ^ 32) (omega arith)) (mod_below b (2 ^ 32) (omega arith))

name_full : (m : Meaning) → name_class m ≡ narrow → ⊥
name_full (meaning.Variable k) e = absurd (cc)
name_full _ e = absurd (cc)

-- where the cells hold numbers of their types
pub word_below : (held : Cell → ℕ) (p : List ℤ) (f : Formula) → HoldTypes held p f → class f ≡ narrow
    → word held p f < 2 ^ 32
word_below held p (constant (suffix.Absent b) v at) h e = absurd (cc)
word_below held p (constant suffix.Present v at) h e = absurd (cc)
word_below held p (name m at) h e = absurd (name_full m e)
word_below held p (index q i) h e = h e
word_below held p (unary sign.Minus f at) h e = rw e (mod_below (2 ^ 32 - word held p f) (2 ^ 32) (omega arith))
word_below held p (unary sign.Complement f at) h e = rw e (omega arith)
word_below held p (cast width.Narrow f at) h e = mod_below (word held p f) (2 ^ 32) (omega arith)
word_below held p (cast width.Full f at) h e = absurd (cc)
word_below held p (binary op.Plus f g at) h e = rw e (joined_below plus (word held p f) (word held p g))
word_below held p (binary op.Minus f g at) h e = rw e (joined_below minus (word held p f) (word held p g))
word_below held p (binary op.Times f g at) h e = rw e (joined_below times (word held p f) (word held p g))
word_below held p (binary op.BitAnd f g at) h e = rw e (joined_below bits_and (word held p f) (word held p g))
word_below held p (binary op.BitOr f g at) h e = rw e (joined_below bits_or (word held p f) (word held p g))
word_below held p (binary op.BitXor f g at) h e = rw e (joined_below bits_xor (word held p f) (word held p g))
word_below held p (binary op.ShiftLeft f g at) h e =
    rw e (mod_below (word held p f * 2 ^ word held p g) (2 ^ 32) (omega arith))
word_below held p (binary op.ShiftRight f g at) h e =
    let b = word_below held p f h.0 e in
    let d = div-le_self (word held p f) (2 ^ word held p g) in
    rw e (omega arith)
word_below held p f h e = omega arith
