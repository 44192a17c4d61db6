-- Forms of iterators have an entry for each name, and what is at most a number of 64 bits has 64 bits.
use Rattle.scop_syntax.proofs.Common.{◌≡◌, ◌∙◌, refl, ℕ, ◌+◌, ◌^◌, ◌<◌, ◌≤◌, pos, List, [], ◌∷◌, ◌++◌, length, take}
use Rattle.scop_syntax.proofs.Common.{drop, true, arith, ℤ, negsuc, unsigned_abs, length-drop, length-take-le, sums}
use Rattle.scop_syntax.proofs.Common.{multiples, zeros, length-multiples, length-zeros, AreAtMost, Head, Affine}
use Rattle.std.proofs.Common.{lt-ltb}
use Rattle.std.proofs.lemmas.List.{length-append}
use Rattle.form_text.specs.Names.{IsFormOver}
use Rattle.c_printer.specs.Forms.{turned, spread, iterator_form}
use Rattle.c_printer.specs.Reading.{is_narrow, are_narrow}
use Rattle.c_printer.specs.Printable.{IsTreeForm, IsStart}
use Rattle.c_printer.proofs.FormsRead.{length_turned}

-- a sum is as long as the longer list
length_longer : (xs ys : List ℤ) → length ys ≤ length xs → length (sums xs ys) ≡ length xs
length_longer [] [] l = refl
length_longer [] (y ∷ ys) l = absurd (omega (arith, l))
length_longer (x ∷ xs) [] l = refl
length_longer (x ∷ xs) (y ∷ ys) l = let e = length_longer xs ys (omega (arith, l)) in omega (arith, e)

-- an iterator's form over the parameters, the loops of the tree and the iterators before
pub iterator_is_over : (parameters loops k : ℕ) (head : Head) (turn : Affine) → parameters ≤ k → IsStart k head
    → IsTreeForm parameters loops turn → IsFormOver (k + loops) (iterator_form parameters loops head turn)
iterator_is_over parameters loops k head turn few h f =
    let cs = head.first.coefficients in
    let xs = spread parameters loops cs in
    let ts = turned loops turn.coefficients in
    let starts = h.entries in
    let entries = f.entries in
    let a = length-append (take parameters cs) (zeros loops ++ drop parameters cs) in
    let b = length-append (zeros loops) (drop parameters cs) in
    let c = length-zeros loops in
    let d = length-take-le parameters cs (omega (arith, few, starts)) in
    let e = length-drop parameters cs in
    let l = length_turned loops turn.coefficients in
    let m = length-multiples head.stride ts in
    let whole : length xs ≡ k + loops = omega (arith, a, b, c, d, e, starts, few) in
    length_longer xs (multiples head.stride ts) (omega (arith, l, m, whole, entries, few)) ∙ whole

-- what is at most a number of 64 bits has 64 bits
pub at_most_is_narrow : (z : ℤ) (k : ℕ) → unsigned_abs z ≤ k → k < 2 ^ 63 → is_narrow z ≡ true
at_most_is_narrow (pos n) k h l = lt-ltb n (2 ^ 63) (omega (arith, h, l))
at_most_is_narrow (negsuc n) k h l = lt-ltb n (2 ^ 63) (omega (arith, h, l))

pub at_most_are_narrow : (cs : List ℤ) (k : ℕ) → AreAtMost k cs → k < 2 ^ 63 → are_narrow cs ≡ true
at_most_are_narrow [] k h l = refl
at_most_are_narrow (c ∷ cs) k h l = rw (at_most_is_narrow c k h.0 l) (at_most_are_narrow cs k h.1 l)
