use Rattle.scop_syntax.proofs.Common.{◌≡◌, ◌+◌, ◌++◌, ◌∙◌, ℕ, ℤ, List, pos, ap, length, take, replicate, arith}
use Rattle.scop_syntax.proofs.Common.{take_all, zeros, replicate-zeros}
use Rattle.std.specs.List.{AppendsClonesOf}
use Rattle.std.proofs.lemmas.List.{length-append}
use Rattle.smallvec.proofs.Lists.{clones_same}
use Rattle.iteration_domains.proofs.forms.push_zeros.Goals as goal

-- clones of 0 behind a whole list are zeros
zeros_behind : (clones : ℤ → ℤ → Type 0) (old new : List ℤ) (n m : ℕ) → m ≡ length old + n → length new ≡ m
    → AppendsClonesOf clones (take m old) new (pos 0) → ((y : ℤ) → clones (pos 0) y → y ≡ pos 0) → new ≡ old ++ zeros n
zeros_behind clones old new n m is long appended same =
    let ys = appended.0 in
    let behind : new ≡ old ++ ys =
    appended.1 ∙ ap (λ (xs : List ℤ). xs ++ ys) (take_all m old (omega arith)) in
    let both : length new ≡ length old + length ys = ap (λ (xs : List ℤ). length xs) behind ∙ length-append old ys in
    let count : length ys ≡ n = omega arith in
    behind ∙ ap (λ (zs : List ℤ). old ++ zs) (clones_same clones (pos 0) ys appended.2 same
    ∙ (ap (λ k. replicate k (pos 0)) count ∙ replicate-zeros n))

pub returns : goal.returns
returns c =
    let m = c.in-Some.len in
    let old = c.args.numbers.now.items in
    let sum : m ≡ length old + c.args.count =
    c.in-Some.ensures.1 ∙ ap (λ k. k + c.args.count) c.len.ensures.value in
    zeros_behind (λ x y. y ≡ x) old c.resize.new.self.items c.args.count m sum c.in_ok-resize.ensures.len
    c.in_ok-resize.ensures.ok (λ y same. same)
