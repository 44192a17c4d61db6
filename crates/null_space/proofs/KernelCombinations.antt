-- A vector that is orthogonal to all rows is a rational combination of the kernel vectors.
use Rattle.whole_numbers.proofs.Common.{◌≡◌, ℕ, ℤ, ◌+ℤ◌, List, [], ◌∷◌, length, sym, ◌∙◌, ap₂, subst, All-head}
use Rattle.whole_numbers.proofs.Common.{All-tail, dot, multiples, dot-sums, dot-multiples, dot-zeros, length-sums}
use Rattle.whole_numbers.proofs.Common.{length-multiples, length-zeros}
use Rattle.whole_numbers.proofs.Lists.{same_products}
use Rattle.null_space.specs.Narrowing.{kernel_vectors}
use Rattle.null_space.specs.Sizes.{AreLong}
use Rattle.null_space.specs.Echelon.{IsOrthogonal, AreKernelVectors, combination, IsSpanned}
use Rattle.null_space.proofs.Spans.{weighted, kernel_spans}
use Rattle.null_space.proofs.ListLoops.{kernel_long}
use Rattle.null_space.proofs.Echelon.{kernel_vectors_are, kernel_vectors_unique}

-- the products of a combination
combined_value : (n : ℕ) (ts : List ℤ) (ns : List (List ℤ)) (w : List ℤ)
    → dot (combination n ts ns) w ≡ weighted ts ns w
combined_value n [] ns w = dot-zeros n w
combined_value n (t ∷ ts) [] w = dot-zeros n w
combined_value n (t ∷ ts) (v ∷ vs) w =
    dot-sums (multiples t v) (combination n ts vs) w
    ∙ ap₂ (λ (x : ℤ) (y : ℤ). x +ℤ y) (dot-multiples t v w) (combined_value n ts vs w)

combined_length : (n : ℕ) (ts : List ℤ) (ns : List (List ℤ)) → AreLong n ns → length (combination n ts ns) ≡ n
combined_length n [] ns all = length-zeros n
combined_length n (t ∷ ts) [] all = length-zeros n
combined_length n (t ∷ ts) (v ∷ vs) all =
    let P : List ℤ → Type 0 = λ u. length u ≡ n in
    let e = length-multiples t v ∙ All-head P v vs all in
    let f = combined_length n ts vs (All-tail P v vs all) in
    length-sums (multiples t v) (combination n ts vs) (e ∙ sym f) ∙ e

pub spanned : (n : ℕ) (rows ns : List (List ℤ)) (v : List ℤ) → AreKernelVectors n rows ns → length v ≡ n
    → IsOrthogonal rows v → IsSpanned n ns v
spanned n rows ns v are size flat =
    let ks = kernel_vectors n rows in
    let end = kernel_spans n rows v size flat in
    let long = length-multiples end.0 v ∙ (size ∙ sym (combined_length n end.2 ks (kernel_long n rows))) in
    subst (λ (l : List (List ℤ)). IsSpanned n l v)
    (kernel_vectors_unique n rows ks ns (kernel_vectors_are n rows) are)
    (record {
      factor = end.0;
      positive = end.1;
      factors = end.2;
      sum = same_products (multiples end.0 v) (combination n end.2 ks) long
          (λ w. dot-multiples end.0 v w ∙ (end.3 w ∙ sym (combined_value n end.2 ks w)));
    })
