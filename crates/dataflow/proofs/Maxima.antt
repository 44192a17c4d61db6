-- A maximum by a minimum, and a wanted point either way by the least point of a problem.
use Rattle.dataflow.proofs.Common.{◌≡◌, ℕ, ℤ, ◌-ℤ◌, List, [], ◌∷◌, length, inl, inr, ◌⊎◌, refl, sym, ap₂, subst, ◌∙◌}
use Rattle.dataflow.proofs.Common.{arith, length-map, ints, LexLess, LexLe, TurnsAtMost, flipped, top, writer_turns}
use Rattle.whole_numbers.proofs.Lexicographic.{lex_total, LexLe-from_less, LexLe-refl}
use Rattle.quast_joins.specs.declared.way.Way.{Way}
use Rattle.quast_joins.specs.declared.way.Way.TheVariants.{Later, Earlier}

lex_le_or_less : (xs ys : List ℤ) → LexLe xs ys ⊎ LexLess ys xs
lex_le_or_less xs ys = elim (lex_total xs ys) [
  | inl less ↦ inl (LexLe-from_less xs ys less)
  | inr rest ↦ elim rest [ inl same ↦ inl (subst (λ us. LexLe xs us) same (LexLe-refl xs)) | inr past ↦ inr past ]
]

-- the order turns round
pub flip-order : (top : ℤ) (xs ys : List ℤ) → length xs ≡ length ys → LexLe xs ys
    → LexLe (flipped top ys) (flipped top xs)
flip-order top [] [] h k = tt
flip-order top [] (y ∷ ys) h k = absurd (omega arith)
flip-order top (x ∷ xs) [] h k = absurd k
flip-order top (x ∷ xs) (y ∷ ys) h (inl l) = inl (omega (arith, ints))
flip-order top (x ∷ xs) (y ∷ ys) h (inr k) = let e = k.0 in inr
    (omega (arith, ints), flip-order top xs ys (omega arith) k.1)

pub flip_twice : (top : ℤ) (xs : List ℤ) → flipped top (flipped top xs) ≡ xs
flip_twice top [] = refl
flip_twice top (x ∷ xs) = let e : top -ℤ (top -ℤ x) ≡ x = omega (arith, ints) in ap₂
    (λ (z : ℤ) (zs : List ℤ). z ∷ zs) e (flip_twice top xs)

-- a least point in x' is a greatest in x
pub max_from_min : (top : ℤ) (n : ℕ) (Q P : List ℤ → Type 0) (x : List ℤ) → ((ys : List ℤ) → Q ys → P (flipped top ys))
    → ((ys : List ℤ) → P ys → Q (flipped top ys)) → ((ys : List ℤ) → P ys → length ys ≡ n)
    → P x → ((y : List ℤ) → P y → LexLess y x → ⊥) → Q (flipped top x) ×
    ((ys : List ℤ) → Q ys → LexLe ys (flipped top x))
max_from_min top n Q P x to of size inside least = (of x inside, λ ys q. at_most ys (to ys q))
  where
    at_most : (ys : List ℤ) → P (flipped top ys) → LexLe ys (flipped top x)
    at_most ys p = elim (lex_le_or_less x (flipped top ys)) [
      | inl l ↦ subst (λ us. LexLe us (flipped top x)) (flip_twice top ys)
          (flip-order top x (flipped top ys) (size x inside ∙ sym (size (flipped top ys) p)) l)
      | inr l ↦ absurd (least (flipped top ys) p l)
    ]

-- the unknowns of a problem and the writer's turns
pub length-turns : (way : Way) (xs : List ℤ) → length (writer_turns way xs) ≡ length xs
length-turns Later xs = length-map xs (λ (z : ℤ). top -ℤ z)
length-turns Earlier xs = refl

pub turns_twice : (way : Way) (xs : List ℤ) → writer_turns way (writer_turns way xs) ≡ xs
turns_twice Later xs = flip_twice top xs
turns_twice Earlier xs = refl

-- a least point in the unknowns is a wanted one in the turns
pub wanted_from_min : (way : Way) (n : ℕ) (Q P : List ℤ → Type 0) (x : List ℤ)
    → ((ys : List ℤ) → Q ys → P (writer_turns way ys)) → ((ys : List ℤ) → P ys → Q (writer_turns way ys))
    → ((ys : List ℤ) → P ys → length ys ≡ n) → P x → ((y : List ℤ) → P y → LexLess y x → ⊥)
    → Q (writer_turns way x) × ((ys : List ℤ) → Q ys → TurnsAtMost way ys (writer_turns way x))
wanted_from_min Later n Q P x to of size inside least = max_from_min top n Q P x to of size inside least
wanted_from_min Earlier n Q P x to of size inside least = (
  of x inside,
  λ ys q. elim (lex_le_or_less x ys) [ inl l ↦ l | inr l ↦ absurd (least ys (to ys q) l) ],
)
