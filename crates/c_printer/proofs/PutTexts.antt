-- Texts put behind one another (`behind`).
use Rattle.scop_syntax.proofs.Common.{◌≡◌, ◌∙◌, ap, refl, ℕ, suc, ◌+◌, ◌-◌, ◌<◌, ◌≤◌, List, [], ◌∷◌, ◌++◌, drop, length}
use Rattle.scop_syntax.proofs.Common.{map, arith, sym, get_or, drop-cons, add-one, append-nil, Bool, false, codes}
use Rattle.scop_syntax.proofs.Common.{drop_all, Affine, Head, Program}
use Rattle.std.proofs.lemmas.List.{append_assoc}
use Rattle.scop_lexer.specs.Bytes.{Text}
use Rattle.loop_tree.specs.Tree.{Bound, bounds_of, Test, Tree, Trees, more}
use Rattle.c_printer.specs.Statements.{between}
use Rattle.c_printer.specs.Nodes.{givens_text, repeated, indent, bound_text, bounds_text, node_text, nodes_text}
use Rattle.c_printer.specs.Nodes.{conjunction, test_text, tests_text}

-- a text once more, and the times behind it
pub repeated_ahead : (text : Text) (n i : ℕ) → i < n → repeated text (n - i) ≡ text ++ repeated text (n - (i + 1))
repeated_ahead text n i h = ap (repeated text) (let e : n - i ≡ suc (n - (i + 1)) = omega (arith, h) in e)

-- a text behind another, and what stands behind both
pub behind : (a b x rest : Text) → b ≡ a ++ x → b ++ rest ≡ a ++ (x ++ rest)
behind a b x rest e = ap (λ (t : Text). t ++ rest) e ∙ append_assoc a x rest

-- five texts, one behind another
pub five_behind : (a one two three four x lower y upper z : Text) → one ≡ a ++ x → two ≡ one ++ lower
    → three ≡ two ++ y → four ≡ three ++ upper → four ++ z ≡ a ++ (x ++ (lower ++ (y ++ (upper ++ z))))
five_behind a one two three four x lower y upper z h i j k =
    behind three four upper z k
    ∙ (behind two three y (upper ++ z) j
    ∙ (behind one two lower (y ++ (upper ++ z)) i ∙ behind a one x (lower ++ (y ++ (upper ++ z))) h))

-- the entry at a place, and those behind it
pub entry_here : {A : Type 0} (xs : List A) (i : ℕ) (x : A) → x ≡ get_or xs i x → i < length xs
    → drop i xs ≡ x ∷ drop (i + 1) xs
entry_here xs i x found within =
    drop-cons xs i x within
    ∙ (ap (λ k. get_or xs i x ∷ drop k xs) (sym (add-one i)) ∙ ap (λ y. y ∷ drop (i + 1) xs) (sym found))

-- a test more
pub test_put : {A : Type 0} (f : A → Test) (names : List Text) (loops : ℕ) (xs : List A) (i : ℕ) (first : Bool) (x : A)
    (old one two whole : Text) → x ≡ get_or xs i x → i < length xs → one ≡ old ++ conjunction first
    → two ≡ one ++ test_text names loops (f x)
    → old ++ tests_text first names loops (map f (drop i xs)) ≡ whole
    → two ++ tests_text false names loops (map f (drop (i + 1) xs)) ≡ whole
test_put {A} f names loops xs i first x old one two whole found within joined put so_far =
    let test = test_text names loops (f x) in
    let rest = tests_text false names loops (map f (drop (i + 1) xs)) in
    behind one two test rest put
    ∙ (behind old one (conjunction first) (test ++ rest) joined
    ∙ (ap (λ (us : List A). old ++ tests_text first names loops (map f us)) (sym (entry_here xs i x found within))
    ∙ so_far))

-- a node more
pub node_put : (program : Program) (level loops : ℕ) (here rest : Trees) (t : Tree) (old one two whole : Text)
    → here ≡ more t rest → one ≡ old ++ indent level → two ≡ one ++ node_text program level loops t
    → old ++ nodes_text program level loops here ≡ whole → two ++ nodes_text program level loops rest ≡ whole
node_put program level loops here rest t old one two whole e h k so_far =
    let node = node_text program level loops t in
    let nodes = nodes_text program level loops rest in
    behind one two node nodes k
    ∙ (behind old one (indent level) (node ++ nodes) h
    ∙ (ap (λ (ts : Trees). old ++ nodes_text program level loops ts) (sym e) ∙ so_far))

-- behind the last of a list, all of it is put
pub all_put : {A : Type 0} (text : List A → Text) (xs : List A) (i : ℕ) (out whole : Text) → text [] ≡ []
    → length xs ≤ i → out ++ text (drop i xs) ≡ whole → out ≡ whole
all_put text xs i out whole empty past so_far =
    sym (append-nil out)
    ∙ (ap (λ (t : Text). out ++ t) (sym (ap text (drop_all i xs past) ∙ empty)) ∙ so_far)

-- a bound more that others stand behind
pub choice_put : (divided chosen : Text) (names : List Text) (loops i : ℕ) (bound next : Bound) (others : List Bound)
    (old new whole : Text) → next ≡ get_or others i next → i < length others
    → new ≡ old ++ between chosen (bound_text divided names loops bound) (codes ", ")
    → old ++ (bounds_text divided chosen names loops (bounds_of bound (drop i others)) ++ repeated (codes ")") i)
    ≡ whole
    → new ++ (bounds_text divided chosen names loops (bounds_of next (drop (i + 1) others))
    ++ repeated (codes ")") (i + 1)) ≡ whole
choice_put divided chosen names loops i bound next others old new whole found within put so_far =
    let one = between chosen (bound_text divided names loops bound) (codes ", ") in
    let rest = bounds_text divided chosen names loops (bounds_of next (drop (i + 1) others)) in
    let ends = repeated (codes ")") i in
    behind old new one (rest ++ repeated (codes ")") (i + 1)) put
    ∙ (ap (λ n. old ++ (one ++ (rest ++ repeated (codes ")") n))) (add-one i)
    ∙ (ap (λ (t : Text). old ++ (one ++ t)) (sym (append_assoc rest (codes ")") ends))
    ∙ (ap (λ (t : Text). old ++ t) (sym (append_assoc one (rest ++ codes ")") ends))
    ∙ (ap (λ (bs : List Bound). old ++ (bounds_text divided chosen names loops (bounds_of bound bs) ++ ends))
    (sym (entry_here others i next found within)) ∙ so_far))))

-- the last bound, and the parentheses behind it
pub choices_end : (divided chosen : Text) (names : List Text) (loops i n : ℕ) (bound : Bound) (others : List Bound)
    (old new whole : Text) → length others ≤ i → n ≡ i → new ≡ old ++ bound_text divided names loops bound
    → old ++ (bounds_text divided chosen names loops (bounds_of bound (drop i others)) ++ repeated (codes ")") i)
    ≡ whole → new ++ repeated (codes ")") n ≡ whole
choices_end divided chosen names loops i n bound others old new whole past count put so_far =
    let last = bound_text divided names loops bound in
    behind old new last (repeated (codes ")") n) put
    ∙ (ap (λ k. old ++ (last ++ repeated (codes ")") k)) count
    ∙ (ap (λ (bs : List Bound). old ++ (bounds_text divided chosen names loops (bounds_of bound bs)
    ++ repeated (codes ")") i)) (sym (drop_all i others past)) ∙ so_far))

-- where turns end, so do the iterators
pub givens_end : (parameters loops : ℕ) (names : List Text) (heads : List Head) (turns : List Affine) (i : ℕ)
    → length turns ≤ i → givens_text parameters loops names heads (drop i turns) ≡ []
givens_end parameters loops names [] turns i h = refl
givens_end parameters loops names (head ∷ heads) turns i h =
    ap (givens_text parameters loops names (head ∷ heads)) (drop_all i turns h)

pub ruleset putting = (append_assoc)
