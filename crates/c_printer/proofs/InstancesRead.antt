-- Instances are read back.
use Rattle.scop_syntax.proofs.Common.{◌≡◌, ◌∙◌, ap, sym, subst, refl, ℕ, suc, ◌+◌, ◌^◌, ◌<◌, ◌≤◌, List, [], ◌∷◌, ◌++◌}
use Rattle.scop_syntax.proofs.Common.{length, decimal, arith, Some, Option, codes, slice_get, Affine, Head, Program}
use Rattle.scop_syntax.proofs.Common.{Standing, standings_of}
use Rattle.std.proofs.lemmas.List.{append_assoc, length-append}
use Rattle.scop_lexer.specs.Bytes.{Text}
use Rattle.loop_tree.specs.Tree.{instance}
use Rattle.form_text.specs.Forms.{form_text}
use Rattle.form_text.specs.Names.{IsFresh, AreNames, IsFormOver}
use Rattle.form_text.specs.Numerals.{numeral}
use Rattle.form_text.specs.Reading.{strip, when, behind_digits, term_in_front, EndsForm}
use Rattle.form_text.proofs.Digits.{numeral_number, numeral_behind}
use Rattle.form_text.proofs.Numerals.{decimal_is_numeral}
use Rattle.form_text.proofs.Calls.{strip_front}
use Rattle.c_printer.specs.Forms.{names_in, loop_names, iterator_form}
use Rattle.c_printer.specs.Naming.{iterators_of}
use Rattle.c_printer.specs.Statements.{between, statement_text}
use Rattle.c_printer.specs.Nodes.{givens_text, body_text}
use Rattle.c_printer.specs.Reading.{read_turn, with_turn, read_givens, body_at, instance_at, read_instance}
use Rattle.c_printer.specs.Printable.{AreTurns, IsInstance, AreHeads}
use Rattle.c_printer.proofs.FormsRead.{read_turn_back, length_loop_names}
use Rattle.c_printer.proofs.FormsOver.{iterator_is_over}
use Rattle.c_printer.proofs.BoundsRead.{between_front}

pub fresh_front : (name : Text) (xs ys : List Text) → IsFresh name (xs ++ ys) → IsFresh name xs
fresh_front name [] ys h = tt
fresh_front name (x ∷ xs) ys h = (h.0, fresh_front name xs ys h.1)

-- the first of names are names
pub names_front : (xs ys : List Text) → AreNames (xs ++ ys) → AreNames xs
names_front [] ys h = tt
names_front (x ∷ xs) ys h = (h.0, fresh_front x xs ys h.1, names_front xs ys h.2)

pub semicolon_ends : (rest : Text) → EndsForm (codes "; " ++ rest)
unfolding term_in_front
semicolon_ends rest = record { factor = refl; term = refl }

givens_back : (parameters loops k : ℕ) (names : List Text) (heads : List Head) (turns : List Affine) (rest : Text)
    → length names ≡ k + loops → AreNames (names ++ iterators_of heads) → AreHeads k heads → parameters ≤ k
    → AreTurns parameters loops heads turns
    → read_givens parameters loops names heads (givens_text parameters loops names heads turns ++ rest)
    ≡ Some (turns, rest)
givens_back parameters loops k names [] [] rest c n a few h = refl
givens_back parameters loops k names [] (turn ∷ turns) rest c n a few h = absurd h
givens_back parameters loops k names (head ∷ heads) [] rest c n a few h = absurd h
givens_back parameters loops k names (head ∷ heads) (turn ∷ turns) rest c n a few h =
    let more = names ++ (head.iterator ∷ []) in
    let form = form_text names (iterator_form parameters loops head turn) in
    let others = givens_text parameters loops more heads turns in
    let behind = codes "; " ++ (others ++ rest) in
    let named = between (codes "const int64_t ") head.iterator (codes " = ") in
    let starts = a.0.entries in
    let one = length-append names (head.iterator ∷ []) in
    let text : ((named ++ (form ++ codes "; ")) ++ others) ++ rest
    ≡ codes "const int64_t " ++ (head.iterator ++ (codes " = " ++ (form ++ behind))) =
    append_assoc (named ++ (form ++ codes "; ")) others rest
    ∙ (append_assoc named (form ++ codes "; ") (others ++ rest)
    ∙ (ap (λ (t : Text). named ++ t) (append_assoc form (codes "; ") (others ++ rest))
    ∙ between_front (codes "const int64_t ") head.iterator (codes " = ") (form ++ behind))) in
    ap (read_givens parameters loops names (head ∷ heads)) text
    ∙ (ap (λ o. when o (λ u. when (strip (codes " = ") u) (λ v. when (read_turn parameters loops names head v)
    (with_turn (read_givens parameters loops more heads)))))
    (strip_front head.iterator (codes " = " ++ (form ++ behind)))
    ∙ (ap (λ o. when o (with_turn (read_givens parameters loops more heads)))
    (read_turn_back parameters loops names head turn behind (names_front names (head.iterator ∷ iterators_of heads) n)
    (subst (λ m. IsFormOver m (iterator_form parameters loops head turn)) (sym c)
    (iterator_is_over parameters loops k head turn few a.0 h.0))
    h.0 (omega (arith, starts, few)) a.0.some (semicolon_ends (others ++ rest)))
    ∙ ap (λ o. when o (λ (q : List Affine × Text). Some (turn ∷ q.0, q.1)))
    (givens_back parameters loops (suc k) more heads turns rest (omega (arith, c, one))
    (subst AreNames (sym (append_assoc names (head.iterator ∷ []) (iterators_of heads))) n) a.1
    (omega (arith, few)) h.1)))

body_back : (program : Program) (loops n : ℕ) (s : Standing) (turns : List Affine) (rest : Text) (o : Option Standing)
    → Some s ≡ o → AreNames (names_in program.parameters loops ++ iterators_of s.heads)
    → AreHeads (length program.parameters) s.heads
    → AreTurns (length program.parameters) loops s.heads turns
    → body_at program (names_in program.parameters loops) loops n
    (body_text program (names_in program.parameters loops) loops o turns ++ (codes "; }\n" ++ rest)) o
    ≡ Some (instance n turns, rest)
body_back program loops n s turns rest o is told a h =
    subst (λ o. body_at program (names_in program.parameters loops) loops n
    (body_text program (names_in program.parameters loops) loops o turns ++ (codes "; }\n" ++ rest)) o
    ≡ Some (instance n turns, rest)) is
    (let p = length program.parameters in
    let names = names_in program.parameters loops in
    let both = length-append program.parameters (loop_names loops) in
    let own = length_loop_names loops in
    let count : length names ≡ p + loops = omega (arith, both, own) in
    let said = statement_text program (program.parameters ++ iterators_of s.heads) s.body in
    let behind = codes "; }\n" ++ rest in
    ap (λ (x : Text). body_at program names loops n x (Some s))
    (append_assoc (givens_text p loops names s.heads turns) said behind)
    ∙ (ap (λ o. when o (λ (r : List Affine × Text). when (strip said r.1)
    (λ t. when (strip (codes "; }\n") t) (λ u. Some (instance n r.0, u)))))
    (givens_back p loops p names s.heads turns (said ++ behind) count told a (omega arith) h)
    ∙ ap (λ o. when o (λ t. when (strip (codes "; }\n") t) (λ u. Some (instance n turns, u))))
    (strip_front said behind)))

-- an instance, behind the bytes that tell it
pub instance_back : (program : Program) (loops n : ℕ) (turns : List Affine) (rest : Text)
    (i : IsInstance program loops n turns) → n < 2 ^ 63
    → AreNames (names_in program.parameters loops ++ iterators_of i.standing.heads)
    → AreHeads (length program.parameters) i.standing.heads
    → read_instance program (names_in program.parameters loops) loops (decimal (suc n) ++ (codes " */ "
    ++ (body_text program (names_in program.parameters loops) loops (slice_get (standings_of program) n) turns
    ++ (codes "; }\n" ++ rest)))) ≡ Some (instance n turns, rest)
unfolding read_instance
instance_back program loops n turns rest i number told a =
    let names = names_in program.parameters loops in
    let said = body_text program names loops (slice_get (standings_of program) n) turns ++ (codes "; }\n" ++ rest) in
    let text = codes " */ " ++ said in
    ap (λ (t : Text). read_instance program names loops (t ++ text))
    (decimal_is_numeral (suc n) (omega (arith, number)))
    ∙ (ap (λ m. instance_at program names loops m (behind_digits (numeral (suc n) ++ text)))
    (numeral_number (suc n) text refl)
    ∙ (ap (instance_at program names loops (suc n)) (numeral_behind (suc n) text refl)
    ∙ body_back program loops n i.standing turns rest (slice_get (standings_of program) n) (sym i.stands) told a
    i.turned))
