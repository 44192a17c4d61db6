-- Loops, guards and sequences are read back.
use Rattle.scop_syntax.proofs.Common.{◌≡◌, ◌∙◌, ap, refl, ℕ, zero, suc, ◌+◌, ◌^◌, ◌<◌, ◌≤◌, Bool, true, false, List, []}
use Rattle.scop_syntax.proofs.Common.{◌∷◌, ◌++◌, length, decimal, arith, Some, None, Option, codes, slice_get}
use Rattle.scop_syntax.proofs.Common.{slice_get_within, Program, Standing, standings_of}
use Rattle.std.proofs.lemmas.List.{append_assoc, length-append}
use Rattle.scop_lexer.specs.Bytes.{Text}
use Rattle.loop_tree.specs.Tree.{Bounds, Tree, loop, guard, instance, Trees, none, more}
use Rattle.form_text.specs.Names.{AreNames}
use Rattle.form_text.specs.Reading.{strip, when}
use Rattle.form_text.proofs.Calls.{strip_front}
use Rattle.c_printer.specs.Forms.{names_in, loop_name, loop_names}
use Rattle.c_printer.specs.Statements.{between}
use Rattle.c_printer.specs.Nodes.{lower_text, upper_text, tests_text, body_text, indent, head_text}
use Rattle.c_printer.specs.Nodes.{pragma_text, closing_text, node_text, nodes_text}
use Rattle.c_printer.specs.Reading.{read_lower, read_upper, closed, guard_at, upper_at, lower_at, read_loop}
use Rattle.c_printer.specs.Reading.{read_node, with_node, nodes_at, read_nodes}
use Rattle.c_printer.specs.Printable.{AreBounds, IsNode, AreNodes, IsNamed}
use Rattle.c_printer.proofs.FormsRead.{length_loop_names}
use Rattle.c_printer.proofs.BoundsRead.{between_front, depth, lower_back, upper_back}
use Rattle.c_printer.proofs.TestsRead.{tests_back}
use Rattle.c_printer.proofs.InstancesRead.{semicolon_ends, instance_back}

-- a closing brace is no deeper
not_deeper : (level : ℕ) (rest : Text) → strip (indent (suc level)) (indent level ++ (codes "}\n" ++ rest)) ≡ None
not_deeper zero rest = refl
not_deeper (suc level) rest = not_deeper level rest

closing_front : (level : ℕ) (rest : Text) → closing_text level ++ rest ≡ indent level ++ (codes "}\n" ++ rest)
unfolding closing_text
closing_front level rest = append_assoc (indent level) (codes "}\n") rest

pragma_front : (level : ℕ) (rest : Text)
    → pragma_text level ++ rest ≡ codes "#pragma omp parallel for\n" ++ (indent level ++ rest)
unfolding pragma_text
pragma_front level rest = append_assoc (codes "#pragma omp parallel for\n") (indent level) rest

closed_back : (level : ℕ) (node : Trees → Tree) (ts : Trees) (rest : Text) (r : Option (Trees × Text))
    → r ≡ Some (ts, indent level ++ (codes "}\n" ++ rest)) → closed level node r ≡ Some (node ts, rest)
closed_back level node ts rest r e = ap (closed level node) e
    ∙ ap (λ o. when o (λ t. when (strip (codes "}\n") t) (λ u. Some (node ts, u))))
    (strip_front (indent level) (codes "}\n" ++ rest))

-- a loop's line behind `for (int64_t `, and its body
abbrev line : Text → Text → Text → Text → Text
line name lower upper inner =
    name ++ (codes " = " ++ (lower ++ (codes "; " ++ (name ++ (codes " <= " ++ (upper ++ (codes "; "
    ++ (name ++ (codes "++) {\n" ++ inner)))))))))

loop_back : (body : Text → Option (Trees × Text)) (n parameters loops : ℕ) (names : List Text) (flag : Bool)
    (level : ℕ) (name : Text) (lo up : Bounds) (ts : Trees) (inner rest : Text)
    → AreNames names → length names ≡ loops + parameters → AreBounds parameters loops lo
    → AreBounds parameters loops up → depth lo < n → depth up < n
    → body inner ≡ Some (ts, indent level ++ (codes "}\n" ++ rest))
    → read_loop body n parameters names flag level name
    (line name (lower_text names loops lo) (upper_text names loops up) inner) ≡ Some (loop flag lo up ts, rest)
unfolding read_loop
loop_back body n parameters loops names flag level name lo up ts inner rest told count l u lless uless e =
    let lower = lower_text names loops lo in
    let upper = upper_text names loops up in
    let third = name ++ (codes "++) {\n" ++ inner) in
    let second = name ++ (codes " <= " ++ (upper ++ (codes "; " ++ third))) in
    ap (λ o. when o (λ t. when (strip (codes " = ") t)
    (λ w. lower_at body n parameters names flag level name (read_lower n parameters names w))))
    (strip_front name (codes " = " ++ (lower ++ (codes "; " ++ second))))
    ∙ (ap (lower_at body n parameters names flag level name)
    (lower_back n parameters loops names lo (codes "; " ++ second) told count l lless (semicolon_ends second))
    ∙ (ap (λ o. when o (λ w. when (strip (codes " <= ") w)
    (λ t. upper_at body flag level name lo (read_upper n parameters names t))))
    (strip_front name (codes " <= " ++ (upper ++ (codes "; " ++ third))))
    ∙ (ap (upper_at body flag level name lo)
    (upper_back n parameters loops names up (codes "; " ++ third) told count u uless (semicolon_ends third))
    ∙ (ap (λ o. when o (λ w. when (strip (codes "++) {\n") w) (λ t. closed level (loop flag lo up) (body t))))
    (strip_front name (codes "++) {\n" ++ inner))
    ∙ closed_back level (loop flag lo up) ts rest (body inner) e))))

few_statements : (program : Program) (n : ℕ) (s : Standing) → IsNamed program
    → slice_get (standings_of program) n ≡ Some s → n < 2 ^ 63
few_statements program n s names e =
    let few = names.few in
    let less = slice_get_within (standings_of program) n s e in
    omega (arith, few, less)

-- how many steps a node takes at most
abbrev mutual
  pub steps : Tree → ℕ
  steps (loop flag lo up body) = suc (depth lo + depth up + steps_all body)
  steps (guard tests body) = suc (length tests + steps_all body)
  steps (instance n turns) = 1

  pub steps_all : Trees → ℕ
  steps_all none = 0
  steps_all (more t ts) = suc (steps t + steps_all ts)

-- a loop's line, and what stands behind it
head_front : (name lower upper rest : Text)
    → (between (codes "for (int64_t ") name (codes " = ") ++ (lower ++ (between (codes "; ") name (codes " <= ")
    ++ (upper ++ between (codes "; ") name (codes "++) {\n"))))) ++ rest
    ≡ codes "for (int64_t " ++ line name lower upper rest
head_front name lower upper rest =
    let first = between (codes "for (int64_t ") name (codes " = ") in
    let second = between (codes "; ") name (codes " <= ") in
    let third = between (codes "; ") name (codes "++) {\n") in
    append_assoc first (lower ++ (second ++ (upper ++ third))) rest
    ∙ (ap (λ (t : Text). first ++ t) (append_assoc lower (second ++ (upper ++ third)) rest
    ∙ ap (λ (t : Text). lower ++ t) (append_assoc second (upper ++ third) rest
    ∙ (ap (λ (t : Text). second ++ t) (append_assoc upper third rest
    ∙ ap (λ (t : Text). upper ++ t) (between_front (codes "; ") name (codes "++) {\n") rest))
    ∙ between_front (codes "; ") name (codes " <= ") (upper ++ (codes "; " ++ (name ++ (codes "++) {\n" ++ rest)))))))
    ∙ between_front (codes "for (int64_t ") name (codes " = ")
    (lower ++ (codes "; " ++ (name ++ (codes " <= " ++ (upper ++ (codes "; "
    ++ (name ++ (codes "++) {\n" ++ rest)))))))))

-- a loop's text, and what stands behind it
loop_front : (mark head body : Text) (level : ℕ) (rest : Text)
    → (mark ++ (head ++ (body ++ closing_text level))) ++ rest
    ≡ mark ++ (head ++ (body ++ (indent level ++ (codes "}\n" ++ rest))))
loop_front mark head body level rest =
    append_assoc mark (head ++ (body ++ closing_text level)) rest
    ∙ ap (λ (t : Text). mark ++ t) (append_assoc head (body ++ closing_text level) rest
    ∙ ap (λ (t : Text). head ++ t) (append_assoc body (closing_text level) rest
    ∙ ap (λ (t : Text). body ++ t) (closing_front level rest)))

count_names : (program : Program) (loops : ℕ)
    → length (names_in program.parameters loops) ≡ loops + length program.parameters
count_names program loops =
    let a = length-append program.parameters (loop_names loops) in
    let b = length_loop_names loops in
    omega (arith, a, b)

mutual
  node_back : (program : Program) (n level loops : ℕ) (t : Tree) (rest : Text) → IsNamed program → loops ≤ 2 ^ 63
      → IsNode program loops t → steps t ≤ n
      → read_node (read_nodes program n) program n level loops (node_text program level loops t ++ rest)
      ≡ Some (t, rest)
  node_back program n level loops (loop true lo up body) rest names low h less =
      let p = length program.parameters in
      let told = names_in program.parameters loops in
      let name = loop_name loops in
      let lower = lower_text told loops lo in
      let upper = upper_text told loops up in
      let brace = indent level ++ (codes "}\n" ++ rest) in
      let said = nodes_text program (suc level) (suc loops) body in
      let inner = said ++ brace in
      let small = h.0 in
      let again = read_nodes program n in
      ap (read_node again program n level loops)
      (loop_front (pragma_text level) (head_text name told loops lo up) said level rest
      ∙ (pragma_front level (head_text name told loops lo up ++ inner)
      ∙ ap (λ (t : Text). codes "#pragma omp parallel for\n" ++ (indent level ++ t))
      (head_front name lower upper inner)))
      ∙ (ap (λ o. when o (λ u. when (strip (codes "for (int64_t ") u)
      (λ v. read_loop (again (suc level) (suc loops)) n p told true level name v)))
      (strip_front (indent level) (codes "for (int64_t " ++ line name lower upper inner))
      ∙ loop_back (again (suc level) (suc loops)) n p loops told true level name lo up body inner rest
      (names.loops loops low) (count_names program loops) h.1 h.2 (omega (arith, less)) (omega (arith, less))
      (nodes_back program n (suc level) (suc loops) body brace names (omega (arith, small)) h.3 (omega (arith, less))
      (not_deeper level rest)))
  node_back program n level loops (loop false lo up body) rest names low h less =
      let p = length program.parameters in
      let told = names_in program.parameters loops in
      let name = loop_name loops in
      let brace = indent level ++ (codes "}\n" ++ rest) in
      let said = nodes_text program (suc level) (suc loops) body in
      let inner = said ++ brace in
      let small = h.0 in
      let again = read_nodes program n in
      ap (read_node again program n level loops)
      (loop_front [] (head_text name told loops lo up) said level rest
      ∙ head_front name (lower_text told loops lo) (upper_text told loops up) inner)
      ∙ loop_back (again (suc level) (suc loops)) n p loops told false level name lo up body inner rest
      (names.loops loops low) (count_names program loops) h.1 h.2 (omega (arith, less)) (omega (arith, less))
      (nodes_back program n (suc level) (suc loops) body brace names (omega (arith, small)) h.3 (omega (arith, less))
      (not_deeper level rest))
  node_back program n level loops (guard [] body) rest names low h less = absurd h
  node_back program n level loops (guard (test ∷ tests) body) rest names low h less =
      let p = length program.parameters in
      let told = names_in program.parameters loops in
      let asked = tests_text true told loops (test ∷ tests) in
      let brace = indent level ++ (codes "}\n" ++ rest) in
      let said = nodes_text program (suc level) loops body in
      let inner = said ++ brace in
      let again = read_nodes program n in
      ap (read_node again program n level loops)
      (loop_front [] (between (codes "if (") asked (codes ") {\n")) said level rest
      ∙ between_front (codes "if (") asked (codes ") {\n") inner)
      ∙ (ap (guard_at (again (suc level) loops) level)
      (tests_back n p loops told test tests (codes ") {\n" ++ inner) (names.loops loops low) (count_names program loops)
      h.0 (omega (arith, less)) refl)
      ∙ closed_back level (guard (test ∷ tests)) body rest (again (suc level) loops inner)
      (nodes_back program n (suc level) loops body brace names low h.1 (omega (arith, less)) (not_deeper level rest)))
  node_back program n level loops (instance k turns) rest names low h less =
      let told = names_in program.parameters loops in
      let said = body_text program told loops (slice_get (standings_of program) k) turns in
      let counted = between (codes "{ /* S") (decimal (suc k)) (codes " */ ") in
      ap (read_node (read_nodes program n) program n level loops)
      (append_assoc counted (said ++ codes "; }\n") rest
      ∙ (ap (λ (t : Text). counted ++ t) (append_assoc said (codes "; }\n") rest)
      ∙ between_front (codes "{ /* S") (decimal (suc k)) (codes " */ ") (said ++ (codes "; }\n" ++ rest))))
      ∙ instance_back program loops k turns rest h (few_statements program k h.standing names h.stands)
      (names.statements loops k h.standing low h.stands) (names.heads k h.standing h.stands)

  pub nodes_back : (program : Program) (n level loops : ℕ) (ts : Trees) (rest : Text) → IsNamed program
      → loops ≤ 2 ^ 63 → AreNodes program loops ts → steps_all ts < n → strip (indent level) rest ≡ None
      → read_nodes program n level loops (nodes_text program level loops ts ++ rest) ≡ Some (ts, rest)
  nodes_back program zero level loops none rest names low h less e = absurd (omega (arith, less))
  nodes_back program zero level loops (more t ts) rest names low h less e = absurd (omega (arith, less))
  nodes_back program (suc n) level loops none rest names low h less e =
      ap (nodes_at (read_nodes program n) program n level loops rest) e
  nodes_back program (suc n) level loops (more t ts) rest names low h less e =
      let said = node_text program level loops t in
      let others = nodes_text program level loops ts in
      let behind = others ++ rest in
      let text : (indent level ++ (said ++ others)) ++ rest ≡ indent level ++ (said ++ behind) =
      append_assoc (indent level) (said ++ others) rest
      ∙ ap (λ (t : Text). indent level ++ t) (append_assoc said others rest) in
      ap (read_nodes program (suc n) level loops) text
      ∙ (ap (nodes_at (read_nodes program n) program n level loops (indent level ++ (said ++ behind)))
      (strip_front (indent level) (said ++ behind))
      ∙ (ap (with_node (read_nodes program n level loops))
      (node_back program n level loops t behind names low h.0 (omega (arith, less)))
      ∙ ap (λ o. when o (λ (q : Trees × Text). Some (more t q.0, q.1)))
      (nodes_back program n level loops ts rest names low h.1 (omega (arith, less)) e)))
