-- Elements that lead to the end are those of a tree, read off from the left.
use Rattle.std.proofs.Common.{◌≡◌, ℕ, zero, suc, ◌+◌, ◌-◌, ◌≤◌, Bool, true, false, List, [], ◌∷◌, ◌++◌, length, refl}
use Rattle.std.proofs.Common.{ap, ◌∙◌, append_assoc, arith, rules, nat_eq, if◌then◌else◌}
use Rattle.std.specs.Prelude.{⊤}
use Rattle.scop_expressions.specs.Assign.{Assign}
use Rattle.scop_expressions.specs.Assign.TheVariants as set
use Rattle.scop_expressions.specs.Count.{Count}
use Rattle.scop_expressions.specs.Op.TheVariants as op
use Rattle.scop_expressions.specs.Outside.TheVariants as outside
use Rattle.scop_expressions.specs.Token.{Token}
use Rattle.scop_expressions.specs.Token.TheVariants as token
use Rattle.scop_expressions.specs.Tree.{Tree, name, index, IsPlace, tokens_of, operators}
use Rattle.scop_grammar.specs.declared.table.Level.{Level}
use Rattle.scop_grammar.specs.declared.table.Level.TheVariants as level
use Rattle.scop_grammar.specs.declared.table.Role.TheVariants as role
use Rattle.scop_grammar.specs.declared.table.Want.TheVariants as want
use Rattle.scop_grammar.specs.Table.{carried}
use Rattle.scop_grammar.specs.Kernel.{Element, sign, plain, expression, spelled, ends, Step, counted, counts}
use Rattle.scop_grammar.specs.Kernel.{assigned, Head, branch, loop, Item, block, empty, assign, headed, Items, none}
use Rattle.scop_grammar.specs.Kernel.{more, step_elements, head_elements, place_elements, item_elements, all_elements}
use Rattle.scop_grammar.specs.Kernel.{other_names, declarations, assign_sign, semicolon, comma, Fits, IsStepAssign}
use Rattle.scop_grammar.specs.Kernel.{HeadFits, ItemFits, ItemsFit}
use Rattle.scop_grammar.proofs.Paths.{Ends}

pub spelled_append : (es fs : List Element) → spelled (es ++ fs) ≡ spelled es ++ spelled fs
spelled_append [] fs = refl
spelled_append (sign t m ∷ es) fs = ap (λ (ts : List Token). t ∷ ts) (spelled_append es fs)
spelled_append (expression x t ∷ es) fs = rw (spelled_append es fs) (simp append_assoc)

abbrev pub brace : Token
brace = token.Outside outside.BraceClose

-- the ends of the open blocks, innermost first, with the items behind each
abbrev pub end_tokens : List Items → List Token
end_tokens [] = brace ∷ []
end_tokens (is ∷ iss) = brace ∷ (spelled (all_elements is) ++ end_tokens iss)

abbrev pub EachFit : ℕ → ℕ → List Items → Type 0
EachFit d n [] = ⊤
EachFit d n (is ∷ iss) = ItemsFit d n is × EachFit d n iss

-- the rest of a text within a block, where so many are open round it
pub record InBlock (d n b : ℕ) (ts : List Token) : Type 0 where
  pub inner : Items
  pub outer : List Items
  pub count : length outer ≡ b
  pub fit : ItemsFit d n inner
  pub fits : EachFit d n outer
  pub tokens : ts ≡ spelled (all_elements inner) ++ end_tokens outer

-- the rest of a text from an item on
pub record InBody (d n b : ℕ) (ts : List Token) : Type 0 where
  pub item : Item
  pub fit : ItemFits d n item
  pub rest : List Token
  pub block : InBlock d n b rest
  pub tokens : ts ≡ spelled (item_elements item) ++ rest

-- the rest of a text from the declarations on
pub record InDeclarations (d n b : ℕ) (ts : List Token) : Type 0 where
  pub declared : List ℕ
  pub rest : List Token
  pub block : InBlock d n b rest
  pub tokens : ts ≡ spelled (declarations declared) ++ rest

abbrev pub Begun : ℕ → ℕ → Level → ℕ → List Token → Type 0
Begun d n level.Declarations b ts = InDeclarations d n b ts
Begun d n level.Block b ts = InBlock d n b ts
Begun d n level.Body b ts = InBody d n b ts

pub first_item : (d n b : ℕ) (ts : List Token) → InBody d n b ts → InBlock d n b ts
first_item d n b ts k =
    record {
      inner = more k.item k.block.inner;
      outer = k.block.outer;
      count = k.block.count;
      fit = (k.fit, k.block.fit);
      fits = k.block.fits;
      tokens =
          k.tokens
          ∙ rw (k.block.tokens, spelled_append (item_elements k.item) (all_elements k.block.inner)) (simp append_assoc);
    }

-- no declaration, or no more
pub undeclared : (d n b : ℕ) (ts : List Token) → InBlock d n b ts → InDeclarations d n b ts
undeclared d n b ts k = record { declared = []; rest = ts; block = k; tokens = refl }

pub begun_item : (d n : ℕ) (l : Level) (b : ℕ) (ts : List Token) → InBody d n b ts → Begun d n l b ts
begun_item d n level.Declarations b ts k = undeclared d n b ts (first_item d n b ts k)
begun_item d n level.Block b ts k = first_item d n b ts k
begun_item d n level.Body b ts k = k

pub with_item : (d n b : ℕ) (i : Item) (ts us : List Token) → ItemFits d n i → us ≡ spelled (item_elements i) ++ ts
    → InBlock d n b ts → InBody d n b us
with_item d n b i ts us f e k = record { item = i; fit = f; rest = ts; block = k; tokens = e }

pub with_head : (d n b : ℕ) (h : Head) (ts us : List Token) → HeadFits d n h → us ≡ spelled (head_elements h) ++ ts
    → InBody d n b ts → InBody d n b us
with_head d n b h ts us f e k =
    record {
      item = headed h k.item;
      fit = (f, k.fit);
      rest = k.rest;
      block = k.block;
      tokens = e ∙ rw (k.tokens, spelled_append (head_elements h) (item_elements k.item)) (simp append_assoc);
    }

pub body_as : (d n b : ℕ) (ts us : List Token) → us ≡ ts → InBody d n b ts → InBody d n b us
body_as d n b ts us e k =
    record { item = k.item; fit = k.fit; rest = k.rest; block = k.block; tokens = e ∙ k.tokens }

-- a block begins
pub opened : (d n b : ℕ) (inner : Items) (outer : List Items) (ts : List Token) → length outer ≡ b + 1
    → ItemsFit d n inner → EachFit d n outer → ts ≡ spelled (all_elements inner) ++ end_tokens outer
    → InBody d n b (token.Outside outside.BraceOpen ∷ ts)
opened d n b inner [] ts c f g e = absurd (omega arith)
opened d n b inner (is ∷ iss) ts c f g e =
    record {
      item = block inner;
      fit = f;
      rest = spelled (all_elements is) ++ end_tokens iss;
      block = record { inner = is; outer = iss; count = omega arith; fit = g.0; fits = g.1; tokens = refl };
      tokens = rw (e, spelled_append (all_elements inner) (ends ∷ [])) (simp append_assoc);
    }

pub open_block : (d n b : ℕ) (ts : List Token) → InBlock d n (b + 1) ts
    → InBody d n b (token.Outside outside.BraceOpen ∷ ts)
open_block d n b ts k = opened d n b k.inner k.outer ts k.count k.fit k.fits k.tokens

-- a block ends
pub outermost : (d n : ℕ) (es : List Element) → Ends d n want.Over 0 0 es → InBlock d n 0 (brace ∷ spelled es)
outermost d n [] p = record { inner = none; outer = []; count = refl; fit = tt; fits = tt; tokens = refl }
outermost d n (sign t m ∷ es) p = absurd p
outermost d n (expression x t ∷ es) p = absurd p

pub closed : (d n b : ℕ) (es : List Element)
    → Ends d n (if nat_eq b 0 then want.Over else want.Item level.Block) (b - 1)
    (carried (if nat_eq b 0 then want.Over else want.Item level.Block) 0) es
    → ((c : ℕ) → Ends d n (want.Item level.Block) c 0 es → InBlock d n c (spelled es))
    → InBlock d n b (brace ∷ spelled es)
closed d n zero es p later = outermost d n es p
closed d n (suc b) es p later =
    let e : nat_eq (suc b) 0 ≡ false = search rules in
    let z : suc b - 1 ≡ b = omega arith in
    let k = later b (rw (e, z) at p) in
    record {
      inner = none;
      outer = k.inner ∷ k.outer;
      count = let c = k.count in omega arith;
      fit = tt;
      fits = (k.fit, k.fits);
      tokens = rw k.tokens refl;
    }

pub name_fits : (d n : ℕ) → Fits d n name
name_fits d n =
    record {
      expression = record { brackets = tt; rank = omega arith };
      within = record { depth = omega arith; operators = omega arith };
    }

pub index_fits : (d n : ℕ) (p i : Tree) → 1 ≤ d → IsPlace p → Fits d n p → Fits (d - 1) (n - operators p) i
    → Fits d n (index p i)
index_fits d n p i k q f g =
    let a = f.within.depth in
    let b = f.within.operators in
    let c = g.within.depth in
    let e = g.within.operators in
    record {
      expression =
          record {
            brackets = (q, g.expression.rank, f.expression.brackets, g.expression.brackets);
            rank = omega arith;
          };
      within = record { depth = omega arith; operators = omega arith };
    }

-- the head of a loop up to its first part
abbrev pub loop_front : Bool → List Token
loop_front true =
    token.Outside outside.For ∷ token.Open ∷ token.Outside outside.Int64 ∷ token.Name
    ∷ token.Outside (outside.Assign set.Set) ∷ []
loop_front false =
    token.Outside outside.For ∷ token.Open ∷ token.Name ∷ token.Outside (outside.Assign set.Set) ∷ []

-- the head of a loop up to its name
abbrev pub loop_name_front : Bool → List Token
loop_name_front true =
    token.Outside outside.For ∷ token.Open ∷ token.Outside outside.Int64 ∷ token.Name ∷ []
loop_name_front false = token.Outside outside.For ∷ token.Open ∷ token.Name ∷ []

-- the head of a loop up to its step
abbrev pub loop_head : Bool → Tree → Tree → List Token → List Token
loop_head e a c ts = loop_front e ++ (tokens_of a ++ semicolon ∷ (tokens_of c ++ semicolon ∷ ts))

pub with_loop : (d n b : ℕ) (e : Bool) (a c : Tree) (s : Step) (xs ts : List Token)
    → HeadFits d n (loop e a c s) → xs ≡ spelled (step_elements s) ++ ts → InBody d n b ts
    → InBody d n b (loop_head e a c xs)
with_loop d n b true a c s xs ts f q k =
    with_head d n b (loop true a c s) ts (loop_head true a c xs) f (rw q (simp append_assoc)) k
with_loop d n b false a c s xs ts f q k =
    with_head d n b (loop false a c s) ts (loop_head false a c xs) f (rw q (simp append_assoc)) k

-- the names of a declaration behind its first
pub record InNames (d n b : ℕ) (ts : List Token) : Type 0 where
  pub names : ℕ
  pub rest : List Token
  pub declarations : InDeclarations d n b rest
  pub tokens : ts ≡ spelled (other_names names) ++ rest

pub with_declaration : (d n b : ℕ) (ts : List Token) → InNames d n b ts
    → InDeclarations d n b (token.Outside outside.Int64 ∷ token.Name ∷ ts)
with_declaration d n b ts k =
    record {
      declared = k.names ∷ k.declarations.declared;
      rest = k.declarations.rest;
      block = k.declarations.block;
      tokens =
          rw (
            k.tokens,
            k.declarations.tokens,
            spelled_append (other_names k.names) (declarations k.declarations.declared),
          ) (simp append_assoc);
    }

mutual
  pub begun : (d n : ℕ) (l : Level) (b : ℕ) (es : List Element) → 1 ≤ d → Ends d n (want.Item l) b 0 es
      → Begun d n l b (spelled es)
  begun d n l b (sign token.Name m ∷ es) k p =
      begun_item d n l b (token.Name ∷ spelled es) (placed d n name b es k tt (name_fits d n) p.1)
  begun d n l b (sign (token.Outside outside.BraceOpen) m ∷ es) k p =
      begun_item d n l b (token.Outside outside.BraceOpen ∷ spelled es)
      (open_block d n b (spelled es) (begun d n level.Block (b + 1) es k p.1))
  begun d n l b (sign (token.Outside outside.Semicolon) m ∷ es) k p =
      begun_item d n l b (semicolon ∷ spelled es)
      (with_item d n b empty (spelled es) (semicolon ∷ spelled es) tt refl (begun d n level.Block b es k p.1))
  begun d n l b (sign (token.Outside outside.If) m ∷ es) k p =
      begun_item d n l b (token.Outside outside.If ∷ spelled es) (condition_open d n b es k p.1)
  begun d n l b (sign (token.Outside outside.For) m ∷ es) k p =
      begun_item d n l b (token.Outside outside.For ∷ spelled es) (loop_open d n b es k p.1)
  begun d n level.Declarations b (sign (token.Outside outside.Int64) m ∷ es) k p =
      with_name d n b es k p.1
  begun d n level.Declarations b (sign (token.Outside outside.BraceClose) m ∷ es) k p =
      undeclared d n b (brace ∷ spelled es)
      (closed d n b es p.1
      (λ (c : ℕ) (q : Ends d n (want.Item level.Block) c 0 es). begun d n level.Block c es k q))
  begun d n level.Block b (sign (token.Outside outside.BraceClose) m ∷ es) k p =
      closed d n b es p.1
      (λ (c : ℕ) (q : Ends d n (want.Item level.Block) c 0 es). begun d n level.Block c es k q)
  begun d n l b _ k p = absurd p

  pub with_name : (d n b : ℕ) (es : List Element) → 1 ≤ d → Ends d n want.DeclaredName b 0 es
      → InDeclarations d n b (token.Outside outside.Int64 ∷ spelled es)
  with_name d n b (sign token.Name m ∷ es) k p =
      with_declaration d n b (spelled es) (after_name d n b es k p.1)
  with_name d n b _ k p = absurd p

  pub after_name : (d n b : ℕ) (es : List Element) → 1 ≤ d → Ends d n want.AfterDeclared b 0 es
      → InNames d n b (spelled es)
  after_name d n b (sign (token.Binary op.Comma) m ∷ es) k p = other_name d n b es k p.1
  after_name d n b (sign (token.Outside outside.Semicolon) m ∷ es) k p =
      record {
        names = zero;
        rest = spelled es;
        declarations = begun d n level.Declarations b es k p.1;
        tokens = refl;
      }
  after_name d n b _ k p = absurd p

  pub other_name : (d n b : ℕ) (es : List Element) → 1 ≤ d → Ends d n want.DeclaredName b 0 es
      → InNames d n b (comma ∷ spelled es)
  other_name d n b (sign token.Name m ∷ es) k p =
      let r = after_name d n b es k p.1 in
      record {
        names = suc r.names;
        rest = r.rest;
        declarations = r.declarations;
        tokens = ap (λ (ts : List Token). comma ∷ token.Name ∷ ts) r.tokens;
      }
  other_name d n b _ k p = absurd p

  pub condition_open : (d n b : ℕ) (es : List Element) → 1 ≤ d → Ends d n want.ConditionOpen b 0 es
      → InBody d n b (token.Outside outside.If ∷ spelled es)
  condition_open d n b (sign token.Open m ∷ es) k p = condition d n b es k p.1
  condition_open d n b _ k p = absurd p

  pub condition : (d n b : ℕ) (es : List Element) → 1 ≤ d → Ends d n (want.Inner role.Condition) b 0 es
      → InBody d n b (token.Outside outside.If ∷ token.Open ∷ spelled es)
  condition d n b (expression c token.Close ∷ es) k p =
      with_head d n b (branch c) (spelled es)
      (token.Outside outside.If ∷ token.Open ∷ (tokens_of c ++ token.Close ∷ spelled es)) p.0
      (simp append_assoc) (begun d n level.Body b es k p.1)
  condition d n b (expression c _ ∷ es) k p = absurd p.1
  condition d n b _ k p = absurd p

  pub loop_open : (d n b : ℕ) (es : List Element) → 1 ≤ d → Ends d n want.LoopOpen b 0 es
      → InBody d n b (token.Outside outside.For ∷ spelled es)
  loop_open d n b (sign token.Open m ∷ es) k p = loop_first d n b es k p.1
  loop_open d n b _ k p = absurd p

  pub loop_first : (d n b : ℕ) (es : List Element) → 1 ≤ d → Ends d n want.LoopFirst b 0 es
      → InBody d n b (token.Outside outside.For ∷ token.Open ∷ spelled es)
  loop_first d n b (sign (token.Outside outside.Int64) m ∷ es) k p = loop_name d n b es k p.1
  loop_first d n b (sign token.Name m ∷ es) k p = loop_set d n false b es k p.1
  loop_first d n b _ k p = absurd p

  pub loop_name : (d n b : ℕ) (es : List Element) → 1 ≤ d → Ends d n want.LoopName b 0 es
      → InBody d n b (token.Outside outside.For ∷ token.Open ∷ token.Outside outside.Int64 ∷ spelled es)
  loop_name d n b (sign token.Name m ∷ es) k p = loop_set d n true b es k p.1
  loop_name d n b _ k p = absurd p

  pub loop_set : (d n : ℕ) (e : Bool) (b : ℕ) (es : List Element) → 1 ≤ d → Ends d n want.LoopSet b 0 es
      → InBody d n b (loop_name_front e ++ spelled es)
  loop_set d n true b (sign (token.Outside (outside.Assign set.Set)) m ∷ es) k p = first d n true b es k p.1
  loop_set d n false b (sign (token.Outside (outside.Assign set.Set)) m ∷ es) k p = first d n false b es k p.1
  loop_set d n e b _ k p = absurd p

  pub first : (d n : ℕ) (e : Bool) (b : ℕ) (es : List Element) → 1 ≤ d → Ends d n (want.Inner role.First) b 0 es
      → InBody d n b (loop_front e ++ spelled es)
  first d n e b (expression a (token.Outside outside.Semicolon) ∷ es) k p = second d n e a b es k p.0 p.1
  first d n e b (expression a _ ∷ es) k p = absurd p.1
  first d n e b _ k p = absurd p

  pub second : (d n : ℕ) (e : Bool) (a : Tree) (b : ℕ) (es : List Element) → 1 ≤ d → Fits d n a
      → Ends d n (want.Inner role.Second) b 0 es
      → InBody d n b (loop_front e ++ (tokens_of a ++ semicolon ∷ spelled es))
  second d n e a b (expression c (token.Outside outside.Semicolon) ∷ es) k f p =
      step d n e a c b es k f p.0 p.1
  second d n e a b (expression c _ ∷ es) k f p = absurd p.1
  second d n e a b _ k f p = absurd p

  pub step : (d n : ℕ) (e : Bool) (a c : Tree) (b : ℕ) (es : List Element) → 1 ≤ d → Fits d n a → Fits d n c
      → Ends d n want.Step b 0 es → InBody d n b (loop_head e a c (spelled es))
  step d n e a c b (sign token.Name m ∷ es) k f g p = step_sign d n e a c b es k f g p.1
  step d n e a c b (sign (token.Outside (outside.Count i)) m ∷ es) k f g p = step_name d n e a c i b es k f g p.1
  step d n e a c b _ k f g p = absurd p

  pub step_name : (d n : ℕ) (e : Bool) (a c : Tree) (i : Count) (b : ℕ) (es : List Element) → 1 ≤ d → Fits d n a
      → Fits d n c → Ends d n want.StepName b 0 es
      → InBody d n b (loop_head e a c (token.Outside (outside.Count i) ∷ spelled es))
  step_name d n e a c i b (sign token.Name m ∷ es) k f g p =
      step_close d n e a c (counts i) (token.Outside (outside.Count i) ∷ token.Name ∷ []) b es k (f, g, tt) refl p.1
  step_name d n e a c i b _ k f g p = absurd p

  pub step_sign : (d n : ℕ) (e : Bool) (a c : Tree) (b : ℕ) (es : List Element) → 1 ≤ d → Fits d n a → Fits d n c
      → Ends d n want.StepSign b 0 es → InBody d n b (loop_head e a c (token.Name ∷ spelled es))
  step_sign d n e a c b (sign (token.Outside (outside.Count i)) m ∷ es) k f g p =
      step_close d n e a c (counted i) (token.Name ∷ token.Outside (outside.Count i) ∷ []) b es k (f, g, tt) refl p.1
  step_sign d n e a c b (sign (token.Outside (outside.Assign set.Set)) m ∷ es) k f g p =
      step_value d n e a c set.Set b es k f g tt p.1
  step_sign d n e a c b (sign (token.Outside (outside.Assign set.Plus)) m ∷ es) k f g p =
      step_value d n e a c set.Plus b es k f g tt p.1
  step_sign d n e a c b (sign (token.Outside (outside.Assign set.Minus)) m ∷ es) k f g p =
      step_value d n e a c set.Minus b es k f g tt p.1
  step_sign d n e a c b _ k f g p = absurd p

  pub step_close : (d n : ℕ) (e : Bool) (a c : Tree) (s : Step) (xs : List Token) (b : ℕ) (es : List Element)
      → 1 ≤ d → HeadFits d n (loop e a c s) → spelled (step_elements s) ≡ xs ++ token.Close ∷ []
      → Ends d n want.StepClose b 0 es → InBody d n b (loop_head e a c (xs ++ spelled es))
  step_close d n e a c s xs b (sign token.Close m ∷ es) k f q p =
      with_loop d n b e a c s (xs ++ token.Close ∷ spelled es) (spelled es) f (rw q (simp append_assoc))
      (begun d n level.Body b es k p.1)
  step_close d n e a c s xs b _ k f q p = absurd p

  pub step_value : (d n : ℕ) (e : Bool) (a c : Tree) (g : Assign) (b : ℕ) (es : List Element) → 1 ≤ d → Fits d n a
      → Fits d n c → IsStepAssign g → Ends d n (want.Inner role.Step) b 0 es
      → InBody d n b (loop_head e a c (token.Name ∷ token.Outside (outside.Assign g) ∷ spelled es))
  step_value d n e a c g b (expression x token.Close ∷ es) k f h i p =
      with_loop d n b e a c (assigned g x)
      (token.Name ∷ token.Outside (outside.Assign g) ∷ (tokens_of x ++ token.Close ∷ spelled es)) (spelled es)
      (f, h, (i, p.0)) (simp append_assoc) (begun d n level.Body b es k p.1)
  step_value d n e a c g b (expression x _ ∷ es) k f h i p = absurd p.1
  step_value d n e a c g b _ k f h i p = absurd p

  pub placed : (d n : ℕ) (q : Tree) (b : ℕ) (es : List Element) → 1 ≤ d → IsPlace q → Fits d n q
      → Ends d n want.Placed b (operators q) es → InBody d n b (spelled (place_elements q) ++ spelled es)
  placed d n q b (sign token.OpenIndex m ∷ es) k i f p = subscript d n q b es k i f p.1
  placed d n q b (sign (token.Outside (outside.Assign a)) m ∷ es) k i f p = value d n q a b es k i f p.1
  placed d n q b _ k i f p = absurd p

  pub subscript : (d n : ℕ) (q : Tree) (b : ℕ) (es : List Element) → 1 ≤ d → IsPlace q → Fits d n q
      → Ends d n (want.Inner role.Subscript) b (operators q) es
      → InBody d n b (spelled (place_elements q) ++ token.OpenIndex ∷ spelled es)
  subscript d n q b (expression x token.CloseIndex ∷ es) k i f p =
      body_as d n b (spelled (place_elements (index q x)) ++ spelled es)
      (spelled (place_elements q) ++ token.OpenIndex ∷ (tokens_of x ++ token.CloseIndex ∷ spelled es))
      (rw (spelled_append (place_elements q) (plain token.OpenIndex ∷ expression x token.CloseIndex ∷ []))
      (simp append_assoc))
      (placed d n (index q x) b es k tt (index_fits d n q x k i f p.0) p.1)
  subscript d n q b (expression x _ ∷ es) k i f p = absurd p.1
  subscript d n q b _ k i f p = absurd p

  pub value : (d n : ℕ) (q : Tree) (a : Assign) (b : ℕ) (es : List Element) → 1 ≤ d → IsPlace q → Fits d n q
      → Ends d n (want.Inner role.Value) b 0 es
      → InBody d n b (spelled (place_elements q) ++ token.Outside (outside.Assign a) ∷ spelled es)
  value d n q a b (expression x (token.Outside outside.Semicolon) ∷ es) k i f p =
      with_item d n b (assign a q x) (spelled es)
      (spelled (place_elements q) ++ token.Outside (outside.Assign a) ∷ (tokens_of x ++ semicolon ∷ spelled es))
      (i, f, p.0)
      (rw (spelled_append (place_elements q) (assign_sign a ∷ expression x semicolon ∷ [])) (simp append_assoc))
      (begun d n level.Block b es k p.1)
  value d n q a b (expression x _ ∷ es) k i f p = absurd p.1
  value d n q a b _ k i f p = absurd p
