-- What the code's values stand for.
use Rattle.std.specs.Prelude.{ℕ, List, map, length, Option, Some, None}
use Rattle.std.specs.List.{list_any}
use Rattle.std.specs.Str.{bytes_eq}
use Rattle.scop_lexer.specs.Tokens.{tokens_at}
use Rattle.scop_lexer.specs.declared.token.Token.{Token}
use Rattle.scop_syntax.specs.Tree.{Declaration}
use Rattle.scop_roles.specs.Formula.{Lookup, formula_of}
use Rattle.scop_units.specs.declared.words.Words.{Words as CodeWords}
use Rattle.scop_units.specs.declared.scope.Scope.{Scope as CodeScope}
use Rattle.scop_units.specs.declared.scope.Look.{Look}
use Rattle.scop_units.specs.declared.loops.Change.{Change as CodeChange}
use Rattle.scop_units.specs.declared.loops.Change.TheVariants as change
use Rattle.scop_units.specs.declared.loops.LoopHead.{LoopHead as CodeHead}
use Rattle.scop_units.specs.declared.units.Stored.{Stored as CodeStored}
use Rattle.scop_units.specs.Loops.{LoopHead, Change, counted, assigned}
use Rattle.scop_units.specs.Units.{Stored}
use Rattle.scop_units.specs.Words.{Words, words_of}
use Rattle.scop_units.specs.Scopes.{Scope, Ranked, with_loop, look}

-- the tokens of a text that the code holds
abbrev pub tokens_in : CodeWords → List Token
tokens_in w = tokens_at w.text.now w.starts.now

-- the words that a value of the code stands for
abbrev pub words_in : CodeWords → Words
words_in w = words_of w.text.now (tokens_in w)

-- an array's name, how many extents it has, and whether its cells have 32 bits
abbrev pub ranked : Declaration → Ranked
ranked a = record { name = a.name; rank = length a.extents; narrow = a.narrow }

-- the names that a scope of the code holds
abbrev pub scope_of : CodeScope → Scope
scope_of s =
    record {
      parameters = map (λ n. n.items) s.parameters.items;
      arrays = map ranked s.arrays.items;
      declared = λ w. list_any (λ n. bytes_eq n.items w) s.declared.keys;
      open_loops = map (λ n. n.items) s.open_loops.items;
    }

-- a scope, and within it the loop whose head is read
abbrev pub scope_within : Words → Scope → Option ℕ → Scope
scope_within words s None = s
scope_within words s (Some at) = with_loop s (words.spelling at)

-- what stands at a place, where a value of the code looks it up
abbrev pub look_of : Look → Lookup
look_of l = look (words_in l.words) (scope_within (words_in l.words) (scope_of l.scope.now) l.inner)

-- the change that a value of the code stands for
abbrev pub change_of : CodeChange → Change
change_of (change.Counted c) = counted c
change_of (change.Assigned a f) = assigned a (formula_of f)

-- the loop's head that a value of the code stands for
abbrev pub head_of : CodeHead → LoopHead
head_of h =
    record {
      place = h.place;
      new = h.new;
      name_at = h.name_at;
      iterator = h.iterator.now;
      first = formula_of h.first;
      second = formula_of h.second;
      changed = formula_of h.changed;
      change = change_of h.change;
    }

-- the statement that a value of the code stands for
abbrev pub stored_of : CodeStored → Stored
stored_of s =
    record { cell = formula_of s.cell; assign = s.assign; assign_at = s.assign_at; value = formula_of s.value }
