-- The rows that a walk over words without faults leaves for an argument that is a number: each value lies in its range.
use Rattle.scop_syntax.proofs.Common.{rules, ◌≡◌, ◌∙◌, sym, ap, subst, refl, ℕ, zero, suc, Bool, true, false, cond}
use Rattle.scop_syntax.proofs.Common.{true≢false, List, [], ◌∷◌, ◌++◌, length, All, is_some, ⊤, ◌+◌, ◌==◌, ◌&&◌, ◌||◌}
use Rattle.scop_syntax.proofs.Common.{not, Option, None, Some, min, slice_get, drop, encode_utf8, find, fold, unwrap_or}
use Rattle.scop_syntax.proofs.Common.{if◌then◌else◌, option_map_or, bytes_eq, All-nil, All-cons, All-head, All-tail}
use Rattle.scop_syntax.proofs.Common.{All-append, bytes_eq-Decides}
use Rattle.std.specs.Str.{chars}
use Rattle.clap.specs.Facts.{parser_of_value, unwrap_or_range}
use Rattle.clap.specs.Faults.{action_fault, bundle_step_fault, default_fault, defaults_fault, flag_word_fault}
use Rattle.clap.specs.Faults.{flags_fault}
use Rattle.clap.specs.Faults.{level_fault, long_fault, option_fault, other_fault, positional_fault, react_fault}
use Rattle.clap.specs.Faults.{repeat_fault, settle_fault, short_fault, step_fault, turn_fault, use_fault, walk_fault}
use Rattle.clap.specs.Faults.{word_fault, check_fault, bundle_fault, given_default_fault, stray_fault, values_fault}
use Rattle.clap.specs.Kinds.{Kinds, or_else, range_kinds, request_kinds, value_kinds, values_kinds}
use Rattle.clap.specs.Lexer.{long_of, short_of}
use Rattle.clap.specs.Matches.{count_text}
use Rattle.clap.specs.Simple.{Shape}
use Rattle.clap.specs.Values.{reading_of, refused_kind}
use Rattle.clap.specs.ValueTests.{is_unsigned_in}
use Rattle.clap.specs.Walk.{Held, Names, Outcome, Row, Rule, Step, Text, Waiting, Walk, action_of, after_flag}
use Rattle.clap.specs.Walk.{after_step}
use Rattle.clap.specs.Walk.{arg_by_id, arg_by_index, arg_by_long, arg_by_short, at_row, attached_value, bundle}
use Rattle.clap.specs.Walk.{bundle_met}
use Rattle.clap.specs.Walk.{bundle_step, count_of, counted, default_rows, done, finished, flag_met, has_long}
use Rattle.clap.specs.Walk.{has_short, is_empty, has_row, idle, is_pending, long_met}
use Rattle.clap.specs.Walk.{long_or_other, more_values, most_values, new_count, next, nothing_held, option}
use Rattle.clap.specs.Walk.{option_met, option_word}
use Rattle.clap.specs.Walk.{plain, plain_word, positional, reacted, reading_by, refused, rows_after}
use Rattle.clap.specs.Walk.{settled, settled_rows, short_met, short_or_plain, stronger, subcommand, subcommand_met}
use Rattle.clap.specs.Walk.{subcommand_or_other, takes_several, takes_values, to_positional, trailing, used, used_as}
use Rattle.clap.specs.Walk.{used_by_id, value, values_or_missing, waits, walk, walk_from, walked, walked_from}
use Rattle.clap.specs.Walk.{with_default, with_values, without, word_met}
use Rattle.clap.specs.declared.builder.action.ArgAction.{ArgAction}
use Rattle.clap.specs.declared.builder.action.ArgAction.TheVariants as action
use Rattle.clap.specs.declared.error.kind.ErrorKind.TheVariants as kind
use Rattle.clap.specs.declared.builder.value_parser.Reading.{Reading}
use Rattle.clap.specs.declared.builder.value_parser.Reading.TheVariants as reading
use Rattle.clap.specs.declared.builder.value_parser.ValueParser.TheVariants as vp
use Rattle.clap.specs.declared.parser.matches.ValueSource.{ValueSource}
use Rattle.clap.specs.declared.parser.matches.ValueSource.TheVariants.{CommandLine, DefaultValue}

-- where one thing or another fails by no kind, neither does
pub none_front : (a b : Kinds) → or_else a b ≡ [] → a ≡ []
none_front [] b none = refl
none_front (k ∷ ks) b none = absurd cc

pub none_behind : (a b : Kinds) → or_else a b ≡ [] → b ≡ []
none_behind [] b none = none
none_behind (k ∷ ks) b none = absurd cc

-- values that a parser of numbers takes lie in its range
accepted : (ignore_case : Bool) (low high : ℕ) (values : List Text)
    → values_kinds ignore_case (vp.Unsigned low high) values ≡ []
    → All (λ v. is_unsigned_in low high v ≡ true) values
accepted ignore_case low high [] none = All-nil (λ v. is_unsigned_in low high v ≡ true)
accepted ignore_case low high (v ∷ vs) none =
    let first = none_front (value_kinds ignore_case (vp.Unsigned low high) v)
    (values_kinds ignore_case (vp.Unsigned low high) vs) none in
    let rest = none_behind (value_kinds ignore_case (vp.Unsigned low high) v)
    (values_kinds ignore_case (vp.Unsigned low high) vs) none in
    All-cons (λ u. is_unsigned_in low high u ≡ true) v vs (go (is_unsigned_in low high v) refl first)
    (accepted ignore_case low high vs rest)
  where
    go : (b : Bool) → is_unsigned_in low high v ≡ b
        → value_kinds ignore_case (vp.Unsigned low high) v ≡ [] → is_unsigned_in low high v ≡ true
    go true is none = is
    go false is none = absurd (clash (is_unsigned_in low high v) is none)
      where
        clash : (c : Bool) → c ≡ false
            → (if c then [] else refused_kind (vp.Unsigned low high) ∷ []) ≡ [] → ⊥
        clash true e n = true≢false e
        clash false e n = cc

-- the first of a list that passes a test passes it, and is of the list
pub found_all : {A : Type 0} (P : A → Type 0) (test : A → Bool) (xs : List A) (x : A) → All P xs
    → find test xs ≡ Some x → P x × (test x ≡ true)
found_all P test [] x all is = absurd cc
found_all P test (y ∷ ys) x all is = go (test y) refl is (found_all P test ys x (All-tail P y ys all))
  where
    go : (b : Bool) → test y ≡ b → cond b (Some y) (find test ys) ≡ Some x
        → (find test ys ≡ Some x → P x × (test x ≡ true)) → P x × (test x ≡ true)
    go true here e behind =
        let same : y ≡ x = cc in
        (subst P same (All-head P y ys all), subst (λ z. test z ≡ true) same here)
    go false there e behind = behind e

-- a test that a row's name is another's
same_name : (a b : Text) → bytes_eq a b ≡ true → a ≡ b
same_name a b is = (bytes_eq-Decides a b).0 is

-- the row of a name changed, or a new one
changed : (P : Row → Type 0) (id : Text) (change : Row → List Row) (missing rows : List Row)
    → ((r : Row) → bytes_eq r.id id ≡ true → P r → All P (change r)) → All P missing → All P rows
    → All P (at_row id change missing rows)
changed P id change missing [] step new old = new
changed P id change missing (r ∷ rs) step new old =
    go (bytes_eq r.id id) refl (changed P id change missing rs step new (All-tail P r rs old))
  where
    go : (b : Bool) → bytes_eq r.id id ≡ b → All P (at_row id change missing rs)
        → All P (if b then change r ++ rs else r ∷ at_row id change missing rs)
    go true is behind = All-append P (change r) rs (step r is (All-head P r rs old)) (All-tail P r rs old)
    go false is behind = All-cons P r (at_row id change missing rs) (All-head P r rs old) behind

module _ (name : Text) (low high : ℕ) where
  abbrev IsNumber : Text → Type 0
  IsNumber v = is_unsigned_in low high v ≡ true

  -- the values of the argument's row are numbers in the range, read as they are written
  abbrev pub IsWithin : Row → Type 0
  IsWithin r = bytes_eq r.id name ≡ true → (r.reading ≡ reading.AsWritten) × All IsNumber r.values

  abbrev pub AreWithin : List Row → Type 0
  AreWithin rows = All IsWithin rows

  -- the argument is a number of the range, given at most once
  abbrev Asks : Bool → Rule → Type 0
  Asks true a = (a.parser ≡ Some (vp.Unsigned low high)) × (a.action ≡ Some action.Set)
  Asks false a = ⊤

  -- so it is wherever it is an argument
  abbrev pub AsksOf : Rule → Type 0
  AsksOf a = Asks (bytes_eq a.id name) a

  valued : (id : Text) (how : Reading) (source : ValueSource) (values : List Text) (rows : List Row)
      → (bytes_eq id name ≡ true → (how ≡ reading.AsWritten) × All IsNumber values) → AreWithin rows
      → AreWithin (with_values id how source values rows)
  valued id how source values rows number within =
      let fresh : Row = record { id = id; values = values; count = None; source = Some source; reading = how } in
      changed IsWithin id (more_values source values) (fresh ∷ []) rows
      (λ r is old. All-cons IsWithin
      (record r { values = r.values ++ values; source = Some (stronger r.source source) }) []
      (λ named.
      let here = ap (λ z. bytes_eq z name) (same_name r.id id is) in
      ((old named).0, All-append IsNumber r.values values (old named).1 (number (sym here ∙ named)).1))
      (All-nil IsWithin))
      (All-cons IsWithin fresh [] number (All-nil IsWithin)) within

  dropped : (id : Text) (rows : List Row) → AreWithin rows → AreWithin (without id rows)
  dropped id rows within =
      changed IsWithin id (λ _. []) [] rows (λ r is old. All-nil IsWithin) (All-nil IsWithin) within

  -- a use of another argument
  other_used : (x : ArgAction) (id : Text) (how : Reading) (values : List Text) (rows : List Row)
      → bytes_eq id name ≡ false → AreWithin rows → AreWithin (used_as x id how values rows)
  other_used x id how values rows other within = go x
    where
      none : {P : Type 0} → bytes_eq id name ≡ true → P
      none is = absurd (true≢false (sym is ∙ other))

      put : (source : ValueSource) (kept : List Row) → AreWithin kept
          → AreWithin (with_values id how source values kept)
      put source kept w = valued id how source values kept (λ is. none is) w

      go : (x : ArgAction) → AreWithin (used_as x id how values rows)
      go action.Set = put CommandLine (without id rows) (dropped id rows within)
      go action.SetTrue = put CommandLine (without id rows) (dropped id rows within)
      go action.SetFalse = put CommandLine (without id rows) (dropped id rows within)
      go action.Append = put CommandLine rows within
      go action.Count = count values
        where
          count : (vs : List Text) → AreWithin (counted id how vs rows)
          count [] =
              let n = min (count_of id rows + 1) 255 in
              let fresh : Row =
              record {
                id = id;
                values = count_text n ∷ [];
                count = Some n;
                source = Some CommandLine;
                reading = how;
              } in
              changed IsWithin id (new_count CommandLine n) (fresh ∷ []) (without id rows)
              (λ r is old. All-cons IsWithin (record r {
                values = r.values ++ count_text n ∷ [];
                count = Some n;
                source = Some (stronger r.source CommandLine);
              }) [] (λ named. none (sym (ap (λ z. bytes_eq z name) (same_name r.id id is)) ∙ named)) (All-nil IsWithin))
              (All-cons IsWithin fresh [] (λ is. none is) (All-nil IsWithin)) (dropped id rows within)
          count (v ∷ vs) = valued id how CommandLine (v ∷ vs) (without id rows) (λ is. none is) (dropped id rows within)
      go action.Help = within
      go action.HelpShort = within
      go action.HelpLong = within
      go action.Version = within

  -- a use of an argument that does not fail
  use_kept : (again : Bool) (a : Rule) (values : List Text) (rows : List Row) → AsksOf a
      → use_fault again a values rows ≡ [] → AreWithin rows → AreWithin (used a values rows)
  use_kept again a values rows asks none within = go (bytes_eq a.id name) refl asks
    where
      go : (b : Bool) → bytes_eq a.id name ≡ b → Asks b a → AreWithin (used a values rows)
      go false other asks = other_used (action_of a) a.id (reading_by a) (values_or_missing a values) rows other within
      go true is asks =
          let set : action_of a ≡ action.Set = ap (λ x. unwrap_or x action.Set) asks.1 in
          let acts = none_behind (range_kinds (unwrap_or_range a.range).start_inclusive (most_values a) (length values))
          (action_fault (action_of a) again a (values_or_missing a values) rows) none in
          let sets = subst (λ x. action_fault x again a (values_or_missing a values) rows ≡ []) set acts in
          let passed = none_behind (repeat_fault again a.id rows)
          (values_kinds a.ignore_case (parser_of_value a.parser) (values_or_missing a values)) sets in
          let numbers = accepted a.ignore_case low high (values_or_missing a values)
          (subst (λ p. values_kinds a.ignore_case (parser_of_value p) (values_or_missing a values) ≡ []) asks.0
          passed) in
          let read : reading_by a ≡ reading.AsWritten = ap (λ p. reading_of (parser_of_value p)) asks.0 in
          subst (λ x. AreWithin (used_as x a.id (reading_by a) (values_or_missing a values) rows)) (sym set)
          (valued a.id (reading_by a) CommandLine (values_or_missing a values) (without a.id rows)
          (λ _. (read, numbers))
          (dropped a.id rows within))

  module _ (c : List Rule) (again : Bool) (asks : All AsksOf c) where
    -- a use of an argument that is found, or of none
    found_kept : (found : Option Rule) (values : List Text) (rows : List Row)
        → ((a : Rule) → found ≡ Some a → AsksOf a)
        → option_map_or (λ a. use_fault again a values rows) found [] ≡ [] → AreWithin rows
        → AreWithin (used_by_id found values rows)
    found_kept None values rows of none within = within
    found_kept (Some a) values rows of none within = use_kept again a values rows (of a refl) none within

    by_id : (id : Text) (a : Rule) → arg_by_id c id ≡ Some a → AsksOf a
    by_id id a is = (found_all AsksOf (λ b. bytes_eq b.id id) c a asks is).0

    pending_kept : (pending : Option (Text × List Text)) (rows : List Row)
        → option_map_or (λ p. option_map_or (λ a. use_fault again a p.1 rows) (arg_by_id c p.0) []) pending [] ≡ []
        → AreWithin rows → AreWithin (settled_rows c pending rows)
    pending_kept None rows none within = within
    pending_kept (Some p) rows none within = found_kept (arg_by_id c p.0) p.1 rows (by_id p.0) none within

    settled_kept : (h : Held) → settle_fault c again h ≡ [] → AreWithin h.rows → AreWithin (settled c h).rows
    settled_kept h none within = pending_kept h.pending h.rows none within

    reacted_kept : (a : Rule) (values : List Text) (h : Held) → AsksOf a → react_fault c again a values h ≡ []
        → AreWithin h.rows → AreWithin (reacted c a values h).rows
    reacted_kept a values h is none within =
        let settles = settle_fault c again h in
        let uses = use_fault again a values (settled c h).rows in
        use_kept again a values (settled c h).rows is (none_behind settles uses none)
        (settled_kept h (none_front settles uses none) within)

    option_kept : (a : Rule) (given : Option Text) (h : Held) → AsksOf a → option_fault c again a given h ≡ []
        → AreWithin h.rows → AreWithin (option_met c a given h).0.rows
    option_kept a (Some v) h is none within = reacted_kept a (v ∷ []) h is none within
    option_kept a None h is none within = settled_kept h none within

    long_kept : (found : Option Rule) (given : Option Text) (h : Held) → ((a : Rule) → found ≡ Some a → AsksOf a)
        → long_fault c again found given h ≡ [] → AreWithin h.rows → AreWithin (long_met c found given h).0.rows
    long_kept None given h of none within = within
    long_kept (Some a) given h of none within = go (takes_values a) given none
      where
        go : (b : Bool) (given : Option Text)
            → (if b then option_fault c again a given h
            else (if is_some given then kind.TooManyValues ∷ [] else react_fault c again a [] h)) ≡ []
            → AreWithin (if b then option_met c a given h else flag_met c a given h).0.rows
        go true given none = option_kept a given h (of a refl) none within
        go false (Some v) none = within
        go false None none = reacted_kept a [] h (of a refl) none within

    short_kept : (found : Option Rule) (rest : Text) (h : Held) (reads : Held → Held × Outcome) (fault : Held → Kinds)
        → ((a : Rule) → found ≡ Some a → AsksOf a)
        → ((k : Held) → fault k ≡ [] → AreWithin k.rows → AreWithin (reads k).0.rows)
        → short_fault c again found rest h fault ≡ [] → AreWithin h.rows
        → AreWithin (short_met c found rest h reads).0.rows
    short_kept None rest h reads fault of more none within = within
    short_kept (Some a) rest h reads fault of more none within = go (takes_values a) none
      where
        go : (b : Bool)
            → (if b then option_fault c again a (attached_value rest) h
            else or_else (react_fault c again a [] h) (fault (reacted c a [] h))) ≡ []
            → AreWithin (if b then option_met c a (attached_value rest) h else reads (reacted c a [] h)).0.rows
        go true none = option_kept a (attached_value rest) h (of a refl) none within
        go false none =
            let reacts = react_fault c again a [] h in
            let behind = fault (reacted c a [] h) in
            more (reacted c a [] h) (none_behind reacts behind none)
            (reacted_kept a [] h (of a refl) (none_front reacts behind none) within)

    by_short : (x : ℕ) (a : Rule) → arg_by_short c x ≡ Some a → AsksOf a
    by_short x a is = (found_all AsksOf (λ b. not (is_some b.index) && has_short b x) c a asks is).0

    flags_kept : (k : ℕ) (flags : Text) (skip : ℕ) (so_far : Outcome) (h : Held)
        → flags_fault c again k flags skip h ≡ [] → AreWithin h.rows
        → AreWithin (bundle_met c k flags skip so_far h).0.rows
    unfolding bundle_met flags_fault
    flags_kept zero flags skip so_far h none within = within
    flags_kept (suc k) flags skip so_far h none within =
        step_kept (slice_get (chars flags) 0) skip none
        (λ rest skip so_far h. flags_kept k rest skip so_far h)
      where
        step_kept : (first : Option ℕ) (skip : ℕ)
            → bundle_step_fault c again first flags skip h (flags_fault c again k) ≡ []
            → ((rest : Text) (skip : ℕ) (so_far : Outcome) (h : Held) → flags_fault c again k rest skip h ≡ []
            → AreWithin h.rows → AreWithin (bundle_met c k rest skip so_far h).0.rows)
            → AreWithin (bundle_step c first flags skip so_far h (bundle_met c k)).0.rows
        step_kept None skip none more = within
        step_kept (Some x) zero none more =
            let rest = drop (length (encode_utf8 x)) flags in
            short_kept (arg_by_short c x) rest h (bundle_met c k rest 0 done) (flags_fault c again k rest 0)
            (by_short x)
            (λ h. more rest 0 done h) none within
        step_kept (Some x) (suc skip) none more = more (drop (length (encode_utf8 x)) flags) skip so_far h none within

    -- a word that is no flag
    plain_kept : (waiting : Waiting) (word : Text) (h : Held) → AreWithin h.rows
        → AreWithin (plain_word c waiting word h).0.rows
    plain_kept idle word h within = within
    plain_kept positional word h within = within
    plain_kept (option id) word h within = go (arg_by_id c id)
      where
        go : (found : Option Rule) → AreWithin (option_word found id word h).0.rows
        go None = within
        go (Some a) = within

    flag_kept : (waiting : Waiting) (word : Text) (h : Held) (o : Outcome) → AreWithin h.rows
        → AreWithin (after_flag c waiting word h o).0.rows
    flag_kept waiting word h done within = within
    flag_kept waiting word h (waits id) within = within
    flag_kept waiting word h plain within = plain_kept waiting word h within
    flag_kept waiting word h refused within = plain_kept waiting word h within

    by_long : (name : Text) (a : Rule) → arg_by_long c name ≡ Some a → AsksOf a
    by_long name a is = (found_all AsksOf (λ b. not (is_some b.index) && has_long b name) c a asks is).0

    short_word_kept : (flags : Option Text) (waiting : Waiting) (word : Text) (h : Held)
        → option_map_or (λ f. bundle_fault c again f h) flags [] ≡ [] → AreWithin h.rows
        → AreWithin (short_or_plain c waiting word flags h).0.rows
    short_word_kept None waiting word h none within = plain_kept waiting word h within
    short_word_kept (Some flags) waiting word h none within =
        flag_kept waiting word (bundle c flags h).0 (bundle c flags h).1
        (flags_kept (length flags) flags h.skip plain (record h { skip = 0 }) none within)

    flag_word_kept : (long : Option (Text × Option Text)) (waiting : Waiting) (word : Text) (h : Held)
        → flag_word_fault c again long word h ≡ [] → AreWithin h.rows
        → AreWithin (long_or_other c waiting word long h).0.rows
    flag_word_kept None waiting word h none within = short_word_kept (short_of word) waiting word h none within
    flag_word_kept (Some p) waiting word h none within =
        let met = long_met c (arg_by_long c p.0) p.1 h in
        flag_kept waiting word met.0 met.1 (long_kept (arg_by_long c p.0) p.1 h (by_long p.0) none within)

    by_index : (position : ℕ) (a : Rule) → arg_by_index c position ≡ Some a → AsksOf a
    by_index position a is = (found_all AsksOf (λ b. option_map_or (λ k. k == position) b.index false) c a asks is).0

    -- a word that goes to a positional
    place_kept : (found : Option Rule) (word : Text) (w : Walk) (h : Held) (stray : Kinds)
        → option_map_or (λ a. positional_fault c again a h) found stray ≡ [] → AreWithin h.rows
        → AreWithin (to_positional c found word w h).held.rows
    place_kept None word w h stray none within = within
    place_kept (Some a) word w h stray none within = go (is_pending a h.pending && takes_several a) none
      where
        go : (b : Bool) → (if b then [] else settle_fault c again h) ≡ []
            → AreWithin (if b then h else settled c h).rows
        go true none = within
        go false none = settled_kept h none within

  module _ (s : Shape) (names : Names) (asks : All AsksOf s.rules) where
    -- a word
    other_kept : (met : Option Text) (waiting : Waiting) (position : ℕ) (word : Text) (h : Held)
        → other_fault s met word h ≡ [] → AreWithin h.rows
        → AreWithin (subcommand_or_other s.rules met waiting position word h).0.rows
    other_kept (Some name) waiting position word h none within = within
    other_kept None waiting position word h none within = go (bytes_eq word (45 ∷ 45 ∷ [])) none
      where
        go : (b : Bool)
            → (if b then [] else flag_word_fault s.rules s.args_override_self (long_of word) word h) ≡ []
            → AreWithin (if b then (h, trailing position)
            else long_or_other s.rules waiting word (long_of word) h).0.rows
        go true none = within
        go false none = flag_word_kept s.rules s.args_override_self asks (long_of word) waiting word h none within

    word_kept : (is_trailing : Bool) (waiting : Waiting) (position : ℕ) (word : Text) (h : Held)
        → word_fault s names is_trailing waiting word h ≡ [] → AreWithin h.rows
        → AreWithin (word_met s.rules names is_trailing waiting position word h).0.rows
    word_kept true waiting position word h none within = within
    word_kept false waiting position word h none within =
        other_kept (subcommand_met names waiting word) waiting position word h none within

    step_kept : (w : Walk) (word : Text) (h : Held) (x : Step) → step_fault s w.position h x ≡ [] → AreWithin h.rows
        → AreWithin (after_step s.rules word w h x).held.rows
    step_kept w word h (next waiting) none within = within
    step_kept w word h (trailing position) none within = within
    step_kept w word h (subcommand name) none within = within
    step_kept w word h value none within =
        place_kept s.rules s.args_override_self asks (arg_by_index s.rules w.position) word w h (stray_fault s) none
        within

    turn_kept : (stopped : Option (Text × List Text)) (w : Walk) (word : Text)
        → (if is_some stopped then [] else or_else (word_fault s names w.is_trailing w.waiting word w.held)
        (step_fault s w.position (word_met s.rules names w.is_trailing w.waiting w.position word w.held).0
        (word_met s.rules names w.is_trailing w.waiting w.position word w.held).1)) ≡ []
        → AreWithin w.held.rows → AreWithin (walked_from s.rules names stopped w word).held.rows
    turn_kept (Some p) w word none within = within
    turn_kept None w word none within =
        let met = word_met s.rules names w.is_trailing w.waiting w.position word w.held in
        let words = word_fault s names w.is_trailing w.waiting word w.held in
        let steps = step_fault s w.position met.0 met.1 in
        step_kept w word met.0 met.1 (none_behind words steps none)
        (word_kept w.is_trailing w.waiting w.position word w.held (none_front words steps none) within)

    walk_kept : (words : List Text) (w : Walk) → walk_fault s names w words ≡ [] → AreWithin w.held.rows
        → AreWithin (fold (walked s.rules names) w words).held.rows
    unfolding walk_fault walked
    walk_kept [] w none within = within
    walk_kept (word ∷ rest) w none within =
        let turns = turn_fault s names w word in
        let behind = walk_fault s names (walked s.rules names w word) rest in
        walk_kept rest (walked s.rules names w word) (none_behind turns behind none)
        (turn_kept w.stopped w word (none_front turns behind none) within)

  -- defaults
  default_kept : (a : Rule) (rows : List Row) → AsksOf a → default_fault rows a ≡ [] → AreWithin rows
      → AreWithin (with_default rows a)
  default_kept a rows is none within = go (has_row a.id rows) a.defaults none
    where
      put : (values : List Text) → values_fault a values ≡ []
          → AreWithin (with_values a.id (reading_by a) DefaultValue values rows)
      put values none =
          valued a.id (reading_by a) DefaultValue values rows
          (λ named. let asked = subst (λ (b : Bool). Asks b a) named is in (
            ap (λ p. reading_of (parser_of_value p)) asked.0,
            accepted a.ignore_case low high values
                (subst (λ p. values_kinds a.ignore_case (parser_of_value p) values ≡ []) asked.0 none),
          )) within

      go : (b : Bool) (values : List Text)
          → (if b || is_empty values then [] else given_default_fault a values) ≡ []
          → AreWithin (if b then rows else default_rows a.id (reading_by a) values rows)
      go true values none = within
      go false [] none = within
      go false (v ∷ vs) none =
          let some : is_empty (v ∷ vs) ≡ false = search rules in
          let given = subst (λ b. (if b then [] else given_default_fault a (v ∷ vs)) ≡ []) some none in
          put (v ∷ vs) (none_behind (request_kinds (action_of a)) (values_fault a (v ∷ vs)) given)

  defaults_kept : (rules : List Rule) (rows : List Row) → All AsksOf rules → defaults_fault rows rules ≡ []
      → AreWithin rows → AreWithin (fold with_default rows rules)
  unfolding defaults_fault
  defaults_kept [] rows asks none within = within
  defaults_kept (a ∷ rest) rows asks none within =
      let first = default_fault rows a in
      let behind = defaults_fault (with_default rows a) rest in
      defaults_kept rest (with_default rows a) (All-tail AsksOf a rest asks) (none_behind first behind none)
      (default_kept a rows (All-head AsksOf a rest asks) (none_front first behind none) within)

  -- a level of a parse without faults leaves rows whose values lie in the range
  pub level_kept : (s : Shape) (names : Names) (words : List Text) (met : Bool) (below : Kinds) → All AsksOf s.rules
      → level_fault s names nothing_held words met below ≡ [] → AreWithin (rows_after s.rules names words)
  level_kept s names words met below asks none =
      let end = (walk s.rules names nothing_held words).held in
      let walks = walk_fault s names (walk_from nothing_held) words in
      let settles = settle_fault s.rules s.args_override_self end in
      let defaults = defaults_fault (settled s.rules end).rows s.rules in
      let check = check_fault s (finished s.rules end) met in
      let rest = or_else settles (or_else defaults check) in
      let behind_walk = none_behind walks (or_else below rest) none in
      let behind_below = none_behind below rest behind_walk in
      let behind_settles = none_behind settles (or_else defaults check) behind_below in
      defaults_kept s.rules (settled s.rules end).rows asks (none_front defaults check behind_settles)
      (settled_kept s.rules s.args_override_self asks end (none_front settles (or_else defaults check) behind_below)
      (walk_kept s names asks words (walk_from nothing_held) (none_front walks (or_else below rest) none)
      (All-nil IsWithin)))
