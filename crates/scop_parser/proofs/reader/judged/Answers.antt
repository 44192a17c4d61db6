use Rattle.scop_syntax.proofs.Common.{rules, ◌≤◌, ◌^◌, ◌++◌, List, length, subst, sym, ap, ◌∙◌}
use Rattle.scop_grammar.specs.Kernel.{Piece}
use Rattle.scop_grammar.specs.Turns.{pieces_of}
use Rattle.scop_pass.specs.Machine.{first_state, run}
use Rattle.scop_pass.specs.Passing.{ComeNext, state_of}
use Rattle.scop_units.specs.View.{words_in}
use Rattle.scop_parser.proofs.TokenFeed.{all_passed, all_seen, come_next, fed_on, fed_stops}
use Rattle.scop_parser.proofs.TokenFeed.{next_pieces, passed_first, passed_on}
use Rattle.scop_parser.proofs.UniquePrograms.{no-stop}
use Rattle.scop_parser.proofs.reader.judged.Goals as goal

pub loop-start-init : goal.loop-start-init
loop-start-init c =
    let words = c.args.words.now in
    passed_first (words_in words) (all_seen words.text.now words.starts.now) c.new-reader.result
    (state_of c.new-pass.result) c.new-reader.ensures c.new-pass.ensures

pub memory_stop-requires : goal.memory_stop-requires
memory_stop-requires c =
    let l = c.loop-start in
    let words = c.args.words.now in
    let stops =
    fed_stops words.text.now words.starts.now l.invariant.done l.start-index l.reader c.feed.new.self c.seen.result
    c.feed.result c.in-Err.stop l.invariant.fed c.loop-start-test.true c.seen.ensures c.in-Err.is c.feed.ensures in
    no-stop (all_seen words.text.now words.starts.now) c.requires.0 c.in-Err.stop stops c.requires.1

pub take-requires : goal.take-requires
take-requires c =
    let l = c.loop-start in
    let words = c.args.words.now in
    let next = c.feed.new.self in
    let on =
    fed_on words.text.now words.starts.now l.invariant.done l.start-index l.reader next c.seen.result c.feed.result
    c.in-Ok.field-0 l.invariant.fed c.loop-start-test.true c.seen.ensures c.in-Ok.is c.feed.ensures in
    let few : length words.starts.now ≤ 2 ^ 63 = search rules in
    let same = ap pieces_of c.deref.ensures.value ∙ c.take_parts-parts.ensures.parts in
    subst (λ (ps : List Piece). ComeNext (words_in words) (state_of l.pass) ps) (sym same)
    (come_next (words_in words) words.text.now words.starts.now l.invariant.done c.requires.0 _ next (state_of l.pass)
    on c.requires.1 few l.invariant.so)

pub returns-in-Err-take : goal.returns-in-Err-take
returns-in-Err-take c k spells =
    let l = c.loop-start in
    let words = c.args.words.now in
    let done = l.invariant.done in
    let on =
    fed_on words.text.now words.starts.now done l.start-index l.reader c.feed.new.self c.seen.result c.feed.result
    c.in-Ok.field-0 l.invariant.fed c.loop-start-test.true c.seen.ensures c.in-Ok.is c.feed.ensures in
    let same = ap pieces_of c.deref.ensures.value ∙ c.take_parts-parts.ensures.parts in
    let come = next_pieces (all_seen words.text.now words.starts.now) done k _ c.feed.new.self on spells in
    c.in-Err-take.ensures k done come.0 spells.fits
    (come.1 ∙ ap (λ (ps : List Piece). done ++ (ps ++ come.0)) (sym same)) l.invariant.so

pub loop-start-preserved : goal.loop-start-preserved
loop-start-preserved c =
    let l = c.loop-start in
    let words = c.args.words.now in
    let ts = all_seen words.text.now words.starts.now in
    let next = c.feed.new.self in
    let done = l.invariant.done in
    let on =
    fed_on words.text.now words.starts.now done l.start-index l.reader next c.seen.result c.feed.result
    c.in-Ok.field-0 l.invariant.fed c.loop-start-test.true c.seen.ensures c.in-Ok.is c.feed.ensures in
    let same = ap pieces_of c.deref.ensures.value ∙ c.take_parts-parts.ensures.parts in
    let come = next_pieces ts done c.requires.0 _ next on c.requires.1 in
    let so =
    ap (λ (ps : List Piece). run (words_in words) first_state (done ++ ps)) (sym same)
    ∙ c.in-Ok-take.ensures c.requires.0 done come.0 c.requires.1.fits
    (come.1 ∙ ap (λ (ps : List Piece). done ++ (ps ++ come.0)) (sym same)) l.invariant.so in
    passed_on (words_in words) ts done _ next c.take_parts-parts.new.self (state_of c.take.new.self) on
    c.take_parts-parts.ensures.rest so

pub returns : goal.returns
returns c k spells =
    let l = c.loop-start in
    let words = c.args.words.now in
    let all =
    all_passed (words_in words) words.text.now words.starts.now k l.start-index l.reader (state_of l.pass) spells
    l.invariant c.loop-start-test.false in
    (all.0, c.in_ok-finish.ensures ∙ all.1)
