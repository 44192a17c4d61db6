use Rattle.scop_syntax.proofs.Common.{◌≡◌, ◌∙◌, ◌+◌, arith, get_or, length, rules, drop, subst, nat_eq, length-map, In}
use Rattle.tile_events.specs.Plan.{count_of}
use Rattle.tile_edges.specs.steps.Rows.{joined, rows_in, starts_from}
use Rattle.tile_edges.proofs.RowLists.{drop_seen, nothing_left, starts_end, starts_more, targets_end, targets_more}
use Rattle.tile_edges.proofs.rows.rows_of.Goals as goal

pub loop-row-preserved : goal.loop-row-preserved
loop-row-preserved c =
    let rows = rows_in c.args.pairs.now in
    let k = c.loop-row.row-index in
    let starts = c.loop-row.starts.items in
    let targets = c.loop-row.targets.items in
    let row = c.row-item.result.keys in
    let lent : c.deref-row-items.result.now ≡ c.args.pairs.now.rows.items = search rules in
    let cut = drop_seen (λ s. s.keys) c.args.pairs.now.rows.items k c.row-item.result (omega arith)
    (subst (λ items. c.row-item.result ≡ get_or items k c.row-item.result) lent c.row-item.is) in
    let many : c.len.result ≡ length targets = search rules in
    record {
      starts = starts_more starts targets c.push.new.self.items c.put_row.new.targets.items row (drop k rows)
          (drop (k + 1) rows) c.len.result (starts_from 0 rows) cut many c.in_ok-push.ensures.items
          c.in_ok-put_row.ensures c.loop-row.invariant.starts;
      targets = targets_more targets c.put_row.new.targets.items row (drop k rows) (drop (k + 1) rows) (joined rows) cut
          c.in_ok-put_row.ensures c.loop-row.invariant.targets;
    }

pub needs_of-requires : goal.needs_of-requires
needs_of-requires c u i =
    let rows = rows_in c.args.pairs.now in
    let seen = length-map c.args.pairs.now.rows.items (λ s. s.keys) in
    let none = nothing_left rows c.loop-row.row-index (omega (arith, seen)) in
    let all = targets_end c.loop-row.targets.items (drop c.loop-row.row-index rows) (joined rows) none
    c.loop-row.invariant.targets in
    let lent : c.as_slice.result.now ≡ c.loop-row.targets.items = search rules in
    let less = c.requires u (subst (λ xs. In u xs) (lent ∙ all) i) in
    let many : c.len-3.result ≡ length c.args.pairs.now.rows.items = search rules in
    omega (arith, less, many)

pub returns : goal.returns
returns c =
    let rows = rows_in c.args.pairs.now in
    let seen = length-map c.args.pairs.now.rows.items (λ s. s.keys) in
    let none = nothing_left rows c.loop-row.row-index (omega (arith, seen)) in
    let end : c.len-2.result ≡ length c.loop-row.targets.items = search rules in
    let many : c.len-3.result ≡ length c.args.pairs.now.rows.items = search rules in
    let long = c.in_ok-needs.ensures.long in
    let lent : c.as_slice.result.now ≡ c.loop-row.targets.items = search rules in
    record {
      starts = starts_end c.loop-row.starts.items c.loop-row.targets.items c.push-2.new.self.items
          (drop c.loop-row.row-index rows) c.len-2.result (starts_from 0 rows) none end c.in_ok-push-2.ensures.items
          c.loop-row.invariant.starts;
      targets = targets_end c.loop-row.targets.items (drop c.loop-row.row-index rows) (joined rows) none
          c.loop-row.invariant.targets;
      counted = omega (arith, long, many, seen);
      needs = λ u less.
          subst (λ xs. get_or c.in_ok-needs.needs.items u 0 ≡ count_of (λ i. nat_eq (get_or xs i 0) u) (length xs)) lent
          (c.in_ok-needs.ensures.needs u (omega (arith, less, many, seen)));
    }
