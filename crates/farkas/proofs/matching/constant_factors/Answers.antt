use Rattle.whole_numbers.proofs.Common.{arith}
use Rattle.farkas.proofs.ClaimedForms.{facts}
use Rattle.farkas.proofs.matching.constant_factors.Goals as goal

pub only_at-requires : goal.only_at-requires
only_at-requires c =
    (facts _ _ _ _ c.requires.layout c.requires.one).bound

pub overflow_add-layout : goal.overflow_add-layout
overflow_add-layout c =
    let inside = (facts _ _ _ _ c.requires.layout c.requires.one).source_inside in
    omega arith

pub index_mut-requires : goal.index_mut-requires
index_mut-requires c =
    let inside = (facts _ _ _ _ c.requires.layout c.requires.one).source_inside in
    let size = c.in-Ok.ensures.len in
    omega arith

pub overflow_add-layout-then-source-target : goal.overflow_add-layout-then-source-target
overflow_add-layout-then-source-target c =
    let inside = (facts _ _ _ _ c.requires.layout c.requires.one).target_inside in
    omega arith

pub index_mut-requires-then-source-target : goal.index_mut-requires-then-source-target
index_mut-requires-then-source-target c =
    let inside = (facts _ _ _ _ c.requires.layout c.requires.one).target_inside in
    let size = c.in-Ok.ensures.len in
    omega arith
