use Rattle.report_text.proofs.deps_laws.printed_sources_are_read_in_one_way.Goals as goal

pub returns : goal.returns
returns c = λ text program a b spells.
    let laws = c.spelled_programs_are_kernels.ensures in
    c.deps_texts_are_read_in_one_way.ensures program a b (laws.names text program spells)
    (laws.words text program spells)
