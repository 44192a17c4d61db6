use Rattle.polypar.proofs.laws.printed_arrays_are_data.Goals as goal

pub returns : goal.returns
returns c = λ text program params contents spelled limits shape cells widths.
    let law = c.spelled_programs_are_kernels.ensures in
    c.written_cases_are_read_back.ensures program params contents (record {
      names = law.words text program spelled;
      apart = (law.names text program spelled).header;
      limits = limits;
      shape = shape;
      cells = cells;
      widths = widths;
    })
