use Rattle.text_callers.proofs.names.names_of_spelled_programs.Goals as goal

pub returns-clause-name : goal.returns-clause-name
returns-clause-name c = λ text p spells. (c.spelled_names_are_words.ensures text p spells).name

pub returns-clause-arrays : goal.returns-clause-arrays
returns-clause-arrays c = λ text p spells. (c.spelled_names_are_words.ensures text p spells).arrays
