use Rattle.cola_wide.proofs.laws.cells_are_copied.Goals as goal

pub returns-clause-run : goal.returns-clause-run
returns-clause-run c = λ header number one two copied of_run. let same = copied.run of_run in (same.cell, (same.was, (same.is, same.no_stamp)))

pub returns-clause-lowest : goal.returns-clause-lowest
returns-clause-lowest c = λ header low number old met. (met.from, (met.within, (met.bad, met.lowest)))
