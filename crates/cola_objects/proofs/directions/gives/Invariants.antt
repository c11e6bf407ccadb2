use Rattle.cola_objects.proofs.directions.gives.Given as goal

abbrev pub invariant-loop-key : goal.invariant-loop-key
invariant-loop-key g l = g.T.Table.stands l.table l.walk
