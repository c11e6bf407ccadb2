use Rattle.std.proofs.Common.{sym, ◌∙◌, arith}
use Rattle.std.proofs.lemmas.List.{get_or_default}
use Rattle.std.specs.Cmp.Lexicographic.{texts_ties}
use Rattle.cola_spec.specs.Map.{key_cmp}
use Rattle.cola_table.proofs.FlatMap.{key_cmp-total}
use Rattle.cola_table.proofs.Places.{find-absent}
use Rattle.cola_table.proofs.flat.search.Goals as goal
use Rattle.cola_table.proofs.flat.search.Goals.{else-place-len-via-then-place-len+else-eq, else-place-len-via-else-place-len}

-- the entry at the place, if there is one, has another key
pub returns-else-place-len-clause-absent : goal.returns-else-place-len-clause-absent
returns-else-place-len-clause-absent c = record {
  in_range = c.place_of-place.ensures.in_range;
  is_place = c.place_of-place.ensures.place;
  absent = find-absent key_cmp key_cmp-total c.args.key.now c.args.entries.now.list c.requires (λ d lt. elim c.else-place-len.branch [
    | else-place-len-via-then-place-len+else-eq w ↦ rw (← c.place_of-place.ensures.place, get_or_default c.args.entries.now.list c.place_of-place.result d w.at.result.now (omega arith), w.at.ensures, ← w.key.ensures) (sym (texts_ties w.key.result.now c.args.key.now) ∙ sym w.eq.ensures ∙ w.if-eq.false)
    | else-place-len-via-else-place-len w ↦ absurd (omega (arith, w.if-place-len.false, c.len.ensures.value, c.place_of-place.ensures.place))
  ]);
}
