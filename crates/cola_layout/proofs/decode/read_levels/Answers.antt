use Rattle.std.proofs.Common.{◌≡◌, ℕ, ◌+◌, ◌*◌, List, [], ◌∷◌, ◌++◌, drop, sym, ◌∙◌, ap, arith}
use Rattle.std.proofs.lemmas.List.{drop-drop}
use Rattle.std.proofs.Math.Numerals.{add-one}
use Rattle.cola_layout.specs.declared.marks.Marks.{Marks}
use Rattle.cola_layout.specs.Read.{levels_in, marks_in}
use Rattle.cola_layout.proofs.Readings.{levels-in_more}
use Rattle.cola_layout.proofs.decode.read_levels.Goals as goal

pub loop-level-preserved : goal.loop-level-preserved
loop-level-preserved c =
    let bytes = c.args.bytes.now in
    let j = c.loop-level.level in
    let here : marks_in (drop (48 + 20 * j) bytes) ≡ marks_in (drop (20 * j) (drop 48 bytes)) = ap marks_in (sym (drop-drop (20 * j) 48 bytes)) in
    record {
      read_so_far =
          c.push.ensures.items
          ∙ ap (λ (ms : List Marks). ms ++ c.read_marks.result ∷ []) c.loop-level.invariant.read_so_far
          ∙ ap (λ (m : Marks). levels_in j (drop 48 bytes) ++ m ∷ []) (c.read_marks.ensures ∙ here)
          ∙ sym (levels-in_more j (drop 48 bytes))
          ∙ ap (λ (k : ℕ). levels_in k (drop 48 bytes)) (sym (add-one j));
      size = omega (arith, c.push.ensures.len);
    }
