use Rattle.std.proofs.Common.{◌≡◌, List, ℕ, length, sym, subst, ◌∙◌, arith}
use Rattle.cola_cell.specs.Spelling.{IsSpelling}
use Rattle.cola_cell.specs.Decoded.{standing}
use Rattle.cola_cell.specs.Format.{width}
use Rattle.cola_cell.proofs.Packs.{again-cell}
use Rattle.cola_cell.proofs.packed.renew_in.Goals as goal

pub copy_in-requires-clause-from : goal.copy_in-requires-clause-from
copy_in-requires-clause-from c = c.requires.spelled.size

pub returns : goal.returns
returns c = again-cell c.args.format (standing c.args.format c.args.from.now) c.args.young c.args.link c.put_start.new.bytes c.copy_in.new.into c.requires.item
    (subst (IsSpelling c.args.format (standing c.args.format c.args.from.now)) (sym c.copy_in.ensures) c.requires.spelled) (record {
      size = c.put_start.ensures.size;
      kind = c.put_start.ensures.kind;
      young = c.put_start.ensures.young ∙ c.youth.ensures;
      key = c.put_start.ensures.key;
      value = c.put_start.ensures.value;
      link = c.put_start.ensures.link;
      rest = c.put_start.ensures.rest;
      small_link = omega arith;
    })
