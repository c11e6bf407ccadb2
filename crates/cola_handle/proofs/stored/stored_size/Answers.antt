use Rattle.std.proofs.Common.{◌≡◌, ℕ, List, take, length, sym, subst, arith}
use Rattle.cola_layout.specs.Fields.{fields_of}
use Rattle.cola_layout.specs.Header.{IsSpelling}
use Rattle.cola_handle.proofs.Storing.{short-file, short-head}
use Rattle.cola_handle.proofs.stored.stored_size.Goals as goal
use Rattle.cola_handle.proofs.stored.stored_size.Goals.{then-size-lt512-via-then-size-lt512, then-size-lt512-via-else-size-lt512+then-head-lt512}

pub returns-then-size-lt512 : goal.returns-then-size-lt512
returns-then-size-lt512 c file begins = elim c.then-size-lt512.branch [
  | then-size-lt512-via-then-size-lt512 w ↦ short-file begins w.if-size-lt512.true
  | then-size-lt512-via-else-size-lt512+then-head-lt512 w ↦ short-head begins w.if-head-lt512.true
]

pub returns : goal.returns
returns c file begins = record {
  header = c.in-Some.header;
  was = record {
    has = record {
      spelled = subst (λ (bytes : List ℕ). IsSpelling (fields_of c.in-Some.header) bytes) (sym begins.head_is) c.in-Some.ensures;
      whole = omega (arith, c.size_of-stored.ensures.value, c.if-size-stored.false, begins.size_is);
    };
    closed = c.if-not-header.false;
  };
  stored_is = c.size_of-stored.ensures.value;
}
