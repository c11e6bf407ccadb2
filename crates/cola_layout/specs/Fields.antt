-- What a header of the program says, and what decoding answers.
use Rattle.std.specs.Prelude.{List, ℕ, Option, MatchOption}
use Rattle.cola_layout.specs.declared.header.Header.{Header}
use Rattle.cola_layout.specs.Header.{Fields, IsSpelling, IsNoSpelling}

-- what the header says
abbrev pub fields_of : Header → Fields
fields_of h = record {
  format = h.geometry.format;
  block_exp = h.geometry.block_exp;
  bottom = h.geometry.bottom;
  closed = h.closed;
  keys = h.geometry.keys;
  count = h.count;
  clock = h.clock;
  last = h.last;
  levels = h.levels.items;
}

-- an answer of decoding: the header that the bytes spell, or none where they are no spelling
abbrev pub Decodes : List ℕ → Option Header → Type 0
Decodes bytes answer = MatchOption answer (IsNoSpelling bytes) (λ h. IsSpelling (fields_of h) bytes)
