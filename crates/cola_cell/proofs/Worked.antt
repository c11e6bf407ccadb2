-- Worked cells: the definition computes as the format's tables say.
use Rattle.std.proofs.Common.{false, true, [], ◌∷◌, ◌++◌, replicate, refl, arith}
use Rattle.cola_cell.specs.declared.format.Format.TheVariants.{One, Two}
use Rattle.cola_cell.specs.declared.cell.Item.TheVariants.{Value, Tombstone}
use Rattle.cola_cell.specs.declared.cell.Cell.TheVariants as cell
use Rattle.cola_cell.specs.Spelling.{IsSpelling}

-- key k03, value 3, old, link 0
value-in-one : IsSpelling One (cell.Item (107 ∷ 48 ∷ 51 ∷ []) (Value (51 ∷ []) 0) false 0)
    (((0 ∷ 0 ∷ 3 ∷ 1 ∷ 0 ∷ 0 ∷ 0 ∷ 0 ∷ 107 ∷ 48 ∷ 51 ∷ []) ++ replicate 21 0) ++ (51 ∷ []) ++ replicate 31 0)
value-in-one = record {
  size = refl;
  fits = (omega arith, (omega arith, omega arith));
  some_key = omega arith;
  small_link = omega arith;
  kind = refl;
  young = refl;
  key_length = refl;
  value_length = refl;
  link = refl;
  stamp = refl;
  key = refl;
  value = refl;
}

-- a young tombstone of key a with link 8
tombstone-in-one : IsSpelling One (cell.Item (97 ∷ []) Tombstone true 8)
    ((1 ∷ 1 ∷ 1 ∷ 0 ∷ 8 ∷ 0 ∷ 0 ∷ 0 ∷ 97 ∷ []) ++ replicate 55 0)
tombstone-in-one = record {
  size = refl;
  fits = (omega arith, tt);
  some_key = omega arith;
  small_link = omega arith;
  kind = refl;
  young = refl;
  key_length = refl;
  value_length = refl;
  link = refl;
  stamp = refl;
  key = refl;
  value = refl;
}

-- a lookahead cell of key k09 with link 0
look-in-one : IsSpelling One (cell.Look (107 ∷ 48 ∷ 57 ∷ []) 0)
    ((2 ∷ 0 ∷ 3 ∷ 0 ∷ 0 ∷ 0 ∷ 0 ∷ 0 ∷ 107 ∷ 48 ∷ 57 ∷ []) ++ replicate 53 0)
look-in-one = record {
  size = refl;
  fits = omega arith;
  some_key = omega arith;
  small_link = omega arith;
  kind = refl;
  young = refl;
  key_length = refl;
  value_length = refl;
  link = refl;
  stamp = refl;
  key = refl;
  value = refl;
}

-- key k03, value 3, old, link 0, stamp 258
value-in-two : IsSpelling Two (cell.Item (107 ∷ 48 ∷ 51 ∷ []) (Value (51 ∷ []) 258) false 0)
    ((((0 ∷ 0 ∷ 3 ∷ 1 ∷ 0 ∷ 0 ∷ 0 ∷ 0 ∷ 2 ∷ 1 ∷ []) ++ replicate 6 0) ++ (107 ∷ 48 ∷ 51 ∷ []) ++ replicate 37 0) ++ (51 ∷ []) ++ replicate 71 0)
value-in-two = record {
  size = refl;
  fits = (omega arith, (omega arith, omega arith));
  some_key = omega arith;
  small_link = omega arith;
  kind = refl;
  young = refl;
  key_length = refl;
  value_length = refl;
  link = refl;
  stamp = refl;
  key = refl;
  value = refl;
}
