-- Files of a store for 32 keys in format One, in blocks of 32 cells, written out byte by byte.
use Rattle.std.specs.Prelude.{ℕ, zero, suc, ◌+◌, ◌*◌, ◌/◌, ◌%◌, nat_lt, if◌then◌else◌, true, List, [], ◌∷◌, ◌++◌, length, replicate}
use Rattle.std.specs.FinMap as finite
use Rattle.std.specs.FinMap.{FinMap}
use Rattle.cola_cell.specs.declared.format.Format.TheVariants.{One}
use Rattle.cola_cell.specs.Bytes.{padded}
use Rattle.cola_layout.specs.declared.marks.Marks.{Marks}
use Rattle.cola_layout.specs.Header.{Fields}
use Rattle.cola_layout.specs.Marks.{no_marks}
use Rattle.cola_spec.specs.Map.{Map, Stored, key_cmp}

-- a number below 256 in four bytes
abbrev pub four_bytes : ℕ → List ℕ
four_bytes n = n ∷ 0 ∷ 0 ∷ 0 ∷ []

-- and in eight
abbrev pub eight_bytes : ℕ → List ℕ
eight_bytes n = n ∷ 0 ∷ 0 ∷ 0 ∷ 0 ∷ 0 ∷ 0 ∷ 0 ∷ []

-- the bytes 0 to 47 of a closed file with so many keys at this clock: COLASTOR, version 1, 2^5 cells a block, level 3 the
-- lowest, state 0, for 32 keys, and last number 0
abbrev pub head : ℕ → ℕ → List ℕ
head count clock =
    (67 ∷ 79 ∷ 76 ∷ 65 ∷ 83 ∷ 84 ∷ 79 ∷ 82 ∷ 1 ∷ 0 ∷ 0 ∷ 0 ∷ 5 ∷ 3 ∷ 0 ∷ 0 ∷ [])
    ++ eight_bytes 32 ++ eight_bytes count ++ eight_bytes clock ++ eight_bytes 0

-- the 20 bytes of a level's marks: the lengths of its visible run and its shadow, and the cursors of its own run, of what
-- comes in and of the sample
abbrev pub marks_row : (visible shadow own incoming sample : ℕ) → List ℕ
marks_row visible shadow own incoming sample = four_bytes visible ++ four_bytes shadow ++ four_bytes own ++ four_bytes incoming ++ four_bytes sample

-- the bytes 128 to 511 of a header of four levels
abbrev pub behind_marks : List ℕ
behind_marks = replicate 384 0

-- a number below 100 in two digits, and in one where that is enough
abbrev pub two_digits : ℕ → List ℕ
two_digits n = (48 + n / 10) ∷ (48 + n % 10) ∷ []

abbrev pub digits : ℕ → List ℕ
digits n = if nat_lt n 10 then (48 + n) ∷ [] else two_digits n

-- the key of the put with this number, as k03, and its value, as 3
abbrev pub key_of_put : ℕ → List ℕ
key_of_put n = 107 ∷ two_digits n

-- the 64 bytes of a cell: kind, young, the two lengths, link, key and value
abbrev pub cell_row : (kind young link : ℕ) (key value : List ℕ) → List ℕ
cell_row kind young link key value = (kind ∷ young ∷ length key ∷ length value ∷ []) ++ four_bytes link ++ padded 24 key ++ padded 32 value

-- the cell of the put with this number, old with link 0
abbrev pub old : ℕ → List ℕ
old n = cell_row 0 0 0 (key_of_put n) (digits n)

-- the same, young
abbrev pub young : ℕ → List ℕ
young n = cell_row 0 1 0 (key_of_put n) (digits n)

-- the same, old, behind the first lookahead cell: with link 8
abbrev pub behind_look : ℕ → List ℕ
behind_look n = cell_row 0 0 8 (key_of_put n) (digits n)

-- the first lookahead cell, of the key of this put
abbrev pub look : ℕ → List ℕ
look n = cell_row 2 0 0 (key_of_put n) []

-- so many cells of zeros
abbrev pub zero_cells : ℕ → List ℕ
zero_cells n = replicate (64 * n) 0

-- the first puts, so many: each key with its value
abbrev pub puts_to : ℕ → List (List ℕ × List ℕ)
puts_to zero = []
puts_to (suc n) = puts_to n ++ (key_of_put (suc n), digits (suc n)) ∷ []

-- the entries after puts in turn, none of which takes a stamp
abbrev pub after_puts : List (List ℕ × List ℕ) → FinMap key_cmp Stored → FinMap key_cmp Stored
after_puts [] entries = entries
after_puts (put ∷ puts) entries = after_puts puts (finite.insert entries put.0 (record { value = put.1; stamp = 0 }))

-- the map after them
abbrev pub map_after : List (List ℕ × List ℕ) → Map
map_after puts = record { entries = after_puts puts finite.empty; last = 0 }

-- the marks of a level
abbrev pub marks : (visible shadow own incoming sample : ℕ) → Marks
marks visible shadow own incoming sample = record { visible = visible; shadow = shadow; own = own; incoming = incoming; sample = sample }

-- the header of such a file
abbrev pub header_of : ℕ → ℕ → List Marks → Fields
header_of count clock levels =
    record { format = One; block_exp = 5; bottom = 3; closed = true; keys = 32; count = count; clock = clock; last = 0; levels = levels }

-- after four puts: k03 and k04 in level 0, k01 and k02 in level 1
abbrev pub file_of_four : List ℕ
file_of_four =
    (head 4 4 ++ marks_row 2 0 0 0 0 ++ marks_row 2 0 0 0 0 ++ marks_row 0 0 0 0 0 ++ marks_row 0 0 0 0 0 ++ behind_marks)
    -- cells 8 to 15
    ++ old 3 ++ old 4 ++ zero_cells 6
    -- cells 16 to 31
    ++ old 1 ++ old 2 ++ zero_cells 14
    -- cells 32 to 127
    ++ zero_cells 96

-- after eight: k07 and k08 in level 0, k03 to k06 in level 1, k01 and k02 in level 2
abbrev pub file_of_eight : List ℕ
file_of_eight =
    (head 8 8 ++ marks_row 2 0 0 0 0 ++ marks_row 4 0 0 0 0 ++ marks_row 2 0 0 0 0 ++ marks_row 0 0 0 0 0 ++ behind_marks)
    -- cells 8 to 15
    ++ old 7 ++ old 8 ++ zero_cells 6
    -- cells 16 to 31
    ++ old 3 ++ old 4 ++ old 5 ++ old 6 ++ zero_cells 12
    -- cells 32 to 63
    ++ old 1 ++ old 2 ++ zero_cells 30
    -- cells 64 to 127
    ++ zero_cells 64

-- after eleven, with finished shadows of levels 1 and 2, and one of the bottom that is under way
abbrev pub file_of_eleven : List ℕ
file_of_eleven =
    (head 11 11 ++ marks_row 3 0 0 0 0 ++ marks_row 6 4 0 0 0 ++ marks_row 2 6 0 0 0 ++ marks_row 0 2 0 2 0 ++ behind_marks)
    -- cells 8 to 15: level 0's visible run from cell 12 on
    ++ zero_cells 4 ++ old 9 ++ old 10 ++ young 11 ++ zero_cells 1
    -- cells 16 to 23: level 1's shadow
    ++ old 7 ++ old 8 ++ old 9 ++ old 10 ++ zero_cells 4
    -- cells 24 to 31: level 1's visible run
    ++ old 3 ++ old 4 ++ old 5 ++ old 6 ++ young 7 ++ young 8 ++ zero_cells 2
    -- cells 32 to 47: level 2's visible run
    ++ old 1 ++ old 2 ++ zero_cells 14
    -- cells 48 to 63: level 2's shadow
    ++ old 1 ++ old 2 ++ young 3 ++ young 4 ++ young 5 ++ young 6 ++ zero_cells 10
    -- cells 64 to 95: the bottom's shadow
    ++ old 1 ++ old 2 ++ zero_cells 30
    -- cells 96 to 127
    ++ zero_cells 32

-- after sixteen, at clock 0 again: level 1 has a lookahead cell of the eighth cell of level 2, and links behind it
abbrev pub file_of_sixteen : List ℕ
file_of_sixteen =
    (head 16 0 ++ marks_row 2 0 0 0 0 ++ marks_row 5 0 0 0 0 ++ marks_row 8 0 0 0 0 ++ marks_row 2 0 0 0 0 ++ behind_marks)
    -- cells 8 to 15
    ++ old 15 ++ old 16 ++ zero_cells 6
    -- cells 16 to 31
    ++ look 10 ++ behind_look 11 ++ behind_look 12 ++ behind_look 13 ++ behind_look 14 ++ zero_cells 11
    -- cells 32 to 63
    ++ old 3 ++ old 4 ++ old 5 ++ old 6 ++ old 7 ++ old 8 ++ old 9 ++ old 10 ++ zero_cells 24
    -- cells 64 to 127
    ++ old 1 ++ old 2 ++ zero_cells 62

-- a file whose level 0 has the four old values a, b, c and d at clock 0, in cells 8 to 11
abbrev pub crowded_file : List ℕ
crowded_file =
    (head 4 0 ++ marks_row 4 0 0 0 0 ++ marks_row 0 0 0 0 0 ++ marks_row 0 0 0 0 0 ++ marks_row 0 0 0 0 0 ++ behind_marks)
    ++ cell_row 0 0 0 (97 ∷ []) (49 ∷ []) ++ cell_row 0 0 0 (98 ∷ []) (50 ∷ []) ++ cell_row 0 0 0 (99 ∷ []) (51 ∷ []) ++ cell_row 0 0 0 (100 ∷ []) (52 ∷ [])
    ++ zero_cells 116

-- its header
abbrev pub crowded_header : Fields
crowded_header = header_of 4 0 (marks 4 0 0 0 0 ∷ no_marks ∷ no_marks ∷ no_marks ∷ [])
