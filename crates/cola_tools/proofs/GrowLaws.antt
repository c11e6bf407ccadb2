-- What a copy of a store's map says of maps.
use Rattle.std.proofs.Common.{◌≡◌, ◌∙◌, ◌⊎◌, inl, inr, ℕ, ◌≤◌, List, length, take, Ok, Err, sym, ap, subst}
use Rattle.std.specs.FinMap as finite
use Rattle.std.proofs.Math.Seq.{take-length}
use Rattle.std.proofs.lemmas.List.{length-map}
use Rattle.cola_cell.specs.declared.format.Format.{Format}
use Rattle.cola_cell.specs.Format.{stamp_limit}
use Rattle.cola_image.specs.Standing.{FileStandsFor, HeaderStandsFor}
use Rattle.cola_layout.specs.declared.geometry.Geometry.{Geometry}
use Rattle.cola_layout.specs.Header.{Fields}
use Rattle.cola_layout.proofs.Refusing.{spelling-one}
use Rattle.cola_run.specs.Cells.{file_bytes}
use Rattle.cola_spec.specs.Map.{Map, count}
use Rattle.cola_load.specs.Filled.{Row, rows_of, row_of_entry, map_of, filled_header}
use Rattle.cola_load.proofs.FilledLevels.{filled-stands}
use Rattle.cola_load.proofs.FilledMaps.{map-again}
use Rattle.cola_tools.specs.declared.fault.ToolFault.{ToolFault}
use Rattle.cola_tools.specs.declared.fault.ToolFault.TheVariants.{Small, NotStore, NotClosed, Memory, Options, NotEmpty, BadCell, Fewer, Length, Full, Order}
use Rattle.cola_tools.specs.Growing.{Grows, HasNoHeader, StandsIn, IsFilledIn}

rows-many : (m : Map) → length (rows_of m) ≡ count m
rows-many m = length-map (finite.entries m.entries) row_of_entry ∙ sym (finite.len-entries m.entries)

-- bytes that are filled with the rows of a map stand for it
pub filled-in : (geometry : Geometry) (last : ℕ) (rows : List Row) (m : Map) (bytes : List ℕ) → last ≤ stamp_limit geometry.format → map_of last rows ≡ m → IsFilledIn geometry last rows bytes → StandsIn geometry m bytes
filled-in geometry last rows m bytes limit map-is filled =
    let whole : FileStandsFor filled.file m =
    (filled_header geometry last (length rows), subst (λ (x : Map). HeaderStandsFor (filled_header geometry last (length rows)) filled.file x) map-is (filled-stands geometry last rows filled.file limit filled.are_rows filled.filled)) in
    let first : FileStandsFor (take (file_bytes geometry) bytes) m = subst (λ (b : List ℕ). FileStandsFor b m) filled.in_bytes.file_is whole in
    record {
      first = first;
      exact = λ same. subst (λ (b : List ℕ). FileStandsFor b m) (ap (λ (n : ℕ). take n bytes) (sym same) ∙ take-length bytes) first;
    }

pub stands : (keys block_exp : ℕ) (from before now : List ℕ) (ticks ticks_now answer : ℕ) (m : Map) → FileStandsFor from m → Grows keys block_exp from before now ticks ticks_now (Ok answer)
    → (geometry : Geometry) × ((geometry.keys ≡ keys) × ((geometry.block_exp ≡ block_exp) × (StandsIn geometry m now × (answer ≡ count m))))
stands keys block_exp from before now ticks ticks_now answer m old grown =
    let same : old.0 ≡ grown.header = spelling-one old.0 grown.header (take 512 from) old.1.spelled grown.is_of.was.has.spelled in
    let here : HeaderStandsFor grown.header from m = subst (λ (f : Fields). HeaderStandsFor f from m) same old.1 in
    let rows-are : grown.rows ≡ rows_of m = grown.map_is m here in
    let limit : grown.header.last ≤ stamp_limit grown.geometry.format = subst (λ (f : Format). grown.header.last ≤ stamp_limit f) (sym grown.is_of.is_for.format_is) grown.is_of.was.has.spelled.sound.last_fits in
    let map-is : map_of grown.header.last grown.rows ≡ m = ap (λ (n : ℕ). map_of n grown.rows) here.numbered ∙ (ap (λ (rs : List Row). map_of m.last rs) rows-are ∙ map-again m) in
    let many : answer ≡ count m = grown.count_is ∙ (ap (λ (rs : List Row). length rs) rows-are ∙ rows-many m) in
    (grown.geometry, (grown.is_of.is_for.keys_are, (grown.is_of.is_for.block_is, (filled-in grown.geometry grown.header.last grown.rows m now limit map-is grown.filled, many))))

pub refused : (keys block_exp : ℕ) (from before now : List ℕ) (ticks ticks_now : ℕ) (why : ToolFault) → Grows keys block_exp from before now ticks ticks_now (Err why) → (now ≡ before) ⊎ HasNoHeader now
refused keys block_exp from before now ticks ticks_now Options says = inl says.1
refused keys block_exp from before now ticks ticks_now NotEmpty says = inl says.1
refused keys block_exp from before now ticks ticks_now Small says = inl says.1
refused keys block_exp from before now ticks ticks_now NotStore says = inl says.1
refused keys block_exp from before now ticks ticks_now NotClosed says = inl says.1
refused keys block_exp from before now ticks ticks_now Fewer says = inl says.1
refused keys block_exp from before now ticks ticks_now Memory says = inl says.1
refused keys block_exp from before now ticks ticks_now BadCell says = inr says.no_header
refused keys block_exp from before now ticks ticks_now Length says = absurd says
refused keys block_exp from before now ticks ticks_now Full says = absurd says
refused keys block_exp from before now ticks ticks_now Order says = absurd says
