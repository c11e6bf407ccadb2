-- Pages of 4,096 bytes, and marks: a byte for each page, which is 0 where the page has no mark.
use Rattle.std.specs.Prelude.{◌≡◌, ◌≢◌, ℕ, ◌+◌, ◌-◌, ◌*◌, ◌/◌, ◌%◌, ◌<◌, ◌≤◌, ◌==◌, not, if◌then◌else◌, List, length, slice_index}
use Rattle.std.specs.List.{count_by}
use Rattle.cola_device.specs.Bytes.{part}

-- the bytes of a page, fewer where it is the last one
abbrev pub page_of : List ℕ → ℕ → List ℕ
page_of bytes page = part bytes (4096 * page) 4096

-- a page has one of so many bytes from a place on
pub record IsTouched (at count page : ℕ) : Type 0 where
  pub some : 0 < count
  pub begins : 4096 * page < at + count
  pub ends : at < 4096 * page + 4096

-- in how many pages so many bytes from a place on lie
abbrev pub pages_touched : ℕ → ℕ → ℕ
pages_touched at count = if count == 0 then 0 else (at % 4096 + count - 1) / 4096 + 1

-- how many pages have a mark
abbrev pub marked : List ℕ → ℕ
marked marks = count_by (λ mark. not (mark == 0)) marks

-- each page with no mark has the same bytes
abbrev pub SameUnmarked : List ℕ → List ℕ → List ℕ → Type 0
SameUnmarked marks before now =
    (page : ℕ) → page < length marks → slice_index marks page ≡ 0 → page_of now page ≡ page_of before page

-- the pages from one up to another have a mark, as far as there are marks, and all other marks stay
pub record MarksPages (first end : ℕ) (before now : List ℕ) : Type 0 where
  pub many : length now ≡ length before
  pub inside : (page : ℕ) → first ≤ page → page < end → page < length before → slice_index now page ≡ 1
  pub below : (page : ℕ) → page < first → slice_index now page ≡ slice_index before page
  pub above : (page : ℕ) → end ≤ page → slice_index now page ≡ slice_index before page

-- the pages of so many bytes from a place on have a mark, as far as there are marks, and all other marks stay
pub record MarksTouched (at count : ℕ) (before now : List ℕ) : Type 0 where
  pub many : length now ≡ length before
  pub touched : (page : ℕ) → page < length before → IsTouched at count page → slice_index now page ≡ 1
  pub others : (page : ℕ) → (IsTouched at count page → ⊥) → slice_index now page ≡ slice_index before page

-- every page has a mark
pub record AllMarked (before now : List ℕ) : Type 0 where
  pub many : length now ≡ length before
  pub all : (page : ℕ) → page < length before → slice_index now page ≡ 1

-- there are as many marks, and each that was set is set
pub record MarksStay (before now : List ℕ) : Type 0 where
  pub many : length now ≡ length before
  pub stay : (page : ℕ) → page < length before → slice_index before page ≢ 0 → slice_index now page ≢ 0
