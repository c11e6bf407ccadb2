-- A device in whole blocks behind a cache, with buffers that keep blocks: what a caller sees of it.
use Rattle.std.specs.Prelude.{◌≡◌, ℕ, ◌+◌, ◌*◌, ◌^◌, ◌≤◌, ◌<◌, ◌≢◌, ◌==◌, Bool, false, if◌then◌else◌, List, [], ◌∷◌, length, replicate, true, Option, None, Some, Result, MatchResult, IsOk, slice_index_or, slice_set, OnOk, OnErr, ⊤}
use Rattle.cola_device.specs.declared.counts.Counts.{Counts}
use Rattle.cola_device.specs.declared.device.Device as device
use Rattle.cola_device.specs.Counts.{Called}
use Rattle.cola_device.specs.Bytes.{part, HasRange, Gives}
use Rattle.cola_cache.specs.Order.{IsAbsent, without}
use Rattle.cola_cache.specs.Cache.{Cache, used}

-- the device's reads and faults when the buffers were made
pub record Made : Type 0 where
  pub reads : ℕ
  pub faults : ℕ

-- the cache over the device; for each buffer the block that was read last by way of it, where it holds that still; how many blocks the file has; and the counts when this was made
pub record Blocks (D : Type 0) : Type 0 where
  pub cache : Cache D
  pub lasts : List (Option ℕ)
  pub many : ℕ
  pub made : Made

-- the block that a buffer holds
abbrev pub last_in : List (Option ℕ) → ℕ → Option ℕ
last_in lasts buffer = slice_index_or lasts buffer None

-- whether this block is held
abbrev pub is_block : ℕ → Option ℕ → Bool
is_block block None = false
is_block block (Some last) = last == block

-- what a buffer holds after a block was written: not that block
abbrev pub forgotten : ℕ → Option ℕ → Option ℕ
forgotten block last = if is_block block last then None else last

-- blocks of a file that has so many, and none twice
abbrev pub AreBlocks : ℕ → List ℕ → Type 0
AreBlocks many [] = ⊤
AreBlocks many (block ∷ blocks) = (block < many) × (IsAbsent block blocks × AreBlocks many blocks)

-- what is true of a cache and of the counts since this was made: where every block of the file fits into the cache and no fault
-- was met, no more reads were made than blocks are held
pub record Since (many blocks : ℕ) (held : List ℕ) (made : Made) (counts : Counts) : Type 0 where
  pub held_are : AreBlocks many held
  pub reads_stay : made.reads ≤ counts.reads
  pub faults_stay : made.faults ≤ counts.faults
  pub few : many ≤ blocks → counts.faults ≡ made.faults → counts.faults + 1 < 2 ^ 64 → counts.reads ≤ made.reads + length held

-- what is true of every one, by what its device tells and counts
pub record IsSound {D : Type 0} (told : Option (List ℕ)) (counts : Counts) (blocks : Blocks D) : Type 0 where
  pub inside : HasRange told 0 (blocks.many * blocks.cache.size)
  pub fits : blocks.many * blocks.cache.size < 2 ^ 64
  pub least : 512 ≤ blocks.cache.size
  pub most : blocks.cache.size ≤ 65536
  pub lasts_are : (buffer block : ℕ) → last_in blocks.lasts buffer ≡ Some block → block < blocks.many
  pub since : Since blocks.many blocks.cache.blocks blocks.cache.held blocks.made counts

-- where every block of the file fits into the cache and no fault was met since this was made, at most so many reads were made as there are blocks
abbrev pub AreFew : {D : Type 0} → Blocks D → Counts → Type 0
AreFew blocks counts =
    blocks.many ≤ blocks.cache.blocks → counts.faults ≡ blocks.made.faults → counts.faults + 1 < 2 ^ 64 → counts.reads ≤ blocks.made.reads + blocks.many

-- a buffer that holds a block has a copy of its own, and does not borrow the cache's
abbrev pub IsOwn : List (Option ℕ) → List (Option ℕ) → ℕ → ℕ → Type 0
IsOwn lasts shares buffer block = (last_in lasts buffer ≡ Some block) × (last_in shares buffer ≡ None)

-- what copies are to agree with: nothing where the device lends its bytes, so that none is read
abbrev pub to_copy : Bool → Option (List ℕ) → Option (List ℕ)
to_copy true told = None
to_copy false told = told

-- room for a copy for each buffer: where the buffer does not borrow its block, the copy has the bytes of that block
pub record AreCopies (told : Option (List ℕ)) (copies : List ℕ) (lasts shares : List (Option ℕ)) (size : ℕ) : Type 0 where
  pub as_many : length copies ≡ length lasts * size
  pub shares_too : length shares ≡ length lasts
  pub agree : (buffer block : ℕ) → IsOwn lasts shares buffer block → Gives told (block * size) (part copies (buffer * size) size)

-- each block that a buffer borrows is one that the cache holds
abbrev pub AreShared : List ℕ → List (Option ℕ) → List (Option ℕ) → Type 0
AreShared held lasts shares = (buffer block : ℕ) → last_in lasts buffer ≡ Some block → last_in shares buffer ≢ None → IsAbsent block held → ⊥

-- what no call changes: how many blocks the cache may keep, the bytes of a block, how many blocks the file has, and the counts when this was made
pub record Stays {D : Type 0} (before now : Blocks D) : Type 0 where
  pub blocks : now.cache.blocks ≡ before.cache.blocks
  pub size : now.cache.size ≡ before.cache.size
  pub many : now.many ≡ before.many
  pub made : now.made ≡ before.made

-- what the cache holds after a block was read: the block comes to the front, and after an error all is as it was
abbrev pub HeldRead : {D T E : Type 0} → Result T E → ℕ → Cache D → Cache D → Type 0
HeldRead result block before now = MatchResult result (λ _. now.held ≡ used before.blocks block before.held) (λ _. now.held ≡ before.held)

-- what a call that reads one block leaves, by way of a cache: at most one read of the device, and none where the cache has the block
pub record IsRead {D T E : Type 0} (d : device.Ghosts D) (block : ℕ) (result : Result T E) (before now : Cache D) : Type 0 where
  pub held : HeldRead result block before now
  pub hit : (IsAbsent block before.held → ⊥) → (d.counts now.device ≡ d.counts before.device) × IsOk result
  pub bytes_stay : d.bytes now.device ≡ d.bytes before.device
  pub kept : d.kept now.device ≡ d.kept before.device
  pub counts : Called (d.counts before.device) (d.counts now.device) 1 0 0 result
  pub blocks : now.blocks ≡ before.blocks
  pub size : now.size ≡ before.size

-- a block lies in the file that a device has, where it tells
pub record IsInFile (told : Option (List ℕ)) (block size : ℕ) : Type 0 where
  pub fits : block * size < 2 ^ 64
  pub inside : HasRange told (block * size) size

-- a buffer that may be turned to a block: there is one of this number, and the device has that block, with the copies and what is borrowed as they are to be
pub record CanTurn {D : Type 0} (lends : Bool) (told : Option (List ℕ)) (cache : Cache D) (copies : List ℕ) (lasts shares : List (Option ℕ)) (buffer block size : ℕ) : Type 0 where
  pub size_is : size ≡ cache.size
  pub there : buffer < length lasts
  pub most : cache.size ≤ 65536
  pub fits : block * cache.size < 2 ^ 64
  pub inside : HasRange told (block * cache.size) cache.size
  pub copies_are : AreCopies (to_copy lends told) copies lasts shares size
  pub shared : AreShared cache.held lasts shares

-- what turning a buffer to a block that it does not hold leaves: it holds that block, or none after an error, and all else that is true stays so
pub record IsTurned {D T E : Type 0} (d : device.Ghosts D) (result : Result T E) (buffer block size : ℕ) (before now : Cache D) (lasts lasts_now shares_now : List (Option ℕ)) (copies_now : List ℕ) : Type 0 where
  pub ok : OnOk result (lasts_now ≡ slice_set lasts buffer (Some block))
  pub err : OnErr result (lasts_now ≡ slice_set lasts buffer None)
  pub copies : AreCopies (to_copy d.lends (d.bytes now.device)) copies_now lasts_now shares_now size
  pub shared : AreShared now.held lasts_now shares_now
  pub read : IsRead d block result before now
  pub since : (many : ℕ) (made : Made) → block < many → Since many before.blocks before.held made (d.counts before.device) → Since many now.blocks now.held made (d.counts now.device)

-- and after one was written, in part or whole: all is as it was, and after an error the block is given up
abbrev pub HeldWritten : {D T E : Type 0} → Result T E → ℕ → Cache D → Cache D → Type 0
HeldWritten result block before now = MatchResult result (λ _. now.held ≡ before.held) (λ _. now.held ≡ without block before.held)

-- new ones over a device with these counts: the cache keeps no block yet, and no buffer holds one
abbrev pub new_blocks : {D : Type 0} → D → Counts → ℕ → ℕ → ℕ → ℕ → Blocks D
new_blocks device counts blocks size many buffers =
    record {
      cache = record { device = device; held = []; blocks = blocks; size = size };
      lasts = replicate buffers None;
      many = many;
      made = record { reads = counts.reads; faults = counts.faults };
    }
