-- What the laws of chains say.
use Rattle.std.specs.Prelude.{◌≡◌, ◌≢◌}
use Rattle.cola_cell.specs.Spent.{Buffer, Search}
use Rattle.cola_device.specs.declared.device.Device as device
use Rattle.cola_chain.specs.Account.{IsPaid}
use Rattle.cola_chain.specs.Contents.{Contents, held_of, spent_of, kept_of}

module _ {D : Type 0} (d : device.Ghosts D) where
  -- what reads by way of the block of searches leave as it was: the cells, what a chain keeps,
  -- and the block that each other reader holds
  pub record OnlySearched (old new : Contents D) : Type 0 where
    pub held_is : held_of d.bytes new ≡ held_of d.bytes old
    pub kept_is : kept_of d.bytes d.counts d.kept new ≡ kept_of d.bytes d.counts d.kept old
    pub lasts_are : (buffer : Buffer) → buffer ≢ Search →
        (spent_of d.counts new).lasts buffer ≡ (spent_of d.counts old).lasts buffer

  -- such reads leave the account of a chain paid
  abbrev pub SearchesAreNotCounted : Type 0
  SearchesAreNotCounted = (old new : Contents D) → OnlySearched old new →
      IsPaid d.bytes d.counts old → IsPaid d.bytes d.counts new
