-- How many cells the feeds of an aim have.
use Rattle.cola_merge.specs.declared.aims.Aim.{Aim}
use Rattle.cola_merge.specs.declared.aims.Ends.{Ends}
use Rattle.cola_merge.specs.Feeds.{feed_len}

-- the lengths of the three feeds
abbrev pub ends_of : Aim → Ends
ends_of aim = record { own = feed_len aim.own; incoming = feed_len aim.incoming; sample = feed_len aim.sample }
