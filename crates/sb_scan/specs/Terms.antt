-- By a contract that is there, this end of a conversation may send the type.
use Rattle.std.specs.Prelude.{Bool, false, List}
use Rattle.std.specs.Option.{option_map_or}
use Rattle.sb_log.specs.declared.entries.Entry.{Entry}
use Rattle.sb_model.specs.Sides.{Bytes}
use Rattle.sb_model.specs.Catalog.{find_contract, sender_of, may_be_sent_by}

abbrev pub is_sent_by : List Entry → Bytes → Bytes → Bool → Bool
is_sent_by log contract kind initiator =
    option_map_or (λ def. option_map_or (λ by. may_be_sent_by by initiator) (sender_of def kind) false) (find_contract log contract) false
