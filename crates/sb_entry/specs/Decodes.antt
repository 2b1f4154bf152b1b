-- What a decoding answers.
use Rattle.std.specs.Prelude.{◌≡◌, ℕ, Result, Ok, Err}
use Rattle.sb_log.specs.declared.entries.Entry.{Entry}
use Rattle.sb_entry.specs.declared.refused.EntryRefused.{EntryRefused}
use Rattle.sb_entry.specs.declared.refused.EntryRefused.TheVariants.{BadEntry, OutOfMemory}

-- an entry or a place is what reading gives; want of memory may come at any time
abbrev pub Decodes : Result Entry EntryRefused → Result Entry ℕ → Type 0
Decodes (Ok entry) read = read ≡ Ok entry
Decodes (Err (BadEntry at)) read = read ≡ Err at
Decodes (Err OutOfMemory) read = Unit {0}
