-- What the source and the sink in memory have and have counted.
use Rattle.std.specs.Prelude.{ℕ, ◌+◌, ◌-◌, ◌^◌, ◌==◌, Bool, List, drop, min}
use Rattle.std.specs.List.{list_any}
use Rattle.sb_outside.specs.declared.memory.MemSource.{MemSource}
use Rattle.sb_outside.specs.declared.memory.MemSink.{MemSink}

-- the bytes behind the place that was reached
abbrev pub source_left : MemSource → List ℕ
source_left s = drop s.at s.bytes.items

abbrev pub source_faults : MemSource → ℕ
source_faults s = s.faults

-- the number of the call behind so many is listed; a count stands still at its type's end
abbrev pub is_listed : ℕ → List ℕ → Bool
is_listed calls fail = list_any (λ n. n == min (calls + 1) (2 ^ 64 - 1)) fail

abbrev pub source_fails_next : MemSource → Bool
source_fails_next s = is_listed s.calls s.fail.items

-- the listed calls, and how many there were
abbrev pub source_listed : MemSource → List ℕ
source_listed s = s.fail.items

abbrev pub source_calls : MemSource → ℕ
source_calls s = s.calls

abbrev pub sink_written : MemSink → List ℕ
sink_written s = s.bytes.items

abbrev pub sink_faults : MemSink → ℕ
sink_faults s = s.faults

abbrev pub sink_listed : MemSink → List ℕ
sink_listed s = s.fail.items

abbrev pub sink_calls : MemSink → ℕ
sink_calls s = s.calls

abbrev pub sink_fails_next : MemSink → Bool
sink_fails_next s = is_listed s.calls s.fail.items
