-- A sink in memory.
use Rattle.std.specs.Prelude.{ℕ, List, length, take}
use Rattle.surf_base.specs.declared.memory_sink.MemorySink.{MemorySink}

-- what was written
abbrev pub sink_text : MemorySink → List ℕ
sink_text sink = take sink.filled sink.buffer.items

-- how many bytes it can hold
abbrev pub sink_room : MemorySink → ℕ
sink_room sink = length sink.buffer.items

-- how often it was called
abbrev pub sink_calls : MemorySink → ℕ
sink_calls sink = sink.calls.made

-- the numbers of the calls that fail
abbrev pub sink_failing : MemorySink → List ℕ
sink_failing sink = sink.calls.failing.items

-- how often writes have failed
abbrev pub sink_faults : MemorySink → ℕ
sink_faults sink = sink.faults
