-- Lengths that stand still at the end of their type.
use Rattle.std.specs.Prelude.{ℕ, ◌-◌, ◌^◌, min}

-- a number, or the greatest that a u64 holds
abbrev pub capped : ℕ → ℕ
capped n = min n (2 ^ 64 - 1)
