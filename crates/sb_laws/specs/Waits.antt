-- Waits of readers lead in no circle.
use Rattle.std.specs.Prelude.{◌≡◌, ◌<◌, ℕ, List, Some}
use Rattle.std.specs.List.{AllByRecursion}
use Rattle.sb_log.specs.declared.identifiers.Who.{Who}
use Rattle.sb_model.specs.Transactions.{OpenTransaction}
use Rattle.sb_model.specs.Steps.{World, part}

-- a wait leads to a transaction of a greater rank
abbrev pub WaitsUp : (ℕ → ℕ) → OpenTransaction → Type 0
WaitsUp rank o = (on : ℕ) → o.waits_for ≡ Some on → rank o.tx < rank on

-- some ranks rise with each wait, so no chain of waits comes back to where it began
abbrev pub HasNoCircle : List OpenTransaction → Type 0
HasNoCircle opens = (rank : ℕ → ℕ) × AllByRecursion (WaitsUp rank) opens

abbrev pub WaitsInNoCircle : World → Type 0
WaitsInNoCircle w = (x : Who) → HasNoCircle (part w x).open_txns
