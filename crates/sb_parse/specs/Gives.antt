-- What a function that reads ensures.
use Rattle.std.specs.Prelude.{◌≡◌, Result, Ok, Err}
use Rattle.sb_grammar.specs.Rules.{Toks, Read, bad, barred_at}
use Rattle.sb_parse.specs.declared.fault.Fault.{Fault}
use Rattle.sb_parse.specs.declared.fault.Fault.TheVariants.{Memory, Bad, Unsupported}

abbrev pub Fails : {A : Type 0} → Fault → Read A → Type 0
Fails Memory read = Unit {0}
Fails (Bad n) read = read ≡ Err (bad n)
Fails (Unsupported n w) read = read ≡ Err (barred_at n w)

-- what a rule reads, unless memory ran out
abbrev pub Gives : {A B : Type 0} → (B → A × Toks) → Result B Fault → Read A → Type 0
Gives view (Ok x) read = read ≡ Ok (view x)
Gives view (Err e) read = Fails e read
