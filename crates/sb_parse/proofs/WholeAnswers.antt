-- What follows of the answer for all tokens.
use Rattle.std.proofs.Common.{[], Some, None, Result, Ok, Err, subst}
use Rattle.std.specs.Prelude.{IfOk}
use Rattle.sb_grammar.specs.Rules.{Toks, Stop, bad, Rule}
use Rattle.sb_grammar.specs.Whole.{whole, IsGrammar}
use Rattle.sb_grammar.proofs.WholeLaws.{none_spelled, none_barred}
use Rattle.sb_parse.specs.declared.fault.Fault.{Fault}
use Rattle.sb_parse.specs.declared.fault.Fault.TheVariants.{Memory, Bad, Unsupported}
use Rattle.sb_parse.specs.Answers.{Answers, Names}

module _ {A : Type 0} (r : Rule A) (G : IsGrammar r) where
  pub read_is : (ts : Toks) (x : Result A Fault) → Answers x (whole r ts) → IfOk x (λ all. r.spells all ts [])
  read_is ts (Ok x) a = G.read_is_spelled ts x a
  read_is ts (Err e) a = tt

  pub names_is : (ts : Toks) (x : Result A Fault) → Answers x (whole r ts) → Names x r ts
  names_is ts (Ok x) a = tt
  names_is ts (Err Memory) a = tt
  names_is ts (Err (Bad n)) a = record { first = G.first_place ts n None a; unspelled = none_spelled r G ts (bad n) a; supported = none_barred r G ts n a }
  names_is ts (Err (Unsupported n w)) a =
      let word = G.barred_is_stated ts n w a in
      record { first = G.first_place ts n (Some w) a; some = G.barred_is_there ts n w word; word = word }

  pub only_is : (ts : Toks) (x : Result A Fault) → Answers x (whole r ts) → (all : A) → r.spells all ts [] → Answers x (Ok all)
  only_is ts x a all s = subst (λ (f : Result A Stop). Answers x f) (G.spelled_is_read ts all s) a
