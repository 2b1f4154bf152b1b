-- Chains of refusals: the first whose condition holds is the answer.
use Rattle.std.specs.Prelude.{Bool, if◌then◌else◌, Option, Some, None, Result, Ok, Err}
use Rattle.sb_log.specs.declared.refusals.Refusal.{Refusal}

-- go on unless the condition holds
abbrev pub refuse_if : {A : Type 0} → Bool → Refusal → Result A Refusal → Result A Refusal
refuse_if test refusal rest = if test then Err refusal else rest

abbrev pub unless_refused : {A : Type 0} → Option Refusal → Result A Refusal → Result A Refusal
unless_refused None rest = rest
unless_refused (Some refusal) rest = Err refusal

-- go on with what is there
abbrev pub need : {A B : Type 0} → Option A → Refusal → (A → Result B Refusal) → Result B Refusal
need None refusal rest = Err refusal
need (Some x) refusal rest = rest x

abbrev pub and_then : {A B : Type 0} → Result A Refusal → (A → Result B Refusal) → Result B Refusal
and_then (Ok x) rest = rest x
and_then (Err refusal) rest = Err refusal

-- the first refusal of two
abbrev pub or_else : Option Refusal → Option Refusal → Option Refusal
or_else None second = second
or_else (Some refusal) second = Some refusal

abbrev pub when : Bool → Refusal → Option Refusal
when test refusal = if test then Some refusal else None
