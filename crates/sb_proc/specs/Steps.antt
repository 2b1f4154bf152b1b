-- A turn of a machine, in parts: what the next statement stores and tests, and what then stands in its place.
use Rattle.std.specs.Prelude.{Bool, false, List, [], ◌∷◌, ◌++◌, Option, Some, None, codes, Result, Ok, Err}
use Rattle.sb_model.specs.Sides.{Bytes}
use Rattle.sb_grammar.specs.declared.tree.Statement.{Statement, out-Statement}
use Rattle.sb_grammar.specs.declared.tree.Statement.TheOpen.{Statement-F}
use Rattle.sb_value.specs.declared.fault.Fault.{Fault}
use Rattle.sb_value.specs.Faults.{and_then}
use Rattle.sb_proc.specs.declared.act.MachineFault.{MachineFault}
use Rattle.sb_proc.specs.declared.act.MachineFault.TheVariants as machine_fault
use Rattle.sb_proc.specs.Expressions.{holds}
use Rattle.sb_proc.specs.Machines.{Standing, standing, refusal_of}
use Rattle.sb_proc.specs.Requests.{Place, Asked, asked}
use Rattle.sb_proc.specs.Scopes.{Scope}
use Rattle.sb_proc.specs.Turns.{after_declare, after_set, branch}
use Rattle.sb_proc.specs.Words.{words_of}

-- the variables after what a statement stores, and whether what it tests holds
abbrev pub Stored : Type 0
Stored = Result (Scope × Bool) Fault

abbrev pub computed_at : Scope → Statement-F Statement → Stored
computed_at s (Statement-F.Declare all) = and_then (after_declare s all) (λ t. Ok (t, false))
computed_at s (Statement-F.Set name e) = and_then (after_set s name e) (λ t. Ok (t, false))
computed_at s (Statement-F.If condition taken passed) = and_then (holds s condition) (λ b. Ok (s, b))
computed_at s _ = Ok (s, false)

abbrev pub computed : Scope → Statement → Stored
computed s x = computed_at s (out-Statement x)

-- what is left when a statement is taken away, by whether its test holds
abbrev pub left_at : Bool → Statement-F Statement → List Statement → List Statement
left_at b (Statement-F.If condition taken passed) rest = branch taken passed b ++ rest
left_at b (Statement-F.Block all) rest = all ++ rest
left_at b Statement-F.Return rest = []
left_at b _ rest = rest

-- by what stands in the place of a statement, where it doesn't end its block
abbrev pub left_by : Option (List Statement) → List Statement → List Statement
left_by None rest = []
left_by (Some all) rest = all ++ rest

-- what is left behind a statement that was taken away, if there was one
abbrev pub left_behind : Bool → Option Statement → List Statement → List Statement
left_behind b None rest = rest
left_behind b (Some x) rest = left_at b (out-Statement x) rest

-- ---- of the statement that comes next

abbrev pub first_asked : Place → Scope → List Statement → Asked
first_asked p s [] = Ok None
first_asked p s (x ∷ rest) = asked p s x

abbrev pub next_asked : Standing → Asked
next_asked m = first_asked m.place m.scope m.rest

abbrev pub first_words : List Statement → Bytes
first_words [] = codes ""
first_words (x ∷ rest) = words_of x

abbrev pub next_words : Standing → Bytes
next_words m = first_words m.rest

abbrev pub first_computed : Scope → List Statement → Stored
first_computed s [] = Ok (s, false)
first_computed s (x ∷ rest) = computed s x

-- the machine with what was stored, beside the answer of the test
abbrev pub aside : Place → List Statement → Scope × Bool → Result (Standing × Bool) Fault
aside p rest r = Ok (standing p rest r.0, r.1)

abbrev pub next_computed : Standing → Result (Standing × Bool) Fault
next_computed m = and_then (first_computed m.scope m.rest) (aside m.place m.rest)

abbrev pub left : Bool → List Statement → List Statement
left b [] = []
left b (x ∷ rest) = left_at b (out-Statement x) rest

abbrev pub with_rest : Standing → List Statement → Standing
with_rest m rest = standing m.place rest m.scope

abbrev pub past_step : Bool → Standing → Standing
past_step b m = with_rest m (left b m.rest)

abbrev pub passing : Standing × Bool → Result Standing Fault
passing r = Ok (past_step r.1 r.0)

-- the whole turn
abbrev pub stepped : Standing → Result Standing Fault
stepped m = and_then (next_computed m) passing

abbrev pub refused_by : {A : Type 0} → Bytes → Result A Fault → Option MachineFault
refused_by words (Ok x) = None
refused_by words (Err f) = Some (machine_fault.Refused words (refusal_of f))

abbrev pub step_refused : Standing → Option MachineFault
step_refused m = refused_by (next_words m) (stepped m)
