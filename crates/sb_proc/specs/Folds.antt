-- What goes over a list, and ends at the first fault.
use Rattle.std.specs.Prelude.{List, [], ◌∷◌, Result, Ok}
use Rattle.sb_value.specs.declared.fault.Fault.{Fault}
use Rattle.sb_value.specs.Faults.{and_then}

-- each element in turn is put to what came of those before it
abbrev pub try_fold : {A B : Type 0} → (B → A → Result B Fault) → B → List A → Result B Fault
try_fold f b [] = Ok b
try_fold f b (x ∷ xs) = and_then (f b x) (λ c. try_fold f c xs)
