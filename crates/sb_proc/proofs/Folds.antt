-- Loops that end at the first fault.
use Rattle.std.proofs.Common.{◌≡◌, ℕ, ◌+◌, ◌<◌, ◌≤◌, List, [], ◌∷◌, length, get_or, drop, map, Result, Ok, Err, refl, sym, ap, ◌∙◌}
use Rattle.std.proofs.lemmas.List.{at_drop_more, at_drop_all}
use Rattle.sb_value.specs.declared.fault.Fault.{Fault}
use Rattle.sb_value.specs.declared.fault.Fault.TheVariants as fault
use Rattle.sb_value.specs.Faults.{and_then, Gives, GivesItems}
use Rattle.sb_proc.specs.Folds.{try_fold}

-- an answer under what goes on with it
pub then_same : {A B : Type 0} (r : Result A Fault) (f g : A → Result B Fault) → ((x : A) → f x ≡ g x) → and_then r f ≡ and_then r g
then_same (Ok x) f g same = same x
then_same (Err e) f g same = refl

-- over what a function makes of each element
pub fold_map : {A B C : Type 0} (f : B → C → Result B Fault) (g : A → C) (b : B) (xs : List A) →
    try_fold f b (map g xs) ≡ try_fold (λ c x. f c (g x)) b xs
fold_map f g b [] = refl
fold_map f g b (x ∷ xs) = then_same (f b (g x)) (λ d. try_fold f d (map g xs)) (λ d. try_fold (λ c y. f c (g y)) d xs) (λ d. fold_map f g d xs)

-- by the same steps
pub fold_same : {A B : Type 0} (f g : B → A → Result B Fault) → ((b : B) (x : A) → f b x ≡ g b x) → (b : B) (xs : List A) →
    try_fold f b xs ≡ try_fold g b xs
fold_same f g same b [] = refl
fold_same f g same b (x ∷ xs) =
    ap (λ r. and_then r (λ c. try_fold f c xs)) (same b x) ∙ then_same (g b x) (λ c. try_fold f c xs) (λ c. try_fold g c xs) (λ c. fold_same f g same c xs)

-- where the element at an index is reached
pub fold_at : {A B : Type 0} (f : B → A → Result B Fault) (b : B) (xs : List A) (i : ℕ) (x : A) → i < length xs → x ≡ get_or xs i x →
    try_fold f b (drop i xs) ≡ and_then (f b x) (λ c. try_fold f c (drop (i + 1) xs))
fold_at f b xs i x h is =
    at_drop_more (try_fold f b) xs i x h ∙ ap (λ y. and_then (f b y) (λ c. try_fold f c (drop (i + 1) xs))) (sym is)

-- an element that is computed is passed by
pub fold_goes : {A B : Type 0} (f : B → A → Result B Fault) (start b c : B) (xs : List A) (i : ℕ) (x : A) →
    try_fold f b (drop i xs) ≡ try_fold f start xs → i < length xs → x ≡ get_or xs i x → f b x ≡ Ok c →
    try_fold f c (drop (i + 1) xs) ≡ try_fold f start xs
fold_goes f start b c xs i x so_far h is came =
    sym (fold_at f b xs i x h is ∙ ap (λ r. and_then r (λ d. try_fold f d (drop (i + 1) xs))) came) ∙ so_far

-- behind the last element
pub fold_ends : {A B : Type 0} (f : B → A → Result B Fault) (start b : B) (xs : List A) (i : ℕ) →
    try_fold f b (drop i xs) ≡ try_fold f start xs → length xs ≤ i → try_fold f start xs ≡ Ok b
fold_ends f start b xs i so_far h = sym so_far ∙ at_drop_all (try_fold f b) xs i h

-- an answer in the place of another that has the same faults
pub gives_fault : {A B : Type 0} (r : Result A Fault) (q : Result B Fault) (e : Fault) → ((f : Fault) → r ≡ Err f → q ≡ Err f) →
    Gives r (Err e) → Gives q (Err e)
gives_fault r q (fault.NoVariable name) same h = same _ h
gives_fault r q (fault.WrongKind kind) same h = same _ h
gives_fault r q (fault.Overflow left) same h = same _ h
gives_fault r q fault.OutOfMemory same h = tt

-- a fault of what comes first
pub then_fails : {A B : Type 0} (r : Result A Fault) (k : A → Result B Fault) (e : Fault) → Gives r (Err e) → Gives (and_then r k) (Err e)
then_fails r k e h = gives_fault r (and_then r k) e (λ f is. ap (λ q. and_then q k) is) h

-- a fault ends the loop
pub fold_fails : {A B : Type 0} (f : B → A → Result B Fault) (start b : B) (xs : List A) (i : ℕ) (x : A) (e : Fault) →
    try_fold f b (drop i xs) ≡ try_fold f start xs → i < length xs → x ≡ get_or xs i x → Gives (f b x) (Err e) →
    Gives (try_fold f start xs) (Err e)
fold_fails f start b xs i x e so_far h is g =
    gives_fault (f b x) (try_fold f start xs) e
    (λ d fails. sym so_far ∙ fold_at f b xs i x h is ∙ ap (λ r. and_then r (λ c. try_fold f c (drop (i + 1) xs))) fails) g

-- a fault of a list is one of its elements
pub items_fault : {A : Type 0} (said : Result (List A) Fault) (e : Fault) → Gives said (Err e) → GivesItems said (Err e)
items_fault said (fault.NoVariable name) h = h
items_fault said (fault.WrongKind kind) h = h
items_fault said (fault.Overflow left) h = h
items_fault said fault.OutOfMemory h = tt
