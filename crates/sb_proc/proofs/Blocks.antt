-- Every block can be done.
use Rattle.std.proofs.Common.{◌≡◌, Bool, true, false, List, [], ◌∷◌, ◌++◌, map, Option, Some, None, Result, Ok, Err, refl, sym, ap, ◌∙◌}
use Rattle.std.specs.List.{list_any}
use Rattle.std.specs.Prelude.{option_map}
use Rattle.sb_log.specs.declared.refusals.Refusal.TheVariants as refusal
use Rattle.sb_grammar.specs.declared.tree.Statement.{Statement, out-Statement, roll-Statement, map-Statement, out-roll-Statement}
use Rattle.sb_grammar.specs.declared.tree.Statement.TheOpen.{Statement-F}
use Rattle.sb_grammar.specs.declared.tree.Statement.TheFolds.{ind-Statement}
use Rattle.sb_value.specs.declared.fault.Fault.{Fault}
use Rattle.sb_proc.specs.Does as does
use Rattle.sb_proc.specs.Does.{Deed, Does, Replied, Denied, Failed}
use Rattle.sb_proc.specs.Expressions.{holds}
use Rattle.sb_proc.specs.Laws.{BlocksCanBeDone, is_reply}
use Rattle.sb_proc.specs.Requests.{Place, Asked, asked_at}
use Rattle.sb_proc.specs.Scopes.{Scope}
use Rattle.sb_proc.specs.Turns.{Turn, Goes, Returns, Asks, Refuses, turn, turn_at, turned, asking, branch, after_declare, after_set}
use Rattle.sb_proc.specs.Words.{words_of}

-- the statements can be done from any variables
abbrev Can : Place → Bool → List Statement → Type 0
Can p b xs = (s : Scope) → (deeds : List Deed) × (after : Scope) × Does p b xs s deeds after × (list_any is_reply deeds ≡ false)

-- a statement can be done where those behind it can
abbrev CanBefore : Place → Bool → Statement → Type 0
CanBefore p b x = (rest : List Statement) → Can p b rest → Can p b (x ∷ rest)

-- what a turn leaves to be done can be done
abbrev CanAfter : Place → Bool → List Statement → Turn → Type 0
CanAfter p b rest (Goes xs t) = Can p b (xs ++ rest)
CanAfter p b rest _ = Unit {0}

can_turn : (p : Place) (b : Bool) (x : Statement) (rest : List Statement) (s : Scope) (t : Turn) → turn p s x ≡ t → CanAfter p b rest t →
    (deeds : List Deed) × (after : Scope) × Does p b (x ∷ rest) s deeds after × (list_any is_reply deeds ≡ false)
can_turn p b x rest s (Goes xs t) e can = let d = can t in (d.0, d.1, does.goes e d.2, d.3)
can_turn p b x rest s Returns e can = ([], s, does.returns e, refl)
can_turn p b x rest s (Asks r) e can = (Denied r refusal.OutOfMemory ∷ [], s, does.denied e, refl)
can_turn p b x rest s (Refuses f) e can = (Failed (words_of x) f ∷ [], s, does.refuses e, refl)

after_stored : (p : Place) (b : Bool) (rest : List Statement) → Can p b rest → (r : Result Scope Fault) → CanAfter p b rest (turned r (Goes []))
after_stored p b rest can (Ok t) = can
after_stored p b rest can (Err f) = tt

after_asked : (p : Place) (b : Bool) (rest : List Statement) → Can p b rest → (s : Scope) (a : Asked) → CanAfter p b rest (asking s a)
after_asked p b rest can s (Ok (Some r)) = tt
after_asked p b rest can s (Ok None) = can
after_asked p b rest can s (Err f) = tt

after_test : (p : Place) (b : Bool) (rest : List Statement) → Can p b rest → (s : Scope) (r : Result Bool Fault) (taken : Statement) (passed : Option ((x : Statement) × CanBefore p b x)) →
    CanBefore p b taken → CanAfter p b rest (turned r (λ holds. Goes (branch taken (option_map (λ e. e.0) passed) holds) s))
after_test p b rest can s (Ok true) taken None first = first rest can
after_test p b rest can s (Ok true) taken (Some passed) first = first rest can
after_test p b rest can s (Ok false) taken None first = can
after_test p b rest can s (Ok false) taken (Some passed) first = passed.1 rest can
after_test p b rest can s (Err f) taken passed first = tt

after_all : (p : Place) (b : Bool) (rest : List Statement) → Can p b rest → (all : List ((x : Statement) × CanBefore p b x)) → Can p b (map (λ e. e.0) all ++ rest)
after_all p b rest can [] = can
after_all p b rest can (x ∷ all) = x.1 (map (λ e. e.0) all ++ rest) (after_all p b rest can all)

-- a statement with the proof that it can be done
abbrev Done : Place → Bool → Type 0
Done p b = (x : Statement) × CanBefore p b x

abbrev of_done : (p : Place) (b : Bool) → Statement-F (Done p b) → Statement-F Statement
of_done p b = map-Statement (Done p b) Statement (λ e. e.0)

can_layer : (p : Place) (b : Bool) (x : Statement) (y : Statement-F (Done p b)) → of_done p b y ≡ out-Statement x → CanBefore p b x
can_layer p b x (Statement-F.Declare all) is rest can s =
    can_turn p b x rest s (turn_at p s (Statement-F.Declare all)) (ap (turn_at p s) (sym is)) (after_stored p b rest can (after_declare s all))
can_layer p b x (Statement-F.Set name e) is rest can s =
    can_turn p b x rest s (turn_at p s (Statement-F.Set name e)) (ap (turn_at p s) (sym is)) (after_stored p b rest can (after_set s name e))
can_layer p b x (Statement-F.SetNoCount on) is rest can s = can_turn p b x rest s (Goes [] s) (ap (turn_at p s) (sym is)) can
can_layer p b x (Statement-F.If condition taken None) is rest can s =
    can_turn p b x rest s (turn_at p s (of_done p b (Statement-F.If condition taken None))) (ap (turn_at p s) (sym is))
    (after_test p b rest can s (holds s condition) taken.0 None taken.1)
can_layer p b x (Statement-F.If condition taken (Some passed)) is rest can s =
    can_turn p b x rest s (turn_at p s (of_done p b (Statement-F.If condition taken (Some passed)))) (ap (turn_at p s) (sym is))
    (after_test p b rest can s (holds s condition) taken.0 (Some passed) taken.1)
can_layer p b x (Statement-F.Block all) is rest can s =
    can_turn p b x rest s (turn_at p s (of_done p b (Statement-F.Block all))) (ap (turn_at p s) (sym is)) (after_all p b rest can all)
can_layer p b x Statement-F.Return is rest can s = can_turn p b x rest s Returns (ap (turn_at p s) (sym is)) tt
can_layer p b x y is rest can s =
    can_turn p b x rest s (turn_at p s (of_done p b y)) (ap (turn_at p s) (sym is)) (after_asked p b rest can s (asked_at p s (of_done p b y)))

can_before : (p : Place) (b : Bool) (x : Statement) → CanBefore p b x
can_before p b = ind-Statement (CanBefore p b) (λ x y is. can_layer p b (roll-Statement x) y (is ∙ sym (out-roll-Statement x)))

can_all : (p : Place) (b : Bool) (xs : List Statement) → Can p b xs
can_all p b [] s = ([], s, does.ends, refl)
can_all p b (x ∷ xs) s = can_before p b x xs (can_all p b xs) s

pub blocks_can_be_done : BlocksCanBeDone
blocks_can_be_done p b xs s = can_all p b xs s
