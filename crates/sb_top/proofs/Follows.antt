-- How a history follows commands, command by command.
use Rattle.std.proofs.Common.{◌≡◌, ℕ, suc, zero, ◌+◌, ◌-◌, ◌<◌, ◌≤◌, arith, true, false, List, [], ◌∷◌, ◌++◌, Option, None, Some, Result, Ok, Err, refl, sym, ap, ◌∙◌, subst, append_assoc, append-nil}
use Rattle.std.specs.Prelude.{MatchBool, IsErrOf}
use Rattle.sb_grammar.specs.declared.tree.Statement.{Statement}
use Rattle.sb_instance.specs.declared.handing.Pending.{Pending}
use Rattle.sb_log.specs.declared.identifiers.Actor.TheVariants as actor
use Rattle.sb_log.specs.declared.identifiers.SideId.{SideId}
use Rattle.sb_log.specs.declared.steps.Answer.TheVariants as answer
use Rattle.sb_log.specs.declared.steps.Step.{Step}
use Rattle.sb_log.specs.declared.steps.Verdict.{Verdict}
use Rattle.sb_model.specs.Histories.{after, next}
use Rattle.sb_model.specs.Steps.{World, verdict_told}
use Rattle.sb_script.specs.declared.commands.Command.{Command}
use Rattle.sb_script.specs.declared.commands.Command.TheVariants as command
use Rattle.sb_top.specs.Following.{Cleans, CleansSide, Does, DoesAll, Follows, FollowsSoFar, HandsOver, InTurn, Passes, PassesBy, begun, handed_over, is_taken_in, not_yet, pending, unbuilt}
use Rattle.sb_top.specs.Runs.{Begins, GoesBefore, Made, MadeWith, OneMade, WasToCome, where_done}
use Rattle.sb_top.proofs.Batches.{can_go_on}
use Rattle.sb_proc.specs.Scopes.{Scope}
use Rattle.sb_top.specs.declared.history.Stopped.{Stopped}
use Rattle.sb_top.specs.declared.history.Stopped.TheVariants as stopped

abbrev nothing : List Step
nothing = []

-- ---- every command can be done

pub can_hand_over : (s : SideId) (number count : ℕ) → (steps : List Step) × HandsOver s number count steps
can_hand_over s number zero = ([], refl)
can_hand_over s number (suc more) = (handed_over s number answer.Done ∷ [], (refl, refl))

can_in_turn : {X : Type 0} (does : World → X → List Step → Type 0) → ((w : World) (x : X) → (steps : List Step) × does w x steps)
    → (w : World) (xs : List X) → (steps : List Step) × InTurn does w xs steps
can_in_turn does can w [] = ([], refl)
can_in_turn does can w (x ∷ xs) =
    let mine = can w x in
    let rest = can_in_turn does can (after w mine.0) xs in
    (mine.0 ++ rest.0, (mine.0, rest.0, refl, mine.1, rest.1))

pub can_clean_side : (w : World) (p : Pending) → (steps : List Step) × CleansSide w p steps
can_clean_side w p = can_hand_over p.side (p.accepted + 1) (p.numbered - p.accepted)

pub can_clean : (w : World) → (steps : List Step) × Cleans w steps
can_clean w = can_in_turn CleansSide can_clean_side w (pending w)

can_pass_by : (o : Option (List ℕ)) → (steps : List Step) × PassesBy o steps
can_pass_by None = ([], refl)
can_pass_by (Some word) = (not_yet actor.World word ∷ [], refl)

can_pass : (c : Command) → (steps : List Step) × Passes c steps
can_pass c = can_pass_by (unbuilt c)

pub can_do : (w : World) (s : Scope) (c : Command) → (steps : List Step) × (t : Scope) × Does w s c steps t
can_do w s (command.Batch text block) = can_go_on (begun s text block)
can_do w s command.Clean = let all = can_clean w in (all.0, s, (all.1, refl))
can_do w s c = let all = can_pass c in (all.0, s, (all.1, refl))

can_do_all : (w : World) (s : Scope) (cs : List Command) → (steps : List Step) × DoesAll w s cs steps
can_do_all w s [] = ([], refl)
can_do_all w s (c ∷ cs) =
    let mine = can_do w s c in
    let rest = can_do_all (after w mine.0) mine.1 cs in
    (mine.0 ++ rest.0, (mine.0, rest.0, mine.1, refl, mine.2, rest.1))

-- ---- all of them, or a beginning

none_is : (x : Step) (xs : List Step) → x ∷ xs ≡ [] → ⊥
none_is x xs e = cc

-- so many steps may have been left out, whatever stopped
some_to_come : (why : Stopped) (x : Step) (xs : List Step) → WasToCome why (x ∷ xs)
some_to_come stopped.HistoryFull x xs = none_is x xs
some_to_come stopped.OutOfMemory x xs = tt

more_to_come : (why : Stopped) (xs ys : List Step) → WasToCome why xs → WasToCome why (xs ++ ys)
more_to_come stopped.HistoryFull [] ys h = absurd (h refl)
more_to_come stopped.HistoryFull (x ∷ xs) ys h = none_is x (xs ++ ys)
more_to_come stopped.OutOfMemory xs ys h = tt

-- what was made of a command can be completed
pub completed : {T : Type 0} (r : Result T Stopped) (P : List Step → Type 0) (steps : List Step) → Made r P steps → Begins stopped.OutOfMemory P steps
completed (Ok x) P steps h = ([], tt, subst P (sym (append-nil steps)) h)
completed (Err why) P steps h = (h.0, tt, h.2)

pub so_far : (why : Stopped) (commands : List Command) (h : List Step) → Begins why (Follows commands) h → FollowsSoFar commands h
so_far why commands h b = (b.0, b.2)

-- a beginning of the rest is a beginning of the whole
pub begins_behind : (why : Stopped) (rest whole : List Step → Type 0) (xs mine : List Step) → GoesBefore rest whole xs → Begins why rest mine → Begins why whole (xs ++ mine)
begins_behind why rest whole xs mine before begun =
    (begun.0, begun.1, subst whole (sym (append_assoc xs mine begun.0)) (before (mine ++ begun.0) begun.2))

-- nothing of it was made, for want of memory
pub none_begun : (P : List Step → Type 0) → ((steps : List Step) × P steps) → Begins stopped.OutOfMemory P []
none_begun P can = (can.0, tt, can.1)

-- ---- one after the other

-- the next one was done
pub done_next : {X : Type 0} (does : World → X → List Step → Type 0) (w v u : World) (xs : List X) (x : X) (ys : List X) (all : List Step → Type 0) (steps mine : List Step)
    → xs ≡ x ∷ ys → GoesBefore (InTurn does v xs) all steps → does v x mine → u ≡ after v mine → GoesBefore (InTurn does u ys) all (steps ++ mine)
done_next does w v u xs x ys all steps mine is before done state = λ more rest.
    subst all (sym (append_assoc steps mine more))
    (before (mine ++ more) (subst (λ zs. InTurn does v zs (mine ++ more)) (sym is) (mine, more, refl, done, subst (λ z. InTurn does z ys more) state rest)))

-- nothing is to come
pub done_all : {X : Type 0} (does : World → X → List Step → Type 0) (v : World) (xs : List X) (all : List Step → Type 0) (steps : List Step)
    → xs ≡ [] → GoesBefore (InTurn does v xs) all steps → all steps
done_all does v xs all steps is before =
    subst all (append-nil steps) (before [] (subst (λ zs. InTurn does v zs []) (sym is) refl))

-- the next one was begun
pub begun_next : {X : Type 0} (why : Stopped) (does : World → X → List Step → Type 0) → ((w : World) (x : X) → (steps : List Step) × does w x steps)
    → (v : World) (xs : List X) (x : X) (ys : List X) (all : List Step → Type 0) (steps mine : List Step)
    → xs ≡ x ∷ ys → GoesBefore (InTurn does v xs) all steps → Begins why (does v x) mine → Begins why all (steps ++ mine)
begun_next why does can v xs x ys all steps mine is before begun =
    let whole = mine ++ begun.0 in
    let rest = can_in_turn does can (after v whole) ys in
    let done : InTurn does v xs (mine ++ (begun.0 ++ rest.0)) =
    subst (InTurn does v xs) (append_assoc mine begun.0 rest.0) (subst (λ zs. InTurn does v zs (whole ++ rest.0)) (sym is) (whole, rest.0, refl, begun.2, rest.1)) in
    begins_behind why (InTurn does v xs) all steps mine before (begun.0 ++ rest.0, more_to_come why begun.0 rest.0 begun.1, done)

-- so it is for an equal reason
pub begun_next_as : {X : Type 0} (why cause : Stopped) → why ≡ cause → (does : World → X → List Step → Type 0) → ((w : World) (x : X) → (steps : List Step) × does w x steps)
    → (v : World) (xs : List X) (x : X) (ys : List X) (all : List Step → Type 0) (steps mine : List Step)
    → xs ≡ x ∷ ys → GoesBefore (InTurn does v xs) all steps → Begins cause (does v x) mine → Begins why all (steps ++ mine)
begun_next_as why cause same does can v xs x ys all steps mine is before begun =
    subst (λ w. Begins w all (steps ++ mine)) (sym same) (begun_next cause does can v xs x ys all steps mine is before begun)

-- ---- commands

-- the next command was done
pub command_next : (w v : World) (s t : Scope) (cs : List Command) (c : Command) (rest : List Command) (whole : List Step → Type 0) (steps mine : List Step)
    → cs ≡ c ∷ rest → GoesBefore (DoesAll w s cs) whole steps → Does w s c mine t → v ≡ after w mine → GoesBefore (DoesAll v t rest) whole (steps ++ mine)
command_next w v s t cs c rest whole steps mine is before done state = λ more later.
    subst whole (sym (append_assoc steps mine more))
    (before (mine ++ more) (subst (λ z. DoesAll w s z (mine ++ more)) (sym is) (mine, more, t, refl, done, subst (λ z. DoesAll z t rest more) state later)))

-- no command is left
pub commands_done : (w : World) (s : Scope) (cs : List Command) (whole : List Step → Type 0) (steps : List Step) → cs ≡ [] → GoesBefore (DoesAll w s cs) whole steps → whole steps
commands_done w s cs whole steps is before = subst whole (append-nil steps) (before [] (subst (λ z. DoesAll w s z nothing) (sym is) refl))

-- the next command was begun
pub command_begun : (why : Stopped) (w : World) (s : Scope) (cs : List Command) (c : Command) (rest : List Command) (whole : List Step → Type 0) (steps mine : List Step)
    → cs ≡ c ∷ rest → GoesBefore (DoesAll w s cs) whole steps → Begins why (λ all. (t : Scope) × Does w s c all t) mine → Begins why whole (steps ++ mine)
command_begun why w s cs c rest whole steps mine is before begun =
    let all = mine ++ begun.0 in
    let later = can_do_all (after w all) begun.2.0 rest in
    let done : DoesAll w s cs (mine ++ (begun.0 ++ later.0)) =
    subst (DoesAll w s cs) (append_assoc mine begun.0 later.0) (subst (λ z. DoesAll w s z (all ++ later.0)) (sym is) (all, later.0, begun.2.0, refl, begun.2.1, later.1)) in
    begins_behind why (DoesAll w s cs) whole steps mine before (begun.0 ++ later.0, more_to_come why begun.0 later.0 begun.1, done)

-- what was made of a command, with what it leaves
pub made_with : {X : Type 0} (r : Result X Stopped) (P : X → List Step → Type 0) (steps : List Step) → MadeWith r P steps → Begins stopped.OutOfMemory (λ all. (x : X) × P x all) steps
made_with (Ok x) P steps h = ([], tt, (x, subst (P x) (sym (append-nil steps)) h))
made_with (Err why) P steps h = (h.0, tt, h.2)

-- ---- what isn't built

-- nothing was made of a command that is refused
pub pass_cut : (why : Stopped) (o : Option (List ℕ)) (word : List ℕ) → o ≡ Some word → Begins why (PassesBy o) []
pass_cut why o word is =
    subst (λ z. Begins why (PassesBy z) []) (sym is) (not_yet actor.World word ∷ [], some_to_come why (not_yet actor.World word) [], refl)

-- what was made of a command that is refused
pub made_of_refused : {T : Type 0} (r : Result T Stopped) (o : Option (List ℕ)) (word : List ℕ) (steps : List Step) → o ≡ Some word → OneMade (not_yet actor.World word) r steps → Made r (PassesBy o) steps
made_of_refused (Ok x) o word steps is h = subst (λ z. PassesBy z steps) (sym is) h
made_of_refused (Err why) o word steps is h = subst (Begins why (PassesBy o)) (sym h) (pass_cut why o word is)

-- ---- the messages of a side

-- all from a place on, and the rest behind it
left_of : (place end : ℕ) → place < end → end - place ≡ suc (end - (place + 1))
left_of place end h = omega arith

-- the next message was taken in
pub hand_next : (s : SideId) (place end : ℕ) (v : Verdict) (whole : List Step → Type 0) (xs ys : List Step) → place < end → is_taken_in v ≡ true
    → GoesBefore (HandsOver s (place + 1) (end - place)) whole xs → ys ≡ handed_over s (place + 1) (verdict_told v) ∷ []
    → GoesBefore (HandsOver s (place + 1 + 1) (end - (place + 1))) whole (xs ++ ys)
hand_next s place end v whole xs ys inside taken before is = λ more rest.
    let step = handed_over s (place + 1) (verdict_told v) in
    let done : HandsOver s (place + 1) (end - place) (step ∷ more) =
    subst (λ k. HandsOver s (place + 1) k (step ∷ more)) (sym (left_of place end inside))
    (refl, subst (λ b. MatchBool b (HandsOver s (place + 1 + 1) (end - (place + 1)) more) (more ≡ [])) (sym taken) rest) in
    subst whole (ap (λ z. xs ++ (z ++ more)) (sym is) ∙ sym (append_assoc xs ys more)) (before (step ∷ more) done)

-- the next message was not taken in, and ends the side's
pub hand_last : (s : SideId) (place end : ℕ) (v : Verdict) (whole : List Step → Type 0) (xs ys : List Step) → place < end → is_taken_in v ≡ false
    → GoesBefore (HandsOver s (place + 1) (end - place)) whole xs → ys ≡ handed_over s (place + 1) (verdict_told v) ∷ [] → whole (xs ++ ys)
hand_last s place end v whole xs ys inside taken before is =
    let step = handed_over s (place + 1) (verdict_told v) in
    let done : HandsOver s (place + 1) (end - place) (step ∷ []) =
    subst (λ k. HandsOver s (place + 1) k (step ∷ [])) (sym (left_of place end inside))
    (refl, subst (λ b. MatchBool b (HandsOver s (place + 1 + 1) (end - (place + 1)) []) (nothing ≡ [])) (sym taken) refl) in
    subst (λ z. whole (xs ++ z)) (sym is) (before (step ∷ []) done)

-- no message is left
pub hand_none : (s : SideId) (place end : ℕ) (whole : List Step → Type 0) (xs : List Step) → end ≤ place
    → GoesBefore (HandsOver s (place + 1) (end - place)) whole xs → whole xs
hand_none s place end whole xs past before =
    let none : end - place ≡ 0 = omega arith in
    subst whole (append-nil xs) (before [] (subst (λ k. HandsOver s (place + 1) k nothing) (sym none) refl))

-- the next message wasn't handed over
pub hand_cut : (why : Stopped) (s : SideId) (place end : ℕ) (whole : List Step → Type 0) (xs ys : List Step) → place < end
    → GoesBefore (HandsOver s (place + 1) (end - place)) whole xs → ys ≡ [] → Begins why whole (xs ++ ys)
hand_cut why s place end whole xs ys inside before is =
    let step = handed_over s (place + 1) answer.Done in
    let done : HandsOver s (place + 1) (end - place) (step ∷ []) = subst (λ k. HandsOver s (place + 1) k (step ∷ [])) (sym (left_of place end inside)) (refl, refl) in
    begins_behind why (HandsOver s (place + 1) (end - place)) whole xs ys before
    (subst (Begins why (HandsOver s (place + 1) (end - place))) (sym is) (step ∷ [], some_to_come why step [], done))

-- a command that is neither a batch nor a `:clean`
passes_by : (w : World) (s : Scope) (c : Command) (steps : List Step) (t : Scope) → ((text : List ℕ) (block : List Statement) → c ≡ command.Batch text block → ⊥) → (c ≡ command.Clean → ⊥) → Passes c steps × (t ≡ s) → Does w s c steps t
passes_by w s (command.Batch text block) steps t batch clean h = absurd (batch text block refl)
passes_by w s command.Clean steps t batch clean h = absurd (clean refl)
passes_by w s c steps t batch clean h = h

-- a command that leaves the variables as they are
pub made_same : (done : Result (Unit {0}) Stopped) (P : List Step → Type 0) (s : Scope) (steps : List Step) → Made done P steps → MadeWith (where_done done s) (λ t all. P all × (t ≡ s)) steps
made_same (Ok x) P s steps h = (h, refl)
made_same (Err why) P s steps h = (h.0, h.1, (s, (h.2, refl)))

pub made_passing : (w : World) (s : Scope) (c : Command) (done : Result (Unit {0}) Stopped) (steps : List Step) → ((text : List ℕ) (block : List Statement) → c ≡ command.Batch text block → ⊥) → (c ≡ command.Clean → ⊥)
    → Made done (Passes c) steps → MadeWith (where_done done s) (λ t all. Does w s c all t) steps
made_passing w s c (Ok x) steps batch clean h = passes_by w s c steps s batch clean (h, refl)
made_passing w s c (Err why) steps batch clean h = (h.0, h.1, (s, passes_by w s c (steps ++ h.0) s batch clean (h.2, refl)))

pub full_where : {T : Type 0} (done : Result (Unit {0}) Stopped) (t : T) (why : Stopped) → IsErrOf (where_done done t) why → IsErrOf done why
full_where (Ok x) t why e = cc
full_where (Err cause) t why e = cc
