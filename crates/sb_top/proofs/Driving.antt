-- How a run of commands goes on and ends.
use Rattle.std.proofs.Common.{◌≡◌, ℕ, suc, ◌+◌, ◌<◌, ◌≤◌, arith, drop, get_or, add-one, drop-cons, Bool, true, false, List, [], ◌∷◌, length, Option, Result, refl, sym, ap, ◌∙◌, subst}
use Rattle.std.specs.Prelude.{IsTrue}
use Rattle.sb_log.specs.declared.steps.Step.{Step}
use Rattle.sb_model.specs.Histories.{Legal}
use Rattle.sb_model.specs.Instance.{Part}
use Rattle.sb_top.specs.Ends.{HasFilled, Ran, Wrote, why_unwritten}
use Rattle.sb_top.specs.Following.{Does, DoesAll, Follows, FollowsSoFar, first}
use Rattle.sb_top.specs.Room.{is_full}
use Rattle.sb_top.specs.Runs.{Begins, GoesBefore, GoesOn, IsQuiet, IsSound, IsStopping, MadeWith, world_of}
use Rattle.sb_top.specs.Writing.{IsWritten}
use Rattle.sb_top.proofs.Writing.{all_written}
use Rattle.sb_outside.specs.Causes.{Rose}
use Rattle.sb_show.specs.Transcript.{transcript}
use Rattle.std.specs.Io.KnownBytes.{Appends}
use Rattle.sb_top.specs.declared.ending.Why.{Why}
use Rattle.sb_top.specs.declared.ending.Why.TheVariants as why
use Rattle.sb_top.specs.declared.history.Stopped.{Stopped}
use Rattle.sb_top.specs.declared.history.Stopped.TheVariants as stopped
use Rattle.sb_script.specs.declared.commands.Command.{Command}
use Rattle.sb_top.proofs.Follows.{command_begun, command_next, commands_done, made_with, so_far}
use Rattle.sb_proc.specs.Scopes.{Scope}
use Rattle.sb_top.proofs.Histories.{goes_on_both, goes_on_so, legal_all, quiet_all, so_all, roomy_all}

-- the commands behind these are still to come
abbrev pub Comes : List Command → List Command → Part → Scope → List Step → Type 0
Comes commands rest p s steps = GoesBefore (DoesAll (world_of p) s rest) (Follows commands) steps

-- a run so far
abbrev pub Driven : Part → List Command → List Command → Part → Scope → List Step → Type 0
Driven start commands rest p s history = GoesOn start [] p history (Comes commands rest p s)

-- what a command that stopped was to make
abbrev pub Starts : Part → Scope → Command → List Step → Type 0
Starts p s c all = (t : Scope) × Does (world_of p) s c all t

pub sound_of : (start p : Part) (history : List Step) (P : List Step → Type 0) → world_of start ≡ first → GoesOn start [] p history P → IsSound history
sound_of start p history P is goes = record {
  legal = subst (λ w. Legal w history) is (legal_all start p history P goes);
  quiet = subst (λ w. IsQuiet w history) is (quiet_all start p history P goes);
  roomy = roomy_all start p history P goes;
}

-- the next command was begun: the history is a beginning of one that follows the commands
pub turn_stopped : (cause : Stopped) (start p q : Part) (s : Scope) (commands rest later : List Command) (c : Command) (h longer : List Step) → rest ≡ c ∷ later
    → Driven start commands rest p s h → GoesOn p h q longer (Begins cause (Starts p s c)) → GoesOn start [] q longer (Begins cause (Follows commands))
turn_stopped cause start p q s commands rest later c h longer is before turn =
    goes_on_both start p q [] h longer (Comes commands rest p s) (Begins cause (Starts p s c)) (Begins cause (Follows commands)) before turn
    (λ xs ys state comes begun. command_begun cause (world_of p) s rest c later (Follows commands) xs ys is comes begun)

-- so it is whether the command was done or not
pub turn_begun : (start p q : Part) (s : Scope) (commands rest later : List Command) (c : Command) (h longer : List Step) (r : Result Scope Stopped) → rest ≡ c ∷ later
    → Driven start commands rest p s h → GoesOn p h q longer (MadeWith r (λ t all. Does (world_of p) s c all t)) → GoesOn start [] q longer (FollowsSoFar commands)
turn_begun start p q s commands rest later c h longer r is before turn =
    goes_on_so start q [] longer (Begins stopped.OutOfMemory (Follows commands)) (FollowsSoFar commands)
    (turn_stopped stopped.OutOfMemory start p q s commands rest later c h longer is before
    (goes_on_so p q h longer (MadeWith r (λ t all. Does (world_of p) s c all t)) (Begins stopped.OutOfMemory (Starts p s c)) turn (made_with r (λ t all. Does (world_of p) s c all t))))
    (so_far stopped.OutOfMemory commands)

-- the next command was done
pub turn_done : (start p q : Part) (s t : Scope) (commands rest later : List Command) (c : Command) (h longer : List Step) → rest ≡ c ∷ later
    → Driven start commands rest p s h → GoesOn p h q longer (λ all. Does (world_of p) s c all t) → Driven start commands later q t longer
turn_done start p q s t commands rest later c h longer is so_far turn =
    goes_on_both start p q [] h longer (Comes commands rest p s) (λ all. Does (world_of p) s c all t) (Comes commands later q t) so_far turn
    (λ xs ys state before done. command_next (world_of p) (world_of q) s t rest c later (Follows commands) xs ys is before done state)

-- all commands were done
pub turns_done : (start p : Part) (s : Scope) (commands rest : List Command) (h : List Step) → rest ≡ [] → Driven start commands rest p s h → Follows commands h
turns_done start p s commands rest h is so_far =
    so_all start p h (Follows commands) (goes_on_so start p [] h (Comes commands rest p s) (Follows commands) so_far (λ xs before. commands_done (world_of p) s rest (Follows commands) xs is before))

-- a run that stopped so
pub ran_stopped : (cause : Stopped) (w : Why) (commands : List Command) (h : List Step) → IsStopping cause h w → Begins cause (Follows commands) h → Ran w commands h
ran_stopped stopped.OutOfMemory w commands h is begun = rw is (so_far stopped.OutOfMemory commands h begun)
ran_stopped stopped.HistoryFull w commands h is begun = rw is begun

pub filled_stopped : (cause : Stopped) (w : Why) (h : List Step) → IsStopping cause h w → (cause ≡ stopped.HistoryFull → is_full h ≡ true) → HasFilled w h
filled_stopped stopped.OutOfMemory w h is full = rw is tt
filled_stopped stopped.HistoryFull w h is full = rw is (full refl, refl, refl)

pub wrote_stopped : (cause : Stopped) (w : Why) (old new : Option (List ℕ)) (h : List Step) (whole : ℕ) → IsStopping cause h w → Appends old new (transcript h) → whole ≡ length h → Wrote w old new h whole
wrote_stopped stopped.OutOfMemory w old new h whole is text all = rw is (all_written old new h whole all text)
wrote_stopped stopped.HistoryFull w old new h whole is text all = rw is (record { text = text; all = all })

pub never_faults : (cause : Stopped) (w : Why) (h : List Step) (P : Type 0) → IsStopping cause h w → w ≡ why.WriteFault → P
never_faults stopped.OutOfMemory w h P is e = cc
never_faults stopped.HistoryFull w h P is e = cc

-- by why the transcript isn't whole
pub ran_unwritten : (fault : Bool) (commands : List Command) (h : List Step) → FollowsSoFar commands h → Ran (why_unwritten fault) commands h
ran_unwritten true commands h follows = follows
ran_unwritten false commands h follows = follows

pub wrote_unwritten : (fault : Bool) (old new : Option (List ℕ)) (h : List Step) (whole : ℕ) → IsWritten old new h whole → Wrote (why_unwritten fault) old new h whole
wrote_unwritten true old new h whole written = written
wrote_unwritten false old new h whole written = written

-- where the sink failed, its faults rose from before on
pub unwritten_rose : (fault : Bool) (before now later : ℕ) → before ≤ now → (IsTrue fault → Rose now later) → why_unwritten fault ≡ why.WriteFault → Rose before later
unwritten_rose true before now later le rose e = let up : Rose now later = rose refl in omega (arith, le, up)
unwritten_rose false before now later le rose e = cc

-- the element at a place, and those behind it
pub next_of : {X : Type 0} (xs : List X) (i : ℕ) (x : X) → i < length xs → x ≡ get_or xs i x → drop i xs ≡ x ∷ drop (i + 1) xs
next_of xs i x h e = subst (λ n. drop i xs ≡ x ∷ drop n xs) (sym (add-one i)) (drop-cons xs i x h ∙ ap (λ y. y ∷ drop (suc i) xs) (sym e))

pub next_at : {X : Type 0} (xs : List X) (i : ℕ) (d : X) → i < length xs → drop i xs ≡ get_or xs i d ∷ drop (i + 1) xs
next_at xs i d h = subst (λ n. drop i xs ≡ get_or xs i d ∷ drop n xs) (sym (add-one i)) (drop-cons xs i d h)

pub filled_unwritten : (fault : Bool) (h : List Step) → HasFilled (why_unwritten fault) h
filled_unwritten true h = tt
filled_unwritten false h = tt
