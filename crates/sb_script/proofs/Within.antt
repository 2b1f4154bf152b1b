-- The numbers of commands are within their bounds.
use Rattle.std.proofs.Common.{◌≡◌, ℕ, ◌≤◌, Bool, true, false, not, ◌&&◌, ◌||◌, if◌then◌else◌, nat_le, List, [], ◌∷◌, ◌++◌, length, Option, None, Some, option_map, ok_or, Result, Ok, Err, IfSome, IfOk, nat_lt, refl, lit≤}
use Rattle.std.specs.Result.{result_ok}
use Rattle.std.specs.Char.{is_ascii_digit}
use Rattle.std.specs.List.{All, list_all}
use Rattle.std.specs.Str.{is_utf8}
use Rattle.std.proofs.lemmas.Bool.{leb-true, and_parts}
use Rattle.std.proofs.lemmas.List.Elements.{All-nil, All-cons, All-same, All-append}
use Rattle.hex.specs.Hex.{decode_of}
use Rattle.sb_log.specs.declared.identifiers.Who.{Who}
use Rattle.sb_grammar.specs.declared.tree.Statement.{Statement}
use Rattle.sb_script.specs.declared.commands.BadWhy.{BadWhy}
use Rattle.sb_script.specs.declared.commands.BadWhy.TheVariants as why
use Rattle.sb_script.specs.declared.commands.Command.{Command}
use Rattle.sb_script.specs.declared.commands.Command.TheVariants as command
use Rattle.sb_script.specs.declared.commands.Word.{Word}
use Rattle.sb_script.specs.declared.commands.Word.TheVariants as words
use Rattle.sb_script.specs.Lines.{same, word, behind_word, trimmed}
use Rattle.sb_script.specs.Commands.{most, decimal, at_most, number_of, instance, from_1_to_9, session_number, connect_by, alone, of_number, numbered, word_of, argued, command_by, command_of}
use Rattle.sb_script.specs.Bounds.{IsWithin}
use Rattle.sb_script.specs.Script.{limit, pieces_of, Said, Piece, batch, command_line, batched, commanded, PieceSays, Behind, Say, SayBy, ScriptSays}

-- ---- numbers

abbrev IsNumber : ℕ → Type 0
IsNumber n = n ≤ most

abbrev IsSession : ℕ → Type 0
IsSession n = (1 ≤ n) × (n ≤ 9)

at_most_within : (m n : ℕ) → IfSome (at_most m n) (λ k. k ≤ m)
at_most_within m n = by_test (nat_le n m) refl
  where
    by_test : (b : Bool) → nat_le n m ≡ b → IfSome (if b then Some n else None) (λ k. k ≤ m)
    by_test true e = leb-true n m e
    by_test false e = tt

number_within : (z : List ℕ) → IfSome (number_of z) IsNumber
number_within z = by_test (same z [] || not (list_all is_ascii_digit z))
  where
    by_test : (b : Bool) → IfSome (if b then None else at_most most (decimal z)) IsNumber
    by_test true = tt
    by_test false = at_most_within most (decimal z)

from_1_to_9_within : (o : Option ℕ) → IfSome (from_1_to_9 o) IsSession
from_1_to_9_within None = tt
from_1_to_9_within (Some n) = by_test (nat_le 1 n && nat_le n 9) refl
  where
    by_test : (b : Bool) → (nat_le 1 n && nat_le n 9) ≡ b → IfSome (if b then Some n else None) IsSession
    by_test true e = let both = and_parts (nat_le 1 n) (nat_le n 9) e in (leb-true 1 n both.0, leb-true n 9 both.1)
    by_test false e = tt

session_within : (z : List ℕ) → IfSome (session_number z) IsSession
session_within z = by_test (same z [])
  where
    by_test : (b : Bool) → IfSome (if b then Some 1 else from_1_to_9 (number_of z)) IsSession
    by_test true = (lit≤ tt, lit≤ tt)
    by_test false = from_1_to_9_within (number_of z)

-- ---- commands

connect_within : (o : Option Who) (p : Option ℕ) → IfSome p IsSession → IfSome (connect_by o p) IsWithin
connect_within (Some i) (Some n) h = h
connect_within (Some i) None h = tt
connect_within None p h = tt

inject_within : (o : Option (List ℕ)) → IfSome (option_map command.Inject o) IsWithin
inject_within (Some z) = tt
inject_within None = tt

alone_within : (c : Command) (z : List ℕ) → IsWithin c → IfSome (alone c z) IsWithin
alone_within c z h = by_test (same z [])
  where
    by_test : (b : Bool) → IfSome (if b then Some c else None) IsWithin
    by_test true = h
    by_test false = tt

of_number_within : (w : Word) (n : ℕ) → n ≤ most → IfSome (of_number w n) IsWithin
of_number_within words.Deliver n h = h
of_number_within words.Lose n h = h
of_number_within words.Tick n h = h
of_number_within words.Clock n h = h
of_number_within words.Fuse n h = h
of_number_within words.Crash n h = h
of_number_within _ n h = tt

numbered_within : (w : Word) (o : Option ℕ) → IfSome o IsNumber → IfSome (numbered w o) IsWithin
numbered_within w None h = tt
numbered_within w (Some n) h = of_number_within w n h

argued_within : (w : Word) (z : List ℕ) → IfSome (argued w z) IsWithin
argued_within words.Connect z = connect_within (instance (word z)) (session_number (behind_word z)) (session_within (behind_word z))
argued_within words.Inject z = inject_within (result_ok (decode_of z))
argued_within words.Pump z = alone_within command.Pump z tt
argued_within words.Clean z = alone_within command.Clean z tt
argued_within words.Open z = alone_within command.Open z tt
argued_within words.Serve z = alone_within command.Serve z tt
argued_within words.Dump z = alone_within command.Dump z tt
argued_within w z = numbered_within w (number_of z) (number_within z)

ok_within : (o : Option Command) (reason : BadWhy) → IfSome o IsWithin → IfOk (ok_or o reason) IsWithin
ok_within (Some c) reason h = h
ok_within None reason h = tt

by_word_within : (o : Option Word) (z : List ℕ) → IfOk (command_by o z) IsWithin
by_word_within None z = tt
by_word_within (Some w) z = ok_within (argued w z) why.BadArgument (argued_within w z)

command_within : (z : List ℕ) → IfOk (command_of z) IsWithin
unfolding command_of
command_within z = by_word_within (word_of (word z)) (behind_word z)

-- ---- scripts

batched_within : (text : List ℕ) (block : List Statement) → All IsWithin (batched text block)
batched_within text [] = All-nil IsWithin
batched_within text (s ∷ ss) = All-cons IsWithin (command.Batch text (s ∷ ss)) [] tt (All-nil IsWithin)

commanded_within : (number : ℕ) (r : Result Command BadWhy) (cs : List Command) → IfOk r IsWithin → Ok cs ≡ commanded number r → All IsWithin cs
commanded_within number (Ok c) cs h e = let same_list : cs ≡ c ∷ [] = cc in All-same IsWithin cs (c ∷ []) same_list (All-cons IsWithin c [] h (All-nil IsWithin))
commanded_within number (Err reason) cs h e = absurd (cc)

piece_within : (p : Piece) (cs : List Command) → PieceSays p (Ok cs) → All IsWithin cs
unfolding PieceSays
piece_within (batch first text) cs k = All-same IsWithin cs (batched text k.0) k.2 (batched_within text k.0)
piece_within (command_line number l) cs k = commanded_within number (command_of (trimmed l)) cs (command_within (trimmed l)) k

behind_within : (p : Piece) (ps : List Piece) (before all : List Command) → All IsWithin before → ((now : List Command) → All IsWithin now → Say ps now (Ok all) → All IsWithin all) → (here : Said) → PieceSays p here → Behind (λ cs. Say ps (before ++ cs) (Ok all)) here (Ok all) → All IsWithin all
behind_within p ps before all ok others (Ok cs) k more = others (before ++ cs) (All-append IsWithin before cs ok (piece_within p cs k)) more
behind_within p ps before all ok others (Err bad) k more = absurd (cc)

say_within : (ps : List Piece) (before all : List Command) → All IsWithin before → Say ps before (Ok all) → All IsWithin all
unfolding Say
say_within [] before all ok h = let e : Ok all ≡ Ok before = h in let same_list : all ≡ before = cc in All-same IsWithin all before same_list ok
say_within (p ∷ ps) before all ok h = behind_within p ps before all ok (λ now fine more. say_within ps now all fine more) h.0 h.1 h.2

says_within : (long text : Bool) (bytes : List ℕ) (all : List Command) → SayBy long text bytes (Ok all) → All IsWithin all
says_within true text bytes all h = absurd (cc)
says_within false false bytes all h = absurd (cc)
says_within false true bytes all h = say_within (pieces_of bytes) [] all (All-nil IsWithin) h

pub commands_within : (bytes : List ℕ) (all : List Command) → ScriptSays bytes (Ok all) → All IsWithin all
commands_within bytes all h = says_within (nat_lt limit (length bytes)) (is_utf8 bytes) bytes all h
