-- How reading goes on from piece to piece, and where it stops.
use Rattle.std.proofs.Common.{◌≡◌, ℕ, ◌+◌, ◌<◌, List, [], ◌∷◌, ◌++◌, length, drop, get_or, Result, Ok, Err, IfOk, IfErr, OnOk, string_bytes, refl, sym, ap, subst, ◌∙◌, add-one, drop-cons}
use Rattle.sb_grammar.specs.Batches as grammar
use Rattle.sb_grammar.specs.declared.tree.Statement.{Statement}
use Rattle.sb_parse.specs.declared.text.ParseRefused.{ParseRefused}
use Rattle.sb_parse.specs.declared.text.ParseRefused.TheVariants as parse
use Rattle.sb_parse.specs.Places.{IsSpelledIn, Refuses, IsRead}
use Rattle.sb_script.specs.declared.commands.BadWhy.{BadWhy}
use Rattle.sb_script.specs.declared.commands.BadWhy.TheVariants as why
use Rattle.sb_script.specs.declared.commands.Command.{Command}
use Rattle.sb_script.specs.declared.lines.Line.{Line}
use Rattle.sb_script.specs.declared.lines.Line.TheVariants as line
use Rattle.sb_script.specs.declared.reading.Reading.{Reading}
use Rattle.sb_script.specs.declared.reading.ScriptRefused.{ScriptRefused}
use Rattle.sb_script.specs.declared.reading.ScriptRefused.TheVariants as refused
use Rattle.sb_script.specs.Lines.{line_of, trimmed}
use Rattle.sb_script.specs.Commands.{command_of}
use Rattle.sb_script.specs.Script.{BadLine, bad_line, Said, Piece, batch, command_line, ended, first_behind, text_behind, pieces, batched, line_at, named, commanded, PieceSays, Behind, Say}
use Rattle.sb_script.specs.Reading.{left, GoesOn, Refusing, IsOutOfMemory, refusal_of, StopsAt}

-- ---- one after the other

pub goes_behind : {a b c : List Piece} {before mid now : List Command} → GoesOn a before b mid → GoesOn b mid c now → GoesOn a before c now
goes_behind f g = record { says = λ said h. f.says said (g.says said h); only = λ cs h. g.only cs (f.only cs h) }

refuses_behind : (a b : List Piece) (before mid : List Command) → GoesOn a before b mid → (e : ScriptRefused) → Refusing (λ bad. Say b mid (Err bad)) e → Refusing (λ bad. Say a before (Err bad)) e
refuses_behind a b before mid f (refused.BadLine number reason) h = f.says (Err (bad_line number reason)) h
refuses_behind a b before mid f refused.OutOfMemory h = tt

pub stops_behind : {a b : List Piece} {before mid : List Command} {e : ScriptRefused} → GoesOn a before b mid → StopsAt b mid e → StopsAt a before e
stops_behind {a} {b} {before} {mid} {e} f s = record { says = refuses_behind a b before mid f e s.says; only = λ cs h. s.only cs (f.only cs h) }

pub memory_stops : (whole : List Piece) (before : List Command) (e : ScriptRefused) → IsOutOfMemory e → StopsAt whole before e
memory_stops whole before (refused.BadLine number reason) h = absurd h
memory_stops whole before refused.OutOfMemory h = record { says = tt; only = λ cs k. tt }

-- ---- a piece

only_behind : (p : Piece) (ps : List Piece) (before now cs all : List Command) → now ≡ before ++ cs → ((other : List Command) → PieceSays p (Ok other) → other ≡ cs) → (here : Said) → PieceSays p here → Behind (λ v. Say ps (before ++ v) (Ok all)) here (Ok all) → Say ps now (Ok all)
only_behind p ps before now cs all e only (Ok other) j k =
    let P : List Command → Type 0 = λ v. Say ps v (Ok all) in subst P (ap (λ v. before ++ v) (only other j) ∙ sym e) k
only_behind p ps before now cs all e only (Err bad) j k = absurd (cc)

pub piece_goes : (p : Piece) (ps : List Piece) (before now cs : List Command) → now ≡ before ++ cs → PieceSays p (Ok cs) → ((other : List Command) → PieceSays p (Ok other) → other ≡ cs) → GoesOn (p ∷ ps) before ps now
unfolding Say
piece_goes p ps before now cs e h only = record {
  says = λ said k. (Ok cs, h, (let P : List Command → Type 0 = λ v. Say ps v said in subst P e k));
  only = λ all k. only_behind p ps before now cs all e only k.0 k.1 k.2;
}

none_behind : (p : Piece) (ps : List Piece) (before all : List Command) → ((other : List Command) → PieceSays p (Ok other) → ⊥) → (here : Said) → PieceSays p here → Behind (λ v. Say ps (before ++ v) (Ok all)) here (Ok all) → ⊥
none_behind p ps before all none (Ok other) j k = none other j
none_behind p ps before all none (Err bad) j k = cc

pub piece_stops : (p : Piece) (ps : List Piece) (before : List Command) (bad : BadLine) → PieceSays p (Err bad) → ((other : List Command) → PieceSays p (Ok other) → ⊥) → StopsAt (p ∷ ps) before (refused.BadLine bad.line bad.why)
unfolding Say
piece_stops p ps before bad h none = record {
  says = (Err bad, h, refl);
  only = λ all k. none_behind p ps before all none k.0 k.1 k.2;
}

-- ---- a batch

pub batch_goes : (first : ℕ) (text : List ℕ) (ps : List Piece) (before now : List Command) (block : List Statement) → now ≡ before ++ batched text block → IsSpelledIn (grammar.batch grammar.levels) block text → ((all : List Statement) → IsSpelledIn (grammar.batch grammar.levels) all text → IsRead all (Ok block)) → GoesOn (batch first text ∷ ps) before ps now
unfolding PieceSays
batch_goes first text ps before now block e h only =
    piece_goes (batch first text) ps before now (batched text block) e (block, h, refl) (λ other k. k.2 ∙ ap (batched text) (sym (only k.0 k.1)))

pub batch_stops : (first : ℕ) (text : List ℕ) (ps : List Piece) (before : List Command) (r : ParseRefused) → Refuses (grammar.batch grammar.levels) text r → ((all : List Statement) → IsSpelledIn (grammar.batch grammar.levels) all text → IsRead all (Err r)) → StopsAt (batch first text ∷ ps) before (refusal_of (named first text r))
unfolding PieceSays
batch_stops first text ps before parse.OutOfMemory h only = memory_stops (batch first text ∷ ps) before refused.OutOfMemory tt
batch_stops first text ps before (parse.BadStatement at) h only =
    piece_stops (batch first text) ps before (bad_line (line_at first text at) why.BadStatement) (parse.BadStatement at, h, refl) (λ other k. only k.0 k.1)
batch_stops first text ps before (parse.Unsupported at what) h only =
    piece_stops (batch first text) ps before (bad_line (line_at first text at) (why.Unsupported what)) (parse.Unsupported at what, h, refl) (λ other k. only k.0 k.1)
batch_stops first text ps before (parse.Unlexed at) h only =
    piece_stops (batch first text) ps before (bad_line (line_at first text at) why.Unlexed) (parse.Unlexed at, h, refl) (λ other k. only k.0 k.1)

-- ---- a command

pub command_goes : (number : ℕ) (l : List ℕ) (ps : List Piece) (before now : List Command) (c : Command) → now ≡ before ++ c ∷ [] → Ok c ≡ command_of (trimmed l) → GoesOn (command_line number l ∷ ps) before ps now
unfolding PieceSays
command_goes number l ps before now c e h =
    piece_goes (command_line number l) ps before now (c ∷ []) e (ap (commanded number) h) (λ other k. let same : Ok other ≡ commanded number (Ok c) = k ∙ ap (commanded number) (sym h) in cc)

pub command_stops : (number : ℕ) (l : List ℕ) (ps : List Piece) (before : List Command) (reason : BadWhy) → Err reason ≡ command_of (trimmed l) → StopsAt (command_line number l ∷ ps) before (refused.BadLine number reason)
unfolding PieceSays
command_stops number l ps before reason h =
    piece_stops (command_line number l) ps before (bad_line number reason) (ap (commanded number) h) (λ other k. let same : Ok other ≡ commanded number (Err reason) = k ∙ ap (commanded number) (sym h) in cc)

-- ---- a line

-- the pieces of a line and those behind it, by what the line is
abbrev pub pieces_by : Line → ℕ → List ℕ → ℕ → List ℕ → List (List ℕ) → List Piece
pieces_by k first text number l ls = ended k first text number l ++ pieces (first_behind k first number) (text_behind k text l) (number + 1) ls

pub pieces_behind : (k : Line) (first : ℕ) (text : List ℕ) (number : ℕ) (l : List ℕ) (ls : List (List ℕ)) → k ≡ line_of l → pieces first text number (l ∷ ls) ≡ pieces_by k first text number l ls
unfolding pieces
pieces_behind k first text number l ls e = ap (λ j. pieces_by j first text number l ls) (sym e)

pub last_piece : (first : ℕ) (text : List ℕ) (number : ℕ) → pieces first text number [] ≡ batch first text ∷ []
unfolding pieces
last_piece first text number = refl

-- nothing is left
pub all_say : (all : List Command) → Say [] all (Ok all)
unfolding Say
all_say all = refl

pub all_only : (all cs : List Command) → Say [] all (Ok cs) → all ≡ cs
unfolding Say
all_only all cs h = let same : Ok cs ≡ Ok all = h in cc

-- ---- what calls give

pub goes_same : (a b : List Piece) (before now : List Command) → a ≡ b → now ≡ before → GoesOn a before b now
goes_same a b before now e k = record {
  says = λ said h. (let P : List Piece → Type 0 = λ x. Say x before said in subst P (sym e) (let Q : List Command → Type 0 = λ x. Say b x said in subst Q k h));
  only = λ cs h. (let Q : List Command → Type 0 = λ x. Say b x (Ok cs) in subst Q (sym k) (let P : List Piece → Type 0 = λ x. Say x before (Ok cs) in subst P e h));
}

pub stops_as : (r : Result (Unit {0}) ScriptRefused) (a b : List Piece) (before : List Command) → a ≡ b → IfErr r (StopsAt b before) → IfErr r (StopsAt a before)
stops_as r a b before e h = let P : List Piece → Type 0 = λ x. IfErr r (StopsAt x before) in subst P (sym e) h

pub after_goes : (r : Result (Unit {0}) ScriptRefused) (a b c : List Piece) (before mid now : List Command) → GoesOn a before b mid → OnOk r (GoesOn b mid c now) → OnOk r (GoesOn a before c now)
after_goes (Ok x) a b c before mid now f g = goes_behind f g
after_goes (Err e) a b c before mid now f g = g

pub after_stops : {V : Type 0} (r : Result V ScriptRefused) (a b : List Piece) (before mid : List Command) → GoesOn a before b mid → IfErr r (StopsAt b mid) → IfErr r (StopsAt a before)
after_stops (Ok x) a b before mid f g = g
after_stops (Err e) a b before mid f g = stops_behind f g

pub after_ends : {V : Type 0} (r : Result V ScriptRefused) (items : V → List Command) (a b : List Piece) (before mid : List Command) → GoesOn a before b mid → IfOk r (λ v. GoesOn b mid [] (items v)) → IfOk r (λ v. GoesOn a before [] (items v))
after_ends (Ok x) items a b before mid f g = goes_behind f g
after_ends (Err e) items a b before mid f g = g

-- ---- lines

pub text_goes : (r : Result (Unit {0}) ScriptRefused) (old new : Reading) (l : List ℕ) (ls : List (List ℕ)) → line.Text ≡ line_of l → OnOk r (string_bytes new.batch ≡ string_bytes old.batch ++ (l ++ 10 ∷ [])) → OnOk r (new.commands.items ≡ old.commands.items) → OnOk r (new.first ≡ old.first) → OnOk r (new.number ≡ old.number + 1) → OnOk r (GoesOn (left old (l ∷ ls)) old.commands.items (left new ls) new.commands.items)
text_goes (Ok x) old new l ls k b cs f n =
    let e : pieces old.first (string_bytes old.batch) old.number (l ∷ ls) ≡ pieces old.first (string_bytes old.batch ++ (l ++ 10 ∷ [])) (old.number + 1) ls = pieces_behind line.Text old.first (string_bytes old.batch) old.number l ls k in
    let same : pieces new.first (string_bytes new.batch) new.number ls ≡ pieces old.first (string_bytes old.batch ++ (l ++ 10 ∷ [])) (old.number + 1) ls = cc in
    goes_same (left old (l ∷ ls)) (left new ls) old.commands.items new.commands.items (e ∙ sym same) cs
text_goes (Err e) old new l ls k b cs f n = cs

pub go_goes : (r : Result (Unit {0}) ScriptRefused) (old new : Reading) (l : List ℕ) (ls : List (List ℕ)) → line.Go ≡ line_of l → OnOk r (string_bytes new.batch ≡ []) → OnOk r (new.first ≡ old.number + 1) → OnOk r (new.number ≡ old.number + 1) → OnOk r (GoesOn (batch old.first (string_bytes old.batch) ∷ left new ls) old.commands.items (left new ls) new.commands.items) → OnOk r (GoesOn (left old (l ∷ ls)) old.commands.items (left new ls) new.commands.items)
go_goes (Ok x) old new l ls k b f n g =
    let e : pieces old.first (string_bytes old.batch) old.number (l ∷ ls) ≡ batch old.first (string_bytes old.batch) ∷ pieces (old.number + 1) [] (old.number + 1) ls = pieces_behind line.Go old.first (string_bytes old.batch) old.number l ls k in
    let same : pieces new.first (string_bytes new.batch) new.number ls ≡ pieces (old.number + 1) [] (old.number + 1) ls = cc in
    goes_behind (goes_same (left old (l ∷ ls)) (batch old.first (string_bytes old.batch) ∷ left new ls) old.commands.items old.commands.items (e ∙ ap (λ ps. batch old.first (string_bytes old.batch) ∷ ps) (sym same)) refl) g
go_goes (Err e) old new l ls k b f n g = g

pub command_line_goes : (r : Result (Unit {0}) ScriptRefused) (old new : Reading) (l : List ℕ) (ls : List (List ℕ)) → line.Command ≡ line_of l → OnOk r (string_bytes new.batch ≡ []) → OnOk r (new.first ≡ old.number + 1) → OnOk r (new.number ≡ old.number + 1) → OnOk r (GoesOn (batch old.first (string_bytes old.batch) ∷ command_line old.number l ∷ left new ls) old.commands.items (left new ls) new.commands.items) → OnOk r (GoesOn (left old (l ∷ ls)) old.commands.items (left new ls) new.commands.items)
command_line_goes (Ok x) old new l ls k b f n g =
    let e : pieces old.first (string_bytes old.batch) old.number (l ∷ ls) ≡ batch old.first (string_bytes old.batch) ∷ command_line old.number l ∷ pieces (old.number + 1) [] (old.number + 1) ls = pieces_behind line.Command old.first (string_bytes old.batch) old.number l ls k in
    let same : pieces new.first (string_bytes new.batch) new.number ls ≡ pieces (old.number + 1) [] (old.number + 1) ls = cc in
    goes_behind (goes_same (left old (l ∷ ls)) (batch old.first (string_bytes old.batch) ∷ command_line old.number l ∷ left new ls) old.commands.items old.commands.items (e ∙ ap (λ ps. batch old.first (string_bytes old.batch) ∷ command_line old.number l ∷ ps) (sym same)) refl) g
command_line_goes (Err e) old new l ls k b f n g = g

-- the lines from one on are this one and those behind it
pub line_more : (all : List (List ℕ)) (n : ℕ) (l : List ℕ) → n < length all → l ≡ get_or all n l → drop n all ≡ l ∷ drop (n + 1) all
line_more all n l lt e =
    let d : drop n all ≡ get_or all n l ∷ drop (n + 1) all = rw add-one (drop-cons all n l lt) in
    d ∙ ap (λ x. x ∷ drop (n + 1) all) (sym e)
