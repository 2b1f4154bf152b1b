-- What bytes say, by whether they are within the limit and are text.
use Rattle.std.proofs.Common.{◌≡◌, ℕ, ◌≤◌, Bool, true, false, List, [], length, take, nat_lt, Result, Ok, Err, IfOk, IfErr, MatchResult, refl, sym, ap, subst, ◌∙◌}
use Rattle.std.specs.Str.{IsUtf8, is_utf8}
use Rattle.std.specs.Str.Lossy.{utf8_valid_len}
use Rattle.std.proofs.lemmas.Bool.{le-ltb}
use Rattle.std.proofs.lemmas.Str.{IsUtf8-from_is_utf8, is_utf8-from_IsUtf8}
use Rattle.sb_script.specs.declared.commands.BadWhy.TheVariants as why
use Rattle.sb_script.specs.declared.commands.Command.{Command}
use Rattle.sb_script.specs.declared.reading.ScriptRefused.{ScriptRefused}
use Rattle.sb_script.specs.declared.reading.ScriptRefused.TheVariants as refused
use Rattle.sb_script.specs.Script.{limit, bad_line, Said, pieces_of, Say, line_behind, SayBy, ScriptSays}
use Rattle.sb_script.specs.Reading.{GoesOn, StopsAt, IsOutOfMemory, IsRefusal, Refusing}
use Rattle.sb_script.proofs.Goes.{all_say, all_only}

bool_no : (b : Bool) → (b ≡ true → ⊥) → b ≡ false
bool_no true never = absurd (never refl)
bool_no false never = refl

-- what bytes say is what SayBy says for the outcomes of both tests
as_tested : (long text : Bool) (bytes : List ℕ) (said : Said) → nat_lt limit (length bytes) ≡ long → is_utf8 bytes ≡ text → SayBy long text bytes said → ScriptSays bytes said
as_tested long text bytes said e u h =
    let P : Bool → Type 0 = λ b. SayBy b (is_utf8 bytes) bytes said in
    let Q : Bool → Type 0 = λ b. SayBy long b bytes said in
    subst P (sym e) (subst Q (sym u) h)

by_tests : (long text : Bool) (bytes : List ℕ) (said : Said) → nat_lt limit (length bytes) ≡ long → is_utf8 bytes ≡ text → ScriptSays bytes said → SayBy long text bytes said
by_tests long text bytes said e u h =
    let P : Bool → Type 0 = λ b. SayBy b (is_utf8 bytes) bytes said in
    let Q : Bool → Type 0 = λ b. SayBy long b bytes said in
    subst Q u (subst P e h)

pub text_says : (bytes : List ℕ) (said : Said) → length bytes ≤ limit → IsUtf8 bytes → Say (pieces_of bytes) [] said → ScriptSays bytes said
text_says bytes said le u h = as_tested false true bytes said (le-ltb limit (length bytes) le) (is_utf8-from_IsUtf8 bytes u) h

pub says_text : (bytes : List ℕ) (said : Said) → length bytes ≤ limit → IsUtf8 bytes → ScriptSays bytes said → Say (pieces_of bytes) [] said
says_text bytes said le u h = by_tests false true bytes said (le-ltb limit (length bytes) le) (is_utf8-from_IsUtf8 bytes u) h

pub no_text_says : (bytes : List ℕ) → length bytes ≤ limit → (IsUtf8 bytes → ⊥) → ScriptSays bytes (Err (bad_line (line_behind (take (utf8_valid_len bytes) bytes)) why.NotText))
no_text_says bytes le never =
    as_tested false false bytes (Err (bad_line (line_behind (take (utf8_valid_len bytes) bytes)) why.NotText)) (le-ltb limit (length bytes) le) (bool_no (is_utf8 bytes) (λ e. never (IsUtf8-from_is_utf8 bytes e))) refl

pub says_no_text : (bytes : List ℕ) (cs : List Command) → length bytes ≤ limit → (IsUtf8 bytes → ⊥) → ScriptSays bytes (Ok cs) → ⊥
says_no_text bytes cs le never h =
    let said : Ok cs ≡ Err (bad_line (line_behind (take (utf8_valid_len bytes) bytes)) why.NotText) = by_tests false false bytes (Ok cs) (le-ltb limit (length bytes) le) (bool_no (is_utf8 bytes) (λ e. never (IsUtf8-from_is_utf8 bytes e))) h in cc

pub no_text_refuses : (bytes front : List ℕ) (at number : ℕ) (e : ScriptRefused) → length bytes ≤ limit → (IsUtf8 bytes → ⊥) → e ≡ refused.BadLine number why.NotText → number ≡ line_behind front → front ≡ take at bytes → at ≡ utf8_valid_len bytes → IsRefusal bytes e
no_text_refuses bytes front at number e le never is line valid len =
    let same : e ≡ refused.BadLine (line_behind (take (utf8_valid_len bytes) bytes)) why.NotText = is ∙ ap (λ n. refused.BadLine n why.NotText) (line ∙ ap line_behind (valid ∙ ap (λ n. take n bytes) len)) in
    let P : ScriptRefused → Type 0 = λ x. IsRefusal bytes x in
    subst P (sym same) (no_text_says bytes le never)

-- ---- what is read of a text

pub read_says : {V : Type 0} (r : Result V ScriptRefused) (items : V → List Command) (bytes : List ℕ) → length bytes ≤ limit → IsUtf8 bytes → IfOk r (λ v. GoesOn (pieces_of bytes) [] [] (items v)) → IfOk r (λ v. ScriptSays bytes (Ok (items v)))
read_says (Ok v) items bytes le u g = text_says bytes (Ok (items v)) le u (g.says (Ok (items v)) (all_say (items v)))
read_says (Err e) items bytes le u g = g

refusing : (bytes : List ℕ) (e : ScriptRefused) → length bytes ≤ limit → IsUtf8 bytes → Refusing (λ bad. Say (pieces_of bytes) [] (Err bad)) e → IsRefusal bytes e
refusing bytes (refused.BadLine number reason) le u h = text_says bytes (Err (bad_line number reason)) le u h
refusing bytes refused.OutOfMemory le u h = tt

pub read_refuses : {V : Type 0} (r : Result V ScriptRefused) (bytes : List ℕ) → length bytes ≤ limit → IsUtf8 bytes → IfErr r (StopsAt (pieces_of bytes) []) → IfErr r (IsRefusal bytes)
read_refuses (Ok v) bytes le u s = s
read_refuses (Err e) bytes le u s = refusing bytes e le u s.says

pub read_only : {V : Type 0} (r : Result V ScriptRefused) (items : V → List Command) (bytes : List ℕ) → length bytes ≤ limit → IsUtf8 bytes → IfOk r (λ v. GoesOn (pieces_of bytes) [] [] (items v)) → IfErr r (StopsAt (pieces_of bytes) []) → (cs : List Command) → ScriptSays bytes (Ok cs) → MatchResult r (λ v. items v ≡ cs) IsOutOfMemory
read_only (Ok v) items bytes le u g s cs h = all_only (items v) cs (g.only cs (says_text bytes (Ok cs) le u h))
read_only (Err e) items bytes le u g s cs h = s.only cs (says_text bytes (Ok cs) le u h)
