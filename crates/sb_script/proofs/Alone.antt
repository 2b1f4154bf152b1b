-- Which texts spell no statements, and that bytes say one thing alone.
use Rattle.std.proofs.Common.{◌≡◌, ℕ, Bool, true, false, List, [], ◌∷◌, ◌++◌, length, Option, None, Some, Ok, Err, nat_lt, refl, sym, ap, subst, ◌∙◌}
use Rattle.std.specs.Str.{is_utf8}
use Rattle.sb_lex.specs.declared.token.Token.{Token}
use Rattle.sb_lex.specs.Lex.{Tokens}
use Rattle.sb_lex.specs.Cuts.{IsCut}
use Rattle.sb_lex.proofs.CutLaws.{only_cut}
use Rattle.sb_grammar.specs.declared.tree.Statement.{Statement}
use Rattle.sb_grammar.specs.Batches as grammar
use Rattle.sb_grammar.proofs.BatchLaws.{batch_is_grammar}
use Rattle.sb_grammar.proofs.WholeLaws.{spelled_apart}
use Rattle.sb_parse.specs.Lexemes.{lexemes_of}
use Rattle.sb_parse.specs.declared.text.ParseRefused.{ParseRefused}
use Rattle.sb_parse.specs.declared.text.ParseRefused.TheVariants as parse
use Rattle.sb_parse.specs.Places.{IsSpelledIn}
use Rattle.sb_parse.proofs.Refusals.{IsKnown, one_refusal, refused_spells_none}
use Rattle.sb_script.specs.declared.commands.Command.{Command}
use Rattle.sb_script.specs.Script.{limit, pieces_of, BadLine, Said, Piece, batch, command_line, batched, named, PieceSays, Behind, Say, SayBy, ScriptSays}
use Rattle.sb_script.proofs.NoStatements.{no_tokens, no_statements}

-- ---- the statements of a text

-- no tokens stand for none
stand_for_none : (text : List ℕ) (ts : List Token) → lexemes_of text ts ≡ [] → ts ≡ []
stand_for_none text [] e = refl
stand_for_none text (t ∷ ts) e = cc

pub none_is_spelled : (text : List ℕ) → IsCut text [] None → IsSpelledIn (grammar.batch grammar.levels) [] text
none_is_spelled text cut = ([], cut, no_statements grammar.levels)

pub only_none_is_spelled : (text : List ℕ) → IsSpelledIn (grammar.batch grammar.levels) [] text → IsCut text [] None
only_none_is_spelled text (ts, cut, spelled) = subst (λ (x : List Token). IsCut text x None) (stand_for_none text ts (no_tokens grammar.levels (lexemes_of text ts) spelled)) cut

-- a text has its tokens alone
tokens_alone : (text : List ℕ) (ts us : List Token) → IsCut text ts None → IsCut text us None → ts ≡ us
tokens_alone text ts us c d = ap (λ (x : Tokens). x.tokens) (sym (only_cut text ts None c) ∙ only_cut text us None d)

statements_alone : (text : List ℕ) (one other : List Statement) → IsSpelledIn (grammar.batch grammar.levels) one text → IsSpelledIn (grammar.batch grammar.levels) other text → one ≡ other
statements_alone text one other (ts, c, h) (us, d, k) =
    spelled_apart (grammar.batch grammar.levels) (batch_is_grammar grammar.levels) (lexemes_of text ts) one other h
    (subst (λ (x : List Token). (grammar.batch grammar.levels).spells other (lexemes_of text x) []) (tokens_alone text us ts d c) k)

-- ---- refusals

abbrev some_line : BadLine → Option BadLine
some_line bad = Some bad

line_is : (one other : BadLine) → some_line one ≡ some_line other → one ≡ other
line_is one other e = cc

no_line : (bad : BadLine) → None ≡ some_line bad → ⊥
no_line bad e = cc

-- a refusal that names a line isn't want of memory
named_is_known : (first : ℕ) (text : List ℕ) (refused : ParseRefused) (bad : BadLine) → named first text refused ≡ Some bad → IsKnown refused
named_is_known first text parse.OutOfMemory bad e = no_line bad e
named_is_known first text (parse.BadStatement at) bad e = tt
named_is_known first text (parse.Unsupported at what) bad e = tt
named_is_known first text (parse.Unlexed at) bad e = tt

-- ---- what pieces say

abbrev done : List Command → Said
done cs = Ok cs

abbrev stopped : BadLine → Said
stopped bad = Err bad

piece_one : (p : Piece) (one other : Said) → PieceSays p one → PieceSays p other → one ≡ other
unfolding PieceSays
piece_one (batch first text) (Ok cs) (Ok ds) h k = ap done (h.2 ∙ ap (batched text) (statements_alone text h.0 k.0 h.1 k.1) ∙ sym k.2)
piece_one (batch first text) (Ok cs) (Err bad) h k = absurd (refused_spells_none (grammar.batch grammar.levels) (batch_is_grammar grammar.levels) text k.0 (named_is_known first text k.0 bad k.2) k.1 h.0 h.1)
piece_one (batch first text) (Err bad) (Ok ds) h k = absurd (refused_spells_none (grammar.batch grammar.levels) (batch_is_grammar grammar.levels) text h.0 (named_is_known first text h.0 bad h.2) h.1 k.0 k.1)
piece_one (batch first text) (Err bad) (Err other) h k =
    let same : h.0 ≡ k.0 = one_refusal (grammar.batch grammar.levels) (batch_is_grammar grammar.levels) text h.0 k.0 (named_is_known first text h.0 bad h.2) (named_is_known first text k.0 other k.2) h.1 k.1 in
    ap stopped (line_is bad other (sym h.2 ∙ ap (named first text) same ∙ k.2))
piece_one (command_line number l) one other h k = h ∙ sym k

-- what pieces say behind a piece that says the same
behind_one : (ps : List Piece) (before : List Command) (here one other : Said) → ((v : List Command) → Say ps v one → Say ps v other → one ≡ other) → Behind (λ cs. Say ps (before ++ cs) one) here one → Behind (λ cs. Say ps (before ++ cs) other) here other → one ≡ other
behind_one ps before (Ok cs) one other others h k = others (before ++ cs) h k
behind_one ps before (Err bad) one other others h k = h ∙ sym k

say_one : (ps : List Piece) (before : List Command) (one other : Said) → Say ps before one → Say ps before other → one ≡ other
unfolding Say
say_one [] before one other h k = h ∙ sym k
say_one (p ∷ ps) before one other h k =
    let same : k.0 ≡ h.0 = piece_one p k.0 h.0 k.1 h.1 in
    behind_one ps before h.0 one other (λ v a b. say_one ps v one other a b) h.2 (subst (λ (here : Said). Behind (λ cs. Say ps (before ++ cs) other) here other) same k.2)

says_one : (long text : Bool) (bytes : List ℕ) (one other : Said) → SayBy long text bytes one → SayBy long text bytes other → one ≡ other
says_one true text bytes one other h k = h ∙ sym k
says_one false false bytes one other h k = h ∙ sym k
says_one false true bytes one other h k = say_one (pieces_of bytes) [] one other h k

pub one_saying : (bytes : List ℕ) (one other : Said) → ScriptSays bytes one → ScriptSays bytes other → one ≡ other
one_saying bytes one other h k = says_one (nat_lt limit (length bytes)) (is_utf8 bytes) bytes one other h k
