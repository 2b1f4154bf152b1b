-- The words with which statements begin, and those that begin none.
use Rattle.std.proofs.Common.{◌≡◌, ℕ, zero, suc, Bool, true, false, ◌&&◌, List, [], ◌∷◌, Option, Some, None, refl}
use Rattle.std.specs.List.{list_any}
use Rattle.sb_grammar.specs.declared.lexeme.Lexeme.{Lexeme}
use Rattle.sb_grammar.specs.declared.tree.Statement.TheVariants as s
use Rattle.sb_grammar.specs.declared.choice.First.TheVariants as first
use Rattle.sb_grammar.specs.declared.choice.Begun.{Begun}
use Rattle.sb_grammar.specs.declared.choice.Begun.TheVariants as begun
use Rattle.sb_grammar.specs.declared.choice.Made.TheVariants as made
use Rattle.sb_grammar.specs.declared.choice.Barred.{Barred}
use Rattle.sb_grammar.specs.declared.choice.Barred.TheVariants as barreds
use Rattle.sb_grammar.specs.declared.word.Fixed.{Fixed}
use Rattle.sb_grammar.specs.declared.word.Fixed.TheVariants as fixed
use Rattle.sb_grammar.specs.Words.{is_fixed, fixed_at, example}
use Rattle.sb_grammar.specs.Rules.{token, bind, map_rule, alt, until, most, singleton}
use Rattle.sb_grammar.specs.Values.{sign}
use Rattle.sb_grammar.specs.Exprs.{sum}
use Rattle.sb_grammar.specs.Definitions.{create_rest, made_of, made_by}
use Rattle.sb_grammar.specs.Dialogs.{end_tail}
use Rattle.sb_grammar.specs.Stops.{Stops, first_barred}
use Rattle.sb_grammar.specs.Statements.{row_first, message_first, plain_first, inner_first, first_of, begun_of, begun_by, try_of, begin_last, begin_rest, block, block_at, block_end, end_word, any_turn, any_statement, statement_of, rest_of, closed, semicolon, some_statement, turn}
use Rattle.sb_grammar.specs.Batches.{transaction_of, procedure_word}
use Rattle.sb_grammar.specs.Choices.{BeginsNot}
use Rattle.sb_grammar.proofs.Words.{alike, off, AllOff, all_off, was_fixed, fixed_none, chain, both}
use Rattle.sb_grammar.proofs.ChoiceForms.{Excludes, excludes_back, token-not, bind-not, map-not, also-not, alt-not, barred-not}

abbrev pub first_words : List Fixed
first_words =
    fixed.End ∷ fixed.If ∷ fixed.Create ∷ fixed.Alter ∷ fixed.Commit ∷ fixed.Begin ∷ fixed.Rollback ∷ fixed.Send ∷ fixed.Waitfor ∷ fixed.Receive ∷ fixed.Get ∷ fixed.Move
    ∷ fixed.Insert ∷ fixed.Update ∷ fixed.Delete ∷ fixed.Select ∷ fixed.Declare ∷ fixed.Set ∷ fixed.Return ∷ []

abbrev inner_words : List Fixed
inner_words =
    fixed.If ∷ fixed.Create ∷ fixed.Alter ∷ fixed.Commit ∷ fixed.Begin ∷ fixed.Rollback ∷ fixed.Send ∷ fixed.Waitfor ∷ fixed.Receive ∷ fixed.Get ∷ fixed.Move
    ∷ fixed.Insert ∷ fixed.Update ∷ fixed.Delete ∷ fixed.Select ∷ fixed.Declare ∷ fixed.Set ∷ fixed.Return ∷ []

no_row : (t : Lexeme) → is_fixed fixed.Insert t ≡ false → is_fixed fixed.Update t ≡ false → is_fixed fixed.Delete t ≡ false → is_fixed fixed.Select t ≡ false
    → is_fixed fixed.Declare t ≡ false → is_fixed fixed.Set t ≡ false → is_fixed fixed.Return t ≡ false → row_first t ≡ None
unfolding row_first
no_row t a b c d e f g = rw (a, b, c, d, e, f, g)

no_message : (t : Lexeme) → is_fixed fixed.Send t ≡ false → is_fixed fixed.Waitfor t ≡ false → is_fixed fixed.Receive t ≡ false → is_fixed fixed.Get t ≡ false
    → is_fixed fixed.Move t ≡ false → row_first t ≡ None → message_first t ≡ None
unfolding message_first
no_message t a b c d e h = rw (a, b, c, d, e) h

no_plain : (in_batch : Bool) (t : Lexeme) → is_fixed fixed.Create t ≡ false → is_fixed fixed.Alter t ≡ false → is_fixed fixed.Commit t ≡ false → is_fixed fixed.Begin t ≡ false
    → is_fixed fixed.Rollback t ≡ false → message_first t ≡ None → plain_first in_batch t ≡ None
unfolding plain_first
no_plain in_batch t a b c d e h = rw (a, b, c, d, e) h

no_inner : (in_batch : Bool) (n : ℕ) (t : Lexeme) → is_fixed fixed.If t ≡ false → plain_first in_batch t ≡ None → inner_first in_batch n t ≡ None
unfolding inner_first
no_inner in_batch zero t a h = h
no_inner in_batch (suc n) t a h = rw a h

begins_none : (in_batch : Bool) (n : ℕ) (t : Lexeme) → AllOff inner_words t → inner_first in_batch n t ≡ None
begins_none in_batch n t (a, (b, (c, (d, (e, (f, (g, (h, (i, (j, (k, (l, (m, (o, (p, (q, (r, (u, _)))))))))))))))))) =
    no_inner in_batch n t a (no_plain in_batch t b c d e f (no_message t g h i j k (no_row t l m o p q r u)))

no_first : (in_batch : Bool) (n : ℕ) (t : Lexeme) → AllOff first_words t → first_of in_batch n t ≡ None
unfolding first_of
no_first in_batch n t (a, more) = rw a (begins_none in_batch n t more)

-- the token is a word other than those
pub record Other (words : List Fixed) (t : Lexeme) : Type 0 where
  pub word : Fixed
  pub is : is_fixed word t ≡ true
  pub apart : list_any (alike word) words ≡ false

pub all_others : (words : List Fixed) (t : Lexeme) → Other words t → AllOff words t
all_others words t o = all_off o.word t o.is words o.apart

-- ---- BEGIN, and blocks

is_begun : (in_batch : Bool) (t : Lexeme) (b : Begun) → begun_of in_batch t ≡ Some b → Other first_words t
unfolding begun_of
is_begun in_batch t b h =
    chain (is_fixed fixed.Tran t && in_batch) begun.Transaction _ b (λ k. record { word = fixed.Tran; is = (both (is_fixed fixed.Tran t) in_batch k).0; apart = refl })
    (λ h. chain (is_fixed fixed.Transaction t && in_batch) begun.Transaction _ b (λ k. record { word = fixed.Transaction; is = (both (is_fixed fixed.Transaction t) in_batch k).0; apart = refl })
    (λ h. chain (is_fixed fixed.Dialog t) begun.Dialog _ b (λ k. record { word = fixed.Dialog; is = k; apart = refl })
    (λ h. chain (is_fixed fixed.Conversation t) begun.Conversation None b (λ k. record { word = fixed.Conversation; is = k; apart = refl }) (λ h. absurd cc) h) h) h) h

excludes_first : {B : Type 0} (f : Lexeme → Option B) → ((t : Lexeme) (b : B) → f t ≡ Some b → Other first_words t) → (in_batch : Bool) (n : ℕ) → Excludes f (first_of in_batch n)
excludes_first f other in_batch n t b h = no_first in_batch n t (all_others first_words t (other t b h))

-- a statement begins with none of other words
pub statement-not : {B : Type 0} (f : Lexeme → Option B) → ((t : Lexeme) (b : B) → f t ≡ Some b → Other first_words t) → (in_batch : Bool) (n : ℕ) → BeginsNot f (any_statement (first_of in_batch n) (rest_of in_batch n))
statement-not f other in_batch n = bind-not f (token (first_of in_batch n) (example fixed.Return) first.Return) (λ b. closed (rest_of in_batch n b)) Stops
    (token-not f (first_of in_batch n) (example fixed.Return) first.Return (excludes_first f other in_batch n))

block-not : {B : Type 0} (f : Lexeme → Option B) → ((t : Lexeme) (b : B) → f t ≡ Some b → Other first_words t) → (in_batch : Bool) (n : ℕ) → BeginsNot f (map_rule s.Block (block_at in_batch n))
unfolding block statement_of
block-not f other in_batch n = map-not f s.Block (block_at in_batch n)
    (bind-not f (statement_of (first_of in_batch n) (rest_of in_batch n)) (λ v. until most (turn in_batch n) Stops (singleton v)) Stops
    (barred-not f first_barred (any_statement (first_of in_batch n) (rest_of in_batch n)) Stops (statement-not f other in_batch n)))

pub begun_block : (in_batch : Bool) (n : ℕ) → BeginsNot (begun_of in_batch) (map_rule s.Block (block_at in_batch n))
begun_block in_batch n = block-not (begun_of in_batch) (is_begun in_batch) in_batch n

end_inner : (in_batch : Bool) (n : ℕ) → Excludes (fixed_at fixed.End) (inner_first in_batch n)
end_inner in_batch n t b h = begins_none in_batch n t (all_off fixed.End t (was_fixed fixed.End t b h) inner_words refl)

pub statement_end : (in_batch : Bool) (n : ℕ) → BeginsNot (inner_first in_batch n) (end_word (end_tail (sum n)))
statement_end in_batch n = also-not (inner_first in_batch n) (sign fixed.End) (block_end (end_tail (sum n)))
    (token-not (inner_first in_batch n) (fixed_at fixed.End) (example fixed.End) tt (excludes_back (fixed_at fixed.End) (inner_first in_batch n) (end_inner in_batch n)))

-- ---- procedures

is_transaction : (t : Lexeme) (b : Unit {0}) → transaction_of t ≡ Some b → Other first_words t
unfolding transaction_of
is_transaction t b h =
    chain (is_fixed fixed.Tran t) tt _ b (λ k. record { word = fixed.Tran; is = k; apart = refl })
    (λ h. chain (is_fixed fixed.Transaction t) tt None b (λ k. record { word = fixed.Transaction; is = k; apart = refl }) (λ h. absurd cc) h) h

and_false : (b : Bool) → b && false ≡ false
and_false true = refl
and_false false = refl

-- in a procedure BEGIN TRANSACTION is no statement
not_begun : (t : Lexeme) → is_fixed fixed.Dialog t ≡ false → is_fixed fixed.Conversation t ≡ false → begun_of false t ≡ None
unfolding begun_of
not_begun t a b = rw (and_false (is_fixed fixed.Tran t), and_false (is_fixed fixed.Transaction t), a, b)

transaction_begun : Excludes transaction_of (begun_of false)
unfolding transaction_of
transaction_begun t x h =
    chain (is_fixed fixed.Tran t) tt _ x (λ k. not_begun t (off fixed.Tran fixed.Dialog t k refl) (off fixed.Tran fixed.Conversation t k refl))
    (λ h. chain (is_fixed fixed.Transaction t) tt None x (λ k. not_begun t (off fixed.Transaction fixed.Dialog t k refl) (off fixed.Transaction fixed.Conversation t k refl)) (λ h. absurd cc) h) h

pub transaction_begin : (n : ℕ) → BeginsNot transaction_of (rest_of false n first.Begin)
unfolding rest_of begin_last begin_rest
transaction_begin zero = barred-not transaction_of try_of (bind (token (begun_of false) (example fixed.Conversation) begun.Conversation) (begun_by (sum 0)) Stops) Stops
    (bind-not transaction_of (token (begun_of false) (example fixed.Conversation) begun.Conversation) (begun_by (sum 0)) Stops (token-not transaction_of (begun_of false) (example fixed.Conversation) begun.Conversation transaction_begun))
transaction_begin (suc n) = barred-not transaction_of try_of (alt (begun_of false) (begun_by (sum (suc n))) (map_rule s.Block (block_at false n)) Stops) Stops
    (alt-not transaction_of (begun_of false) (begun_by (sum (suc n))) (map_rule s.Block (block_at false n)) Stops transaction_begun (block-not transaction_of is_transaction false n))

abbrev made_words : List Fixed
made_words = fixed.Message ∷ fixed.Contract ∷ fixed.Queue ∷ fixed.Service ∷ fixed.Route ∷ fixed.Broker ∷ fixed.Table ∷ []

no_made : (t : Lexeme) → AllOff made_words t → made_of t ≡ None
unfolding made_of
no_made t (a, (b, (c, (d, (e, (f, (g, _))))))) = rw (a, b, c, d, e, f, g)

procedure_made : Excludes procedure_word made_of
unfolding procedure_word
procedure_made t x h =
    chain (is_fixed fixed.Procedure t) tt _ x (λ k. no_made t (all_off fixed.Procedure t k made_words refl))
    (λ h. chain (is_fixed fixed.Proc t) tt None x (λ k. no_made t (all_off fixed.Proc t k made_words refl)) (λ h. absurd cc) h) h

pub procedure_create : BeginsNot procedure_word (closed create_rest)
unfolding closed create_rest
procedure_create = bind-not procedure_word create_rest (λ v. map_rule (λ _. v) semicolon) Stops
    (bind-not procedure_word (token made_of (example fixed.Table) made.Table) made_by Stops (token-not procedure_word made_of (example fixed.Table) made.Table procedure_made))

-- ---- words that aren't supported

is_barred : (t : Lexeme) (b : Barred) → first_barred t ≡ Some b → Other first_words t
unfolding first_barred
is_barred t b h =
    chain (is_fixed fixed.Drop t) barreds.Drop _ b (λ k. record { word = fixed.Drop; is = k; apart = refl })
    (λ h. chain (is_fixed fixed.While t) barreds.While _ b (λ k. record { word = fixed.While; is = k; apart = refl })
    (λ h. chain (is_fixed fixed.Print t) barreds.Print _ b (λ k. record { word = fixed.Print; is = k; apart = refl })
    (λ h. chain (is_fixed fixed.Exec t) barreds.Exec _ b (λ k. record { word = fixed.Exec; is = k; apart = refl })
    (λ h. chain (is_fixed fixed.Execute t) barreds.Execute _ b (λ k. record { word = fixed.Execute; is = k; apart = refl })
    (λ h. chain (is_fixed fixed.Use t) barreds.Use _ b (λ k. record { word = fixed.Use; is = k; apart = refl })
    (λ h. chain (is_fixed fixed.Save t) barreds.Save None b (λ k. record { word = fixed.Save; is = k; apart = refl }) (λ h. absurd cc) h) h) h) h) h) h) h

pub barred_statement : (in_batch : Bool) (n : ℕ) → BeginsNot first_barred (any_statement (first_of in_batch n) (rest_of in_batch n))
barred_statement in_batch n = statement-not first_barred is_barred in_batch n

end_off : (t : Lexeme) → AllOff first_words t → fixed_at fixed.End t ≡ None
end_off t (a, _) = fixed_none fixed.End t a

inner_off : (in_batch : Bool) (n : ℕ) (t : Lexeme) → AllOff first_words t → inner_first in_batch n t ≡ None
inner_off in_batch n t (_, more) = begins_none in_batch n t more

-- nor does a turn of a block
pub turn-not : {B : Type 0} (f : Lexeme → Option B) → ((t : Lexeme) (b : B) → f t ≡ Some b → Other first_words t) → (in_batch : Bool) (n : ℕ) → BeginsNot f (any_turn (inner_first in_batch n) (rest_of in_batch n) (end_tail (sum n)))
turn-not f other in_batch n = alt-not f (inner_first in_batch n) (λ b. map_rule some_statement (closed (rest_of in_batch n b))) (end_word (end_tail (sum n))) Stops
    (λ t b h. inner_off in_batch n t (all_others first_words t (other t b h)))
    (also-not f (sign fixed.End) (block_end (end_tail (sum n))) (token-not f (fixed_at fixed.End) (example fixed.End) tt (λ t b h. end_off t (all_others first_words t (other t b h)))))

pub barred_turn : (in_batch : Bool) (n : ℕ) → BeginsNot first_barred (any_turn (inner_first in_batch n) (rest_of in_batch n) (end_tail (sum n)))
barred_turn in_batch n = turn-not first_barred is_barred in_batch n

is_try : (t : Lexeme) (b : Barred) → try_of t ≡ Some b → is_fixed fixed.Try t ≡ true
unfolding try_of
is_try t b h = chain (is_fixed fixed.Try t) barreds.Try None b (λ k. k) (λ h. absurd cc) h

pub try_block : (in_batch : Bool) (n : ℕ) → BeginsNot try_of (map_rule s.Block (block_at in_batch n))
try_block in_batch n = block-not try_of (λ t b h. record { word = fixed.Try; is = is_try t b h; apart = refl }) in_batch n
