-- Rules that are lawful and may end at places of a kind, made from each other.
use Rattle.std.proofs.Common.{◌≡◌, ℕ, List, [], ◌∷◌, ◌++◌, Option, Some, None, sym, subst}
use Rattle.sb_grammar.specs.declared.lexeme.Lexeme.{Lexeme}
use Rattle.sb_grammar.specs.declared.choice.Barred.{Barred}
use Rattle.sb_grammar.specs.declared.word.Fixed.{Fixed}
use Rattle.sb_grammar.specs.declared.word.Fixed.TheVariants as fixed
use Rattle.sb_grammar.specs.Words.{fixed_at, example}
use Rattle.sb_grammar.specs.Rules.{Rule, Toks, token, also, ended, alt, bind, map_rule, pure, optional, loop, barred, nothing, head, Any, Rests, most, singleton, push_step, pushed, drop_value, skipped}
use Rattle.sb_grammar.specs.Values.{sign, word, phrase}
use Rattle.sb_grammar.specs.Definitions.{commas}
use Rattle.sb_grammar.proofs.Laws.{Lawful, token-lawful, also-lawful, ended-lawful, alt-lawful, bind-lawful, map-lawful, pure-lawful, optional-lawful, loop-lawful, loop-calm, loop-min, barred-lawful}
use Rattle.sb_grammar.proofs.WordLaws.{is_example}

pub record Sound {A : Type 0} (r : Rule A) (F : Toks → Type 0) : Type 0 where
  pub lawful : Lawful r
  pub fine : (follow : Toks) → F follow → r.Fine follow

pub under : {A : Type 0} (r : Rule A) (G F : Toks → Type 0) → Sound r G → ((follow : Toks) → F follow → G follow) → Sound r F
under r G F R less = record { lawful = R.lawful; fine = λ follow g. R.fine follow (less follow g) }

-- what may end anywhere may end there
pub anywhere : {A : Type 0} (r : Rule A) (F : Toks → Type 0) → Sound r Any → Sound r F
anywhere r F R = record { lawful = R.lawful; fine = λ follow g. R.fine follow tt }

pub pure-is : {A : Type 0} (a : A) (F : Toks → Type 0) → Sound (pure a) F
pure-is a F = record { lawful = pure-lawful a; fine = λ follow g. tt }

pub token-is : {A : Type 0} (f : Lexeme → Option A) (ex : Lexeme) (a : A) → f ex ≡ Some a → Sound (token f ex a) Any
token-is f ex a e = record { lawful = token-lawful f ex a e; fine = λ follow g. tt }

pub sign-is : (w : Fixed) → Sound (sign w) Any
sign-is w = token-is (fixed_at w) (example w) tt (is_example w)

pub map-is : {A B : Type 0} (f : A → B) (r : Rule A) (F : Toks → Type 0) → Sound r F → Sound (map_rule f r) F
map-is f r F R = record { lawful = map-lawful f r R.lawful; fine = R.fine }

pub also-is : {A B : Type 0} (p : Rule A) (q : Rule B) (F : Toks → Type 0) → Sound p Any → Sound q F → Sound (also p q) F
also-is p q F P Q = record { lawful = also-lawful p q P.lawful Q.lawful (λ follow g. P.fine (q.min ++ follow) tt); fine = Q.fine }

-- the first may end where the second begins, whatever may follow the second
pub also_open : {A B : Type 0} (p : Rule A) (q : Rule B) (G F : Toks → Type 0) → Sound p G → Sound q F → ((follow : Toks) → G (q.min ++ follow)) → Sound (also p q) F
also_open p q G F P Q seam = record { lawful = also-lawful p q P.lawful Q.lawful (λ follow g. P.fine (q.min ++ follow) (seam follow)); fine = Q.fine }

pub word-is : {A : Type 0} (w : Fixed) (r : Rule A) (F : Toks → Type 0) → Sound r F → Sound (word w r) F
word-is w r F R = also-is (sign w) r F (sign-is w) R

pub phrase-is : (ws : List Fixed) → Sound (phrase ws) Any
unfolding phrase
phrase-is [] = pure-is tt Any
phrase-is (w ∷ ws) = word-is w (phrase ws) Any (phrase-is ws)

-- closed by a fixed word, which the rule must be able to stand before
pub ended-is : {A : Type 0} (p : Rule A) (w : Fixed) (G : Toks → Type 0) → Sound p G → ((follow : Toks) → G (example w ∷ follow)) → Sound (ended p (sign w)) Any
ended-is p w G P ends = record { lawful = ended-lawful p (sign w) P.lawful (sign-is w).lawful (λ follow g. P.fine (example w ∷ follow) (ends follow)); fine = λ follow g. tt }

pub bind-is : {A B : Type 0} (p : Rule A) (q : A → Rule B) (G F : Toks → Type 0) → Sound p G → ((x : A) → Sound (q x) F) → ((x : A) (follow : Toks) → F follow → G ((q x).min ++ follow)) → Sound (bind p q F) F
bind-is p q G F P Q seam = record {
  lawful = bind-lawful p q F P.lawful (λ x. (Q x).lawful) (λ x follow g. (Q x).fine follow g) (λ x follow g. P.fine ((q x).min ++ follow) (seam x follow g));
  fine = λ follow g. g;
}

-- behind a rule that may end anywhere
pub then-is : {A B : Type 0} (p : Rule A) (q : A → Rule B) (F : Toks → Type 0) → Sound p Any → ((x : A) → Sound (q x) F) → Sound (bind p q F) F
then-is p q F P Q = bind-is p q Any F P Q (λ x follow g. tt)

pub optional-is : {A B : Type 0} (f : Lexeme → Option B) (p : B → Rule A) (F : Toks → Type 0) → ((b : B) → Sound (p b) F) → ((follow : Toks) → F follow → head f follow ≡ None) → Sound (optional f p) F
optional-is f p F P apart = record { lawful = optional-lawful f p (λ b. (P b).lawful); fine = λ follow g. (apart follow g, λ b. (P b).fine follow g) }

pub skipped-is : {B : Type 0} (f : Lexeme → Option B) (F : Toks → Type 0) → ((follow : Toks) → F follow → head f follow ≡ None) → Sound (skipped f) F
skipped-is f F apart = map-is drop_value (optional f (λ _. nothing)) F (optional-is f (λ _. nothing) F (λ _. pure-is tt F) apart)

pub alt-is : {A B : Type 0} (f : Lexeme → Option B) (p : B → Rule A) (q : Rule A) (F : Toks → Type 0) → ((b : B) → Sound (p b) F) → Sound q F → ((follow : Toks) → F follow → head f (q.min ++ follow) ≡ None) → Sound (alt f p q F) F
alt-is f p q F P Q apart = record {
  lawful = alt-lawful f p q F (λ b. (P b).lawful) Q.lawful (λ b follow g. (P b).fine follow g) (λ follow g. Q.fine follow g) apart;
  fine = λ follow g. g;
}

pub barred-is : {A : Type 0} (f : Lexeme → Option Barred) (q : Rule A) (F : Toks → Type 0) → Sound q F → ((follow : Toks) → F follow → head f (q.min ++ follow) ≡ None) → Sound (barred f q F) F
barred-is f q F Q apart = record { lawful = barred-lawful f q F Q.lawful (λ follow g. Q.fine follow g) apart; fine = λ follow g. g }

pub loop-is : {A B : Type 0} (n : ℕ) (f : Lexeme → Option B) (p : B → A → Rule A) (a : A) (F : Toks → Type 0) → ((b : B) (a : A) → Sound (p b a) F) → ((follow : Toks) → F follow → head f follow ≡ None) → Sound (loop n f p a) F
loop-is n f p a F P apart = record { lawful = loop-lawful n f p a (λ b a. (P b a).lawful); fine = λ follow g. loop-calm n f p a follow (apart follow g, λ b a. (P b a).fine follow g) }

-- a member that goes on by a loop
pub chain-is : {A B : Type 0} (p : Rule A) (n : ℕ) (f : Lexeme → Option B) (q : B → A → Rule A) (F : Toks → Type 0) → Sound p F → ((b : B) (a : A) → Sound (q b a) F) → ((follow : Toks) → F follow → head f follow ≡ None)
    → Sound (bind p (λ a. loop n f q a) F) F
chain-is p n f q F P Q apart = bind-is p (λ a. loop n f q a) F F P (λ a. loop-is n f q a F Q apart) (λ a follow g. subst (λ (m : Toks). F (m ++ follow)) (sym (loop-min n f q a)) g)

pub commas-is : {A : Type 0} (p : Rule A) (F G : Toks → Type 0) → Sound p F → ((follow : Toks) → G follow → F follow) → ((follow : Toks) → G follow → head (fixed_at fixed.Comma) follow ≡ None) → Sound (commas p) G
unfolding commas
commas-is p F G P less apart =
    let step : (b : Unit {0}) (all : _) → Sound (push_step p b all) G = λ b all. map-is (pushed all) p G (under p F G P less) in
    let rests : (follow : Toks) → G follow → Rests (fixed_at fixed.Comma) (push_step p) follow = λ follow g. (apart follow g, λ b all. (step b all).fine follow g) in
    let whole = chain-is (map_rule singleton p) most (fixed_at fixed.Comma) (push_step p) (Rests (fixed_at fixed.Comma) (push_step p)) (record { lawful = map-lawful singleton p P.lawful; fine = λ follow g. g.1 tt [] }) (λ b all. record { lawful = (step b all).lawful; fine = λ follow g. g.1 b all }) (λ follow g. g.0) in
    record { lawful = whole.lawful; fine = rests }
