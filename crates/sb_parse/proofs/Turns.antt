-- A loop of the code that has read some turns, where the tokens are cut as the code cuts them.
use Rattle.std.proofs.Common.{◌≡◌, ◌≤◌, [], ◌∷◌, length, drop, get_or, Option, Some, Ok, Err, sym, ap, subst, ◌∙◌, arith}
use Rattle.sb_grammar.specs.declared.lexeme.Lexeme.{Lexeme}
use Rattle.sb_grammar.specs.declared.word.Fixed.{Fixed}
use Rattle.sb_grammar.specs.Words.{fixed_at}
use Rattle.sb_grammar.specs.Rules.{Toks, Stop, bad, barred_at, Read, Rule}
use Rattle.sb_grammar.proofs.Laws.{Turns, turns_go, turns_fail}
use Rattle.sb_parse.specs.declared.fault.Fault.{Fault}
use Rattle.sb_parse.specs.declared.fault.Fault.TheVariants.{Memory, Bad, Unsupported}
use Rattle.sb_parse.specs.Gives.{Fails}
use Rattle.sb_parse.specs.Past.{Behind}

module _ {A B : Type 0} (f : Lexeme → Option B) (p : B → A → Rule A) where
  at_cut : (z : Toks) (t : Lexeme) (a : A) (b : B) (n : Stop) (whole : Read A) → Turns f p a z whole → 1 ≤ length z → t ≡ get_or z 0 t → f t ≡ Some b → (p b a).reads (drop 1 z) ≡ Err n → whole ≡ Err n
  at_cut [] t a b n whole T some is h e = absurd (omega arith)
  at_cut (u ∷ us) t a b n whole T some is h e = turns_fail f p a u us b n whole T (ap f (sym is) ∙ h) e

  pub turns_cut_fails : (e : Fault) (z : Toks) (t : Lexeme) (a : A) (b : B) (whole : Read A) → Turns f p a z whole → 1 ≤ length z → t ≡ get_or z 0 t → f t ≡ Some b → Fails e ((p b a).reads (drop 1 z)) → Fails e whole
  turns_cut_fails Memory z t a b whole T some is h q = tt
  turns_cut_fails (Bad n) z t a b whole T some is h q = at_cut z t a b (bad n) whole T some is h q
  turns_cut_fails (Unsupported n w) z t a b whole T some is h q = at_cut z t a b (barred_at n w) whole T some is h q

-- behind a word that goes on with the value
module _ {A : Type 0} (w : Fixed) (p : Unit {0} → A → Rule A) where
  pub behind_goes : (z behind rest : Toks) (a c : A) (whole : Read A) → Turns (fixed_at w) p a z whole → Behind w z behind → (p tt a).reads behind ≡ Ok (c, rest) → length rest ≤ length behind → Turns (fixed_at w) p c rest whole
  behind_goes z behind rest a c whole T b e short = turns_go (fixed_at w) p a c b.first behind rest tt whole (subst (λ (y : Toks). Turns (fixed_at w) p a y whole) b.parts T) b.is e short

  stops_behind : (n : Stop) (z behind : Toks) (a : A) (whole : Read A) → Turns (fixed_at w) p a z whole → Behind w z behind → (p tt a).reads behind ≡ Err n → whole ≡ Err n
  stops_behind n z behind a whole T b e = turns_fail (fixed_at w) p a b.first behind tt n whole (subst (λ (y : Toks). Turns (fixed_at w) p a y whole) b.parts T) b.is e

  pub behind_fails : (e : Fault) (z behind : Toks) (a : A) (whole : Read A) → Turns (fixed_at w) p a z whole → Behind w z behind → Fails e ((p tt a).reads behind) → Fails e whole
  behind_fails Memory z behind a whole T b h = tt
  behind_fails (Bad n) z behind a whole T b h = stops_behind (bad n) z behind a whole T b h
  behind_fails (Unsupported n v) z behind a whole T b h = stops_behind (barred_at n v) z behind a whole T b h
