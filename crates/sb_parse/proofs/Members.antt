-- A loop of the code that has read some members with commas between.
use Rattle.std.proofs.Common.{◌≡◌, ℕ, ◌<◌, ◌≤◌, ◌^◌, Bool, true, List, [], ◌∷◌, ◌++◌, length, drop, get_or, arith, Some, None, Ok, Err, sym, ap, subst, ◌∙◌}
use Rattle.sb_grammar.specs.declared.lexeme.Lexeme.{Lexeme}
use Rattle.std.specs.Prelude.{if◌then◌else◌}
use Rattle.sb_grammar.specs.declared.word.Fixed.{Fixed}
use Rattle.sb_grammar.specs.declared.word.Fixed.TheVariants as fixed
use Rattle.sb_grammar.specs.Words.{is_fixed, fixed_at}
use Rattle.sb_grammar.specs.Rules.{Toks, Stop, bad, barred_at, Read, Rule, map_rule, pure, singleton, pushed, push_step, most, head}
use Rattle.sb_grammar.specs.Definitions.{commas}
use Rattle.sb_grammar.specs.Dialogs.{assignment, assignment_rest, assignments, first_assigned}
use Rattle.sb_grammar.specs.declared.tree.Assignment.{Assignment}
use Rattle.sb_grammar.proofs.Laws.{bind_by, Turns, turns_start, turns_go, turns_fail, turns_end}
use Rattle.sb_parse.specs.declared.fault.Fault.{Fault}
use Rattle.sb_parse.specs.declared.fault.Fault.TheVariants.{Memory, Bad, Unsupported}
use Rattle.sb_parse.specs.Gives.{Fails}
use Rattle.sb_parse.specs.Past.{Behind}

pub behind_cut : (w : Fixed) (z rest : Toks) (t : Lexeme) → 1 ≤ length z → t ≡ get_or z 0 t → is_fixed w t ≡ true → rest ≡ drop 1 z → Behind w z rest
unfolding fixed_at
behind_cut w [] rest t some is h e = absurd (omega arith)
behind_cut w (u ∷ us) rest t some is h e =
    record { first = t; parts = ap (λ (v : Lexeme). v ∷ us) (sym is) ∙ ap (λ (z : Toks). t ∷ z) (sym e); is = ap (λ (b : Bool). if b then Some tt else None) h }

pub under_most : (n : ℕ) → n < 2 ^ 63 → n < most
unfolding most
under_most n h = h

module _ {A : Type 0} (p : Rule A) where
  -- so many members are read, and reading goes on from here as from the start
  abbrev pub Members : List A → Toks → Read (List A) → Type 0
  Members all ts whole = Turns (fixed_at fixed.Comma) (push_step p) all ts whole

  pub members_start : (ts rest : Toks) (x : A) (none all : List A) → p.reads ts ≡ Ok (x, rest) → length rest < 2 ^ 63 → none ≡ [] → all ≡ none ++ x ∷ [] → Members all rest ((commas p).reads ts)
  unfolding commas
  members_start ts rest x none all e short empty is =
      subst (λ (z : List A). Members z rest ((commas p).reads ts)) (sym (is ∙ ap (λ (z : List A). z ++ x ∷ []) empty))
      (turns_start (fixed_at fixed.Comma) (push_step p) (map_rule singleton p) most ts rest (x ∷ []) (ap (bind_by (λ (v : A). pure (singleton v))) e) (under_most (length rest) short))

  pub members_go : (all more : List A) (x : A) (ts behind rest : Toks) (whole : Read (List A)) → Members all ts whole → Behind fixed.Comma ts behind → p.reads behind ≡ Ok (x, rest) → length rest ≤ length behind → more ≡ all ++ x ∷ [] → Members more rest whole
  members_go all more x ts behind rest whole T b e short is =
      subst (λ (z : List A). Members z rest whole) (sym is)
      (turns_go (fixed_at fixed.Comma) (push_step p) all (all ++ x ∷ []) b.first behind rest tt whole (subst (λ (z : Toks). Members all z whole) b.parts T) b.is (ap (bind_by (λ (v : A). pure (pushed all v))) e) short)

  member_fails : (n : Stop) (all : List A) (ts behind : Toks) (whole : Read (List A)) → Members all ts whole → Behind fixed.Comma ts behind → p.reads behind ≡ Err n → whole ≡ Err n
  member_fails n all ts behind whole T b e =
      turns_fail (fixed_at fixed.Comma) (push_step p) all b.first behind tt n whole (subst (λ (z : Toks). Members all z whole) b.parts T) b.is (ap (bind_by (λ (v : A). pure (pushed all v))) e)

  pub members_fail : (e : Fault) (all : List A) (ts behind : Toks) (whole : Read (List A)) → Members all ts whole → Behind fixed.Comma ts behind → Fails e (p.reads behind) → Fails e whole
  members_fail Memory all ts behind whole T b h = tt
  members_fail (Bad n) all ts behind whole T b h = member_fails (bad n) all ts behind whole T b h
  members_fail (Unsupported n w) all ts behind whole T b h = member_fails (barred_at n w) all ts behind whole T b h

  pub members_end : (all : List A) (ts : Toks) (whole : Read (List A)) → Members all ts whole → head (fixed_at fixed.Comma) ts ≡ None → whole ≡ Ok (all, ts)
  members_end all ts whole T h = turns_end (fixed_at fixed.Comma) (push_step p) all ts whole T h

-- assignments begin with one whose variable is read
pub assignments_start : (v : List ℕ) (ts rest : Toks) (x : Assignment) (none all : List Assignment) → (assignment_rest v).reads ts ≡ Ok (x, rest) → length rest < 2 ^ 63 → none ≡ [] → all ≡ none ++ x ∷ [] → Members assignment all rest ((assignments v).reads ts)
unfolding assignments
assignments_start v ts rest x none all e short empty is =
    subst (λ (z : List Assignment). Members assignment z rest ((assignments v).reads ts)) (sym (is ∙ ap (λ (z : List Assignment). z ++ x ∷ []) empty))
    (turns_start (fixed_at fixed.Comma) (push_step assignment) (map_rule first_assigned (assignment_rest v)) most ts rest (x ∷ []) (ap (bind_by (λ (v : Assignment). pure (first_assigned v))) e) (under_most (length rest) short))
